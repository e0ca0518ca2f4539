-- What the parts of the reader that go over the whole text answer.
use Rattle.std.specs.Prelude.{ℕ, ◌≡◌, cond, List, eqb, get_or, Result, Ok, Err}
use Rattle.text.specs.Walk.{Outcome, accepted, faulty}
use Rattle.pattern_store.specs.Format.{Known, pattern_text}
use Rattle.pattern_store.specs.Buffer.{bead_count, buffer_of}
use Rattle.pattern_line.specs.Answers.{refusal_number}
use Rattle.pattern_line.specs.declared.refusals.Refusal.{Refusal}
use Rattle.text.specs.declared.faults.Fault.{Fault}
use Rattle.pattern_late.specs.Late.{late_faults}

-- A text's answer in numbers: its bead count, or the refusal's number and line.
abbrev pub text_said : Result ℕ (Fault Refusal) → Outcome ℕ
text_said (Ok count) = accepted count
text_said (Err f) = faulty (refusal_number f.refusal) f.line

abbrev pub counted : ℕ → Outcome (Unit {0}) → Outcome ℕ
counted n (accepted u) = accepted n
counted n (faulty k line) = faulty k line

-- What a buffer's numbers say of the text that all its lines come from: 13 where there is no row, then 15 and 16.
unfoldable pub concluded : List ℕ → Outcome ℕ
concluded b = cond (eqb (get_or b 1 0) 0) (faulty 13 1) (counted (get_or b 1 0) (late_faults b))

abbrev pub beads_of : Outcome Known → Outcome ℕ
beads_of (accepted k) = accepted (bead_count k.rows)
beads_of (faulty k line) = faulty k line

pub record TextRead (text : List ℕ) (r : Result ℕ (Fault Refusal)) (buffer : List ℕ) : Type 0 where
  pub said : text_said r ≡ beads_of (pattern_text text)
  pub numbers : (k : Known) → pattern_text text ≡ accepted k → buffer ≡ buffer_of k
