-- A text that is accepted left a place of its buffer free: reading it came to the file's end, and it is not cut off. Assumes nothing.
use Prim.Native.Nat.{ℕ, suc, ◌≤◌, ◌<◌}
use mathlib.Core.Path.{◌≡◌, refl, sym, ap, ◌∙◌}
use mathlib.Core.Bool.{Bool, true, ◌||◌, or-true}
use mathlib.Core.List.{List}
use native.Mathlib.Decide.{dec_lt}
use native.Mathlib.Omega.{arith}
use borrow.Author.Tests.{lt-ltb}
use lib.Dec.{eqb}
use lib.ListN.{length, get_or, take}
use lib.Seq.{length-take-le}
use Rattle.answer.specs.declared.Answer.{Answer}
use Rattle.answer.proofs.FaultLaws.{numbered, never_accepted}
use Rattle.text.specs.Walk.{bad_size}
use Rattle.layout.specs.Layout.{most_pattern_text, most_log_text}
use Rattle.pattern_store.specs.Format.{pattern_text}
use Rattle.log_line.specs.Format.{log_text}
use Rattle.pattern.specs.Answer.{host_faults as pattern_faults, answer_of, pattern_answer}
use Rattle.log_reader.specs.Answer.{host_faults as log_faults, text_answer, log_answer}
use Rattle.judge_files.specs.Files.{PatternRead, LogRead}

-- A text that fills its buffer has a bad size.
filled : (text : List ℕ) (most size : ℕ) → length text ≡ suc most → size ≤ length text → length text ≤ size → bad_size most (take size text) ≡ true
filled text most size e h g =
    let l = length-take-le size text h in
    ap (λ (b : Bool). eqb (length (take size text)) 0 || b) (lt-ltb most (length (take size text)) (omega arith)) ∙ or-true (eqb (length (take size text)) 0)

-- The text of a bad size is refused, whatever the host's tests say.
pattern_refused : (t pattern : List ℕ) → bad_size most_pattern_text t ≡ true → (pattern_answer t pattern).number ≡ 0 → ⊥
unfolding numbered
pattern_refused t pattern e = never_accepted (pattern_faults pattern) (answer_of t (pattern_text t)) refl (rw e (λ z. absurd (omega arith)))

log_refused : (t log : List ℕ) (labels : ℕ) → bad_size most_log_text t ≡ true → (log_answer t labels log).number ≡ 0 → ⊥
unfolding numbered
log_refused t log labels e = never_accepted (log_faults labels log) (text_answer t (log_text labels t)) refl (rw e (λ z. absurd (omega arith)))

-- A text that is not of a bad size left a place free.
free : (text : List ℕ) (most size : ℕ) → length text ≡ suc most → size ≤ length text → (bad_size most (take size text) ≡ true → ⊥) → size < length text
free text most size e h good = go (dec_lt size (length text))
  where
    go : Dec (size < length text) → size < length text
    go (yes l) = l
    go (no k) = absurd (good (filled text most size e h (omega arith)))

pub pattern_whole : (text pattern pattern' : List ℕ) (r : Answer) (d : PatternRead text pattern r pattern')
    → length text ≡ suc most_pattern_text → r.number ≡ 0 → d.size < length text
pattern_whole text pattern pattern' r d e z =
    free text most_pattern_text d.size e d.fits
    (λ bad. pattern_refused (take d.size text) pattern bad (sym (ap (λ (a : Answer). a.number) d.answered) ∙ z))

pub log_whole : (text pattern log log' : List ℕ) (r : Answer) (d : LogRead text pattern log r log')
    → length text ≡ suc most_log_text → r.number ≡ 0 → d.size < length text
log_whole text pattern log log' r d e z =
    free text most_log_text d.size e d.fits
    (λ bad. log_refused (take d.size text) log (get_or pattern 0 0) bad (sym (ap (λ (a : Answer). a.number) d.answered) ∙ z))
