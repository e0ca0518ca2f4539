-- What a call of the log reader promises (`log_promise`); and that it refuses with a number and a line just where document 01's list gives them
-- (`log_refused`), leaves the room as it was then, and accepts just where no entry applies.
-- Assumes nothing.
use Prim.Native.Nat.{ℕ, ◌≤◌, ◌<◌}
use mathlib.Core.Path.{◌≡◌, refl, sym, ap, ◌∙◌, subst}
use mathlib.Core.Logic.{◌↔◌}
use mathlib.Core.Bool.{Bool, true, false, cond}
use mathlib.Core.List.{List, [], ◌∷◌, ◌++◌}
use native.Mathlib.Omega.{arith}
use borrow.Author.Tests.{lt-ltb, le-ltb, ltb-true, ltb-false, eq-eqb, eqb-true}
use lib.Dec.{T, eqb, ltb}
use lib.ListN.{length}
use Rattle.sets.proofs.Truth.{yes_true, true_yes, no_false, false_no}
use Rattle.answer.specs.declared.Answer.{Answer}
use Rattle.answer.specs.Faults.{first_fault, answer_or, kept_or}
use Rattle.text.specs.Split.{split}
use Rattle.text.specs.Lines.{TextLine, lines_of, whole}
use Rattle.text.specs.Walk.{Judged, refused, passed, Outcome, accepted, faulty, walk, bad_size}
use Rattle.text.specs.FirstBad.{FirstBad}
use Rattle.text.proofs.FirstBadLaws.{walk_accepts, walk_refuses, Numbered, bad_number, size_faulty, size_passes}
use Rattle.layout.specs.Layout.{most_log_text, most_line, log_length}
use Rattle.log_line.specs.Header.{columns_of, is_header}
use Rattle.log_line.specs.Step.{Step, step_of, step_at, malformed, misnumbered, mislinked, mislabelled, over_limit}
use Rattle.log_line.specs.Format.{Known, judge_values, judge_step, judge_line, log_format, conclude, log_text}
use Rattle.log_walk.specs.Filled.{filled_by}
use Rattle.log_byte.specs.Byte.{log_byte}
use Rattle.log_reader.specs.Answer.{bad_count, refused_with, text_answer, log_answer, log_after}
use Rattle.log_reader.specs.Refused.{Called, Readable, LinesPass, Refused, short, labels, size, line, nothing}
use Rattle.log_reader.specs.Promise.{Promise, refused as refused_so, accepted as accepted_so}

-- ---- no line is refused with 0

module _ (count : ℕ) where
  values_numbered : (k : Known) (v : ℕ) (x : Step) → Numbered (judge_values count k v x)
  unfolding Numbered
  values_numbered k v x =
      go (mislinked v x.preds) (mislabelled count v x.labels) (over_limit k.steps v x.preds) (record { columns = k.columns; steps = k.steps ++ (x ∷ []) })
    where
      go : (a b c : Bool) (t : Known) → Numbered (cond a (refused 24) (cond b (refused 25) (cond c (refused 26) (passed t))))
      go true b c t = λ z. absurd (omega arith)
      go false true c t = λ z. absurd (omega arith)
      go false false true t = λ z. absurd (omega arith)
      go false false false t = tt

  step_numbered : (k : Known) (n : ℕ) (fs : List (List ℕ)) → Numbered (judge_step count k n fs)
  unfolding Numbered
  step_numbered k n fs =
      go (malformed k.columns fs) (misnumbered k.columns n fs) (judge_values count k (step_at n) (step_of k.columns fs))
      (values_numbered k (step_at n) (step_of k.columns fs))
    where
      go : (a b : Bool) (j : Judged Known) → Numbered j → Numbered (cond a (refused 21) (cond b (refused 23) j))
      go true b j r = λ z. absurd (omega arith)
      go false true j r = λ z. absurd (omega arith)
      go false false j r = r

  line_numbered : (k : Known) (n : ℕ) (l : TextLine) → Numbered (judge_line count k n l)
  unfolding Numbered
  line_numbered k n l =
      go (whole most_line l) (eqb n 1) (is_header fields) (record { columns = columns_of fields; steps = [] }) (judge_step count k n fields) (step_numbered k n fields)
    where
      fields : List (List ℕ)
      fields = split 32 l.bytes

      go : (a b c : Bool) (t : Known) (j : Judged Known) → Numbered j → Numbered (cond a (cond b (cond c (passed t) (refused 22)) j) (refused 21))
      go false b c t j r = λ z. absurd (omega arith)
      go true true true t j r = tt
      go true true false t j r = λ z. absurd (omega arith)
      go true false c t j r = r

-- ---- the answer and the room, by the host's tests and by what the text says

module _ (text : List ℕ) (count : ℕ) (buffer : List ℕ) where
  module _ (h : length buffer < log_length) where
    short_answer : log_answer text count buffer ≡ refused_with text 1 0
    unfolding first_fault answer_or log_byte
    short_answer = rw (lt-ltb (length buffer) log_length h) refl

    short_after : log_after text count buffer ≡ buffer
    unfolding first_fault kept_or
    short_after = rw (lt-ltb (length buffer) log_length h) refl

  module _ (long : log_length ≤ length buffer) (t : T (bad_count count)) where
    count_answer : log_answer text count buffer ≡ refused_with text 5 0
    unfolding first_fault answer_or log_byte
    count_answer = rw (le-ltb (length buffer) log_length long, yes_true (bad_count count) t) refl

    count_after : log_after text count buffer ≡ buffer
    unfolding first_fault kept_or
    count_after = rw (le-ltb (length buffer) log_length long, yes_true (bad_count count) t) refl

  module _ (called : Called count buffer) where
    called_answer : log_answer text count buffer ≡ text_answer text (log_text count text)
    unfolding first_fault answer_or
    called_answer = rw (le-ltb (length buffer) log_length called.long, no_false (bad_count count) called.counted) refl

    called_after : log_after text count buffer ≡ filled_by (log_text count text) buffer
    unfolding first_fault kept_or
    called_after = rw (le-ltb (length buffer) log_length called.long, no_false (bad_count count) called.counted) refl

    said_answer : (number at : ℕ) → log_text count text ≡ faulty number at → log_answer text count buffer ≡ refused_with text number at
    said_answer number at e = called_answer ∙ ap (text_answer text) e

    said_after : (number at : ℕ) → log_text count text ≡ faulty number at → log_after text count buffer ≡ buffer
    said_after number at e = called_after ∙ ap (λ (o : Outcome Known). filled_by o buffer) e

  abbrev lines : Outcome Known
  lines = walk (judge_line count) (log_format count).start 1 (lines_of text)

  size_said : T (bad_size most_log_text text) → log_text count text ≡ faulty 20 0
  size_said t = ap conclude (size_faulty (log_format count) text t)

  module _ (sized : T (bad_size most_log_text text) → ⊥) where
    line_said : (number at : ℕ) → lines ≡ faulty number at → log_text count text ≡ faulty number at
    line_said number at e = ap conclude (size_passes (log_format count) text sized ∙ e)

    nothing_said : (k : Known) → lines ≡ accepted k → length k.steps ≡ 0 → log_text count text ≡ faulty 26 1
    nothing_said k e z = ap conclude (size_passes (log_format count) text sized ∙ e) ∙ rw (eq-eqb (length k.steps) 0 z) refl

  -- ---- the theorems

  -- The first bad line, and all lines that pass, as the walk has them.
  walk_line : (number at : ℕ) → lines ≡ faulty number at ↔ FirstBad (judge_line count) (log_format count).start 1 (lines_of text) number at
  walk_line number at = walk_refuses (judge_line count) (log_format count).start 1 number at (lines_of text)

  walk_all : (k : Known) → lines ≡ accepted k ↔ LinesPass text count k
  walk_all k = walk_accepts (judge_line count) (log_format count).start k 1 (lines_of text)

  answers : (number at : ℕ) → Refused text count buffer number at → log_answer text count buffer ≡ refused_with text number at
  answers number at (short h) = short_answer h
  answers number at (labels l t) = count_answer l t
  answers number at (size c t) = said_answer c number at (size_said t)
  answers number at (line r b) = said_answer r.called number at (line_said r.sized number at ((walk_line number at).1 b))
  answers number at (nothing k r p z) = said_answer r.called number at (nothing_said r.sized k ((walk_all k).1 p) z)

  -- A refused call leaves the room as it was.
  pub refused_keeps : (number at : ℕ) → Refused text count buffer number at → log_after text count buffer ≡ buffer
  refused_keeps number at (short h) = short_after h
  refused_keeps number at (labels l t) = count_after l t
  refused_keeps number at (size c t) = said_after c number at (size_said t)
  refused_keeps number at (line r b) = said_after r.called number at (line_said r.sized number at ((walk_line number at).1 b))
  refused_keeps number at (nothing k r p z) = said_after r.called number at (nothing_said r.sized k ((walk_all k).1 p) z)

  numbers : (number at : ℕ) → Refused text count buffer number at → number ≡ 0 → ⊥
  numbers number at (short h) z = absurd (omega arith)
  numbers number at (labels l t) z = absurd (omega arith)
  numbers number at (size c t) z = absurd (omega arith)
  numbers number at (line r b) z = bad_number (judge_line count) (line_numbered count) b z
  numbers number at (nothing k r p e) z = absurd (omega arith)

  none : (log_answer text count buffer).number ≡ 0 → (number at : ℕ) → Refused text count buffer number at → ⊥
  none z number at r = numbers number at r (sym (ap (λ (a : Answer). a.number) (answers number at r)) ∙ z)

  abbrev Promised : Type 0
  Promised = Promise text count buffer (log_answer text count buffer) (log_after text count buffer)

  -- A call is refused by one of the list's entries, or it is accepted.
  pub log_promise : Promise text count buffer (log_answer text count buffer) (log_after text count buffer)
  log_promise = host (ltb (length buffer) log_length) refl (bad_count count) refl (bad_size most_log_text text) refl
    where
      refuse : (number at : ℕ) → Refused text count buffer number at → Promised
      refuse number at r = refused_so number at r (answers number at r) (refused_keeps number at r)

      accept : Called count buffer → (k : Known) → LinesPass text count k → log_text count text ≡ accepted k → Promised
      accept c k p e =
          let counts = called_answer c ∙ ap (text_answer text) e in
          accepted_so (none (ap (λ (a : Answer). a.number) counts))
          (record { known = k; lines = p; counts = counts; fills = called_after c ∙ ap (λ (o : Outcome Known). filled_by o buffer) e })

      steps : Readable text count buffer → (k : Known) → lines ≡ accepted k → (b : Bool) → eqb (length k.steps) 0 ≡ b → Promised
      steps r k w true z = refuse 26 1 (nothing k r ((walk_all k).0 w) (eqb-true (length k.steps) 0 z))
      steps r k w false z = accept r.called k ((walk_all k).0 w) (ap conclude (size_passes (log_format count) text r.sized ∙ w) ∙ rw z refl)

      walks : Readable text count buffer → (o : Outcome Known) → lines ≡ o → Promised
      walks r (faulty number at) w = refuse number at (line r ((walk_line number at).0 w))
      walks r (accepted k) w = steps r k w (eqb (length k.steps) 0) refl

      right : ltb (length buffer) log_length ≡ false → bad_count count ≡ false → Called count buffer
      right x y = record { long = ltb-false (length buffer) log_length x; counted = false_no (bad_count count) y }

      host : (a : Bool) → ltb (length buffer) log_length ≡ a → (b : Bool) → bad_count count ≡ b → (c : Bool) → bad_size most_log_text text ≡ c → Promised
      host true x b y c z = refuse 1 0 (short (ltb-true (length buffer) log_length x))
      host false x true y c z = refuse 5 0 (labels (ltb-false (length buffer) log_length x) (true_yes (bad_count count) y))
      host false x false y true z =
          refuse 20 0 (size (right x y) (true_yes (bad_size most_log_text text) z))
      host false x false y false z =
          walks (record { called = right x y; sized = false_no (bad_size most_log_text text) z }) lines refl

  refused_by : (number at : ℕ) → log_answer text count buffer ≡ refused_with text number at → (number ≡ 0 → ⊥) → Refused text count buffer number at
  refused_by number at e n = go log_promise
    where
      go : Promised → Refused text count buffer number at
      go (accepted_so f a) = absurd (n (ap (λ (x : Answer). x.number) (sym e ∙ a.counts)))
      go (refused_so m i r f k) =
          let q : refused_with text m i ≡ refused_with text number at = sym f ∙ e in
          subst (λ (x : ℕ). Refused text count buffer x at) (ap (λ (a : Answer). a.number) q)
          (subst (λ (y : ℕ). Refused text count buffer m y) (ap (λ (a : Answer). a.line) q) r)

  -- A refusal is given if its text in document 01 applies, and only then.
  pub log_refused : (number at : ℕ) → (log_answer text count buffer ≡ refused_with text number at) × (number ≡ 0 → ⊥) ↔ Refused text count buffer number at
  log_refused number at = (λ p. refused_by number at p.0 p.1, λ r. (answers number at r, numbers number at r))

  -- A call is accepted just where no refusal applies.
  pub log_accepted : (log_answer text count buffer).number ≡ 0 ↔ ((number at : ℕ) → Refused text count buffer number at → ⊥)
  log_accepted = (none, λ f. go f log_promise)
    where
      go : ((number at : ℕ) → Refused text count buffer number at → ⊥) → Promised → (log_answer text count buffer).number ≡ 0
      go f (accepted_so g a) = ap (λ (x : Answer). x.number) a.counts
      go f (refused_so m i r e k) = absurd (f m i r)
