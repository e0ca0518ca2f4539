-- What a call of the pattern reader promises (`pattern_promise`); and that it refuses with a number and a line just where document 01's list gives
-- them (`pattern_refused`), leaves the room as it was then, and accepts just where no entry applies.
-- Assumes nothing.
use Prim.Native.Nat.{ℕ, ◌≤◌, ◌<◌}
use mathlib.Core.Path.{◌≡◌, refl, sym, ap, ◌∙◌, subst}
use mathlib.Core.Logic.{◌↔◌}
use mathlib.Core.Bool.{Bool, true, false, cond}
use mathlib.Core.List.{List, [], ◌∷◌, ◌++◌}
use native.Mathlib.Omega.{arith}
use borrow.Author.Tests.{lt-ltb, le-ltb, ltb-true, ltb-false, eq-eqb, ne_eqb, eqb-true, eqb-false}
use lib.Dec.{T, eqb, ltb}
use lib.ListN.{length}
use Rattle.sets.proofs.Truth.{true_yes, false_no}
use Rattle.answer.specs.declared.Answer.{Answer}
use Rattle.answer.specs.Faults.{first_fault, answer_or, kept_or}
use Rattle.text.specs.Split.{split}
use Rattle.text.specs.Lines.{TextLine, lines_of, whole}
use Rattle.text.specs.Walk.{Judged, refused, passed, Outcome, accepted, faulty, walk, bad_size}
use Rattle.text.specs.FirstBad.{AllPass, done, next as next_line, FirstBad}
use Rattle.text.proofs.FirstBadLaws.{walk_accepts, walk_refuses, Numbered, bad_number, size_faulty, size_passes}
use Rattle.layout.specs.Layout.{most_pattern_text, most_line, pattern_length}
use Rattle.pattern_header.specs.Header.{is_header, label_count}
use Rattle.pattern_order.specs.StateLine.{StateLine, disordered, misruled}
use Rattle.pattern_row.specs.Fields.{row_of, malformed}
use Rattle.pattern_store.specs.Next.{strays, ambiguous}
use Rattle.pattern_store.specs.Format.{Known, judge_row, judge_line, judge_next, pattern_format, conclude, pattern_text}
use Rattle.pattern_byte.specs.Byte.{pattern_byte}
use Rattle.pattern.specs.Answer.{refused_with, answer_of, filled_by, pattern_answer, pattern_after}
use Rattle.pattern.specs.Refused.{Readable, LinesPass, Refused, short, size, line, nothing, next}
use Rattle.pattern.specs.Promise.{Promise, refused as refused_so, accepted as accepted_so}

-- ---- no line is refused with 0

row_numbered : (k : Known) (fs : List (List ℕ)) → Numbered (judge_row k fs)
unfolding Numbered
row_numbered k fs =
    go (malformed k.labels fs) (disordered k.rows (row_of fs)) (misruled k.rows (row_of fs)) (record { labels = k.labels; rows = k.rows ++ (row_of fs ∷ []) })
  where
    go : (a b c : Bool) (t : Known) → Numbered (cond a (refused 11) (cond b (refused 13) (cond c (refused 14) (passed t))))
    go true b c t = λ z. absurd (omega arith)
    go false true c t = λ z. absurd (omega arith)
    go false false true t = λ z. absurd (omega arith)
    go false false false t = tt

line_numbered : (k : Known) (n : ℕ) (l : TextLine) → Numbered (judge_line k n l)
unfolding Numbered
line_numbered k n l =
    go (whole most_line l) (eqb n 1) (is_header fields) (record { labels = label_count fields; rows = [] }) (judge_row k fields) (row_numbered k fields)
  where
    fields : List (List ℕ)
    fields = split 32 l.bytes

    go : (a b c : Bool) (t : Known) (j : Judged Known) → Numbered j → Numbered (cond a (cond b (cond c (passed t) (refused 12)) j) (refused 11))
    go false b c t j r = λ z. absurd (omega arith)
    go true true true t j r = tt
    go true true false t j r = λ z. absurd (omega arith)
    go true false c t j r = r

next_numbered : (rows : List StateLine) (k : Known) (n : ℕ) (r : StateLine) → Numbered (judge_next rows k n r)
unfolding Numbered
next_numbered rows k n r = go (strays rows r) (ambiguous r)
  where
    go : (a b : Bool) → Numbered (cond a (refused 15) (cond b (refused 16) (passed k)))
    go true b = λ z. absurd (omega arith)
    go false true = λ z. absurd (omega arith)
    go false false = tt

-- ---- 15 and 16 change nothing that is known

next_known : (rows : List StateLine) (k t : Known) (n : ℕ) (r : StateLine) → judge_next rows k n r ≡ passed t → k ≡ t
next_known rows k t n r e = go (strays rows r) (ambiguous r) e
  where
    go : (a b : Bool) → cond a (refused 15) (cond b (refused 16) (passed k)) ≡ passed t → k ≡ t
    go true b q = let z : ◌≡◌ {A = ℕ} 0 1 = cc in absurd (omega arith)
    go false true q = let z : ◌≡◌ {A = ℕ} 0 1 = cc in absurd (omega arith)
    go false false q = cc

nexts_known : (rows : List StateLine) {k t : Known} {n : ℕ} {ls : List StateLine} → AllPass (judge_next rows) k n ls t → k ≡ t
nexts_known rows done = refl
nexts_known rows (next_line {s = k} {t = u} {n = n} {l = r} e rest) = next_known rows k u n r e ∙ nexts_known rows rest

-- ---- the answer and the room, by the host's test and by what the text says

module _ (text buffer : List ℕ) where
  module _ (h : length buffer < pattern_length) where
    short_answer : pattern_answer text buffer ≡ refused_with text 2 0
    unfolding first_fault answer_or pattern_byte
    short_answer = rw (lt-ltb (length buffer) pattern_length h) refl

    short_after : pattern_after text buffer ≡ buffer
    unfolding first_fault kept_or
    short_after = rw (lt-ltb (length buffer) pattern_length h) refl

  module _ (long : pattern_length ≤ length buffer) where
    long_answer : pattern_answer text buffer ≡ answer_of text (pattern_text text)
    unfolding first_fault answer_or
    long_answer = rw (le-ltb (length buffer) pattern_length long) refl

    long_after : pattern_after text buffer ≡ filled_by (pattern_text text) buffer
    unfolding first_fault kept_or
    long_after = rw (le-ltb (length buffer) pattern_length long) refl

    said_answer : (number at : ℕ) → pattern_text text ≡ faulty number at → pattern_answer text buffer ≡ refused_with text number at
    said_answer number at e = long_answer ∙ ap (answer_of text) e

    said_after : (number at : ℕ) → pattern_text text ≡ faulty number at → pattern_after text buffer ≡ buffer
    said_after number at e = long_after ∙ ap (λ (o : Outcome Known). filled_by o buffer) e

  abbrev lines : Outcome Known
  lines = walk judge_line pattern_format.start 1 (lines_of text)

  abbrev nexts : Known → Outcome Known
  nexts k = walk (judge_next k.rows) k 2 k.rows

  size_said : T (bad_size most_pattern_text text) → pattern_text text ≡ faulty 10 0
  size_said t = ap conclude (size_faulty pattern_format text t)

  module _ (sized : T (bad_size most_pattern_text text) → ⊥) where
    lines_said : (o : Outcome Known) → lines ≡ o → pattern_text text ≡ conclude o
    lines_said o e = ap conclude (size_passes pattern_format text sized ∙ e)

    nothing_said : (k : Known) → lines ≡ accepted k → length k.rows ≡ 0 → pattern_text text ≡ faulty 13 1
    nothing_said k e z = lines_said (accepted k) e ∙ rw (eq-eqb (length k.rows) 0 z) refl

    next_said : (k : Known) → lines ≡ accepted k → (length k.rows ≡ 0 → ⊥) → (o : Outcome Known) → nexts k ≡ o → pattern_text text ≡ o
    next_said k e n o w = lines_said (accepted k) e ∙ rw (ne_eqb (length k.rows) 0 n) w

  -- ---- the theorems

  -- The first bad line, all lines that pass, and the first bad next set, as the walks have them.
  walk_line : (number at : ℕ) → lines ≡ faulty number at ↔ FirstBad judge_line pattern_format.start 1 (lines_of text) number at
  walk_line number at = walk_refuses judge_line pattern_format.start 1 number at (lines_of text)

  walk_all : (k : Known) → lines ≡ accepted k ↔ LinesPass text k
  walk_all k = walk_accepts judge_line pattern_format.start k 1 (lines_of text)

  walk_next : (k : Known) (number at : ℕ) → nexts k ≡ faulty number at ↔ FirstBad (judge_next k.rows) k 2 k.rows number at
  walk_next k number at = walk_refuses (judge_next k.rows) k 2 number at k.rows

  answers : (number at : ℕ) → Refused text buffer number at → pattern_answer text buffer ≡ refused_with text number at
  answers number at (short h) = short_answer h
  answers number at (size l t) = said_answer l number at (size_said t)
  answers number at (line r b) = said_answer r.long number at (lines_said r.sized (faulty number at) ((walk_line number at).1 b))
  answers number at (nothing k r p z) = said_answer r.long number at (nothing_said r.sized k ((walk_all k).1 p) z)
  answers number at (next k r p n b) =
      said_answer r.long number at (next_said r.sized k ((walk_all k).1 p) n (faulty number at) ((walk_next k number at).1 b))

  -- A refused call leaves the room as it was.
  pub refused_keeps : (number at : ℕ) → Refused text buffer number at → pattern_after text buffer ≡ buffer
  refused_keeps number at (short h) = short_after h
  refused_keeps number at (size l t) = said_after l number at (size_said t)
  refused_keeps number at (line r b) = said_after r.long number at (lines_said r.sized (faulty number at) ((walk_line number at).1 b))
  refused_keeps number at (nothing k r p z) = said_after r.long number at (nothing_said r.sized k ((walk_all k).1 p) z)
  refused_keeps number at (next k r p n b) =
      said_after r.long number at (next_said r.sized k ((walk_all k).1 p) n (faulty number at) ((walk_next k number at).1 b))

  numbers : (number at : ℕ) → Refused text buffer number at → number ≡ 0 → ⊥
  numbers number at (short h) z = absurd (omega arith)
  numbers number at (size l t) z = absurd (omega arith)
  numbers number at (line r b) z = bad_number judge_line line_numbered b z
  numbers number at (nothing k r p e) z = absurd (omega arith)
  numbers number at (next k r p n b) z = bad_number (judge_next k.rows) (next_numbered k.rows) b z

  none : (pattern_answer text buffer).number ≡ 0 → (number at : ℕ) → Refused text buffer number at → ⊥
  none z number at r = numbers number at r (sym (ap (λ (a : Answer). a.number) (answers number at r)) ∙ z)

  abbrev Promised : Type 0
  Promised = Promise text buffer (pattern_answer text buffer) (pattern_after text buffer)

  -- A call is refused by one of the list's entries, or it is accepted.
  pub pattern_promise : Promise text buffer (pattern_answer text buffer) (pattern_after text buffer)
  pattern_promise = host (ltb (length buffer) pattern_length) refl (bad_size most_pattern_text text) refl
    where
      refuse : (number at : ℕ) → Refused text buffer number at → Promised
      refuse number at r = refused_so number at r (answers number at r) (refused_keeps number at r)

      accept : pattern_length ≤ length buffer → (k : Known) → LinesPass text k → pattern_text text ≡ accepted k → Promised
      accept long k p e =
          let counts = long_answer long ∙ ap (answer_of text) e in
          accepted_so (none (ap (λ (a : Answer). a.number) counts))
          (record { known = k; lines = p; counts = counts; fills = long_after long ∙ ap (λ (o : Outcome Known). filled_by o buffer) e })

      next_sets : Readable text buffer → (k : Known) → lines ≡ accepted k → (length k.rows ≡ 0 → ⊥) → (o : Outcome Known) → nexts k ≡ o → Promised
      next_sets r k w n (faulty number at) x = refuse number at (next k r ((walk_all k).0 w) n ((walk_next k number at).0 x))
      next_sets r k w n (accepted t) x =
          let same = nexts_known k.rows ((walk_accepts (judge_next k.rows) k t 2 k.rows).0 x) in
          accept r.long k ((walk_all k).0 w) (next_said r.sized k w n (accepted t) x ∙ ap accepted (sym same))

      rows : Readable text buffer → (k : Known) → lines ≡ accepted k → (b : Bool) → eqb (length k.rows) 0 ≡ b → Promised
      rows r k w true z = refuse 13 1 (nothing k r ((walk_all k).0 w) (eqb-true (length k.rows) 0 z))
      rows r k w false z = next_sets r k w (eqb-false (length k.rows) 0 z) (nexts k) refl

      walks : Readable text buffer → (o : Outcome Known) → lines ≡ o → Promised
      walks r (faulty number at) w = refuse number at (line r ((walk_line number at).0 w))
      walks r (accepted k) w = rows r k w (eqb (length k.rows) 0) refl

      host : (a : Bool) → ltb (length buffer) pattern_length ≡ a → (b : Bool) → bad_size most_pattern_text text ≡ b → Promised
      host true x b y = refuse 2 0 (short (ltb-true (length buffer) pattern_length x))
      host false x true y = refuse 10 0 (size (ltb-false (length buffer) pattern_length x) (true_yes (bad_size most_pattern_text text) y))
      host false x false y = walks (record { long = ltb-false (length buffer) pattern_length x; sized = false_no (bad_size most_pattern_text text) y }) lines refl

  refused_by : (number at : ℕ) → pattern_answer text buffer ≡ refused_with text number at → (number ≡ 0 → ⊥) → Refused text buffer number at
  refused_by number at e n = go pattern_promise
    where
      go : Promised → Refused text buffer number at
      go (accepted_so f a) = absurd (n (ap (λ (x : Answer). x.number) (sym e ∙ a.counts)))
      go (refused_so m i r f k) =
          let q : refused_with text m i ≡ refused_with text number at = sym f ∙ e in
          subst (λ (x : ℕ). Refused text buffer x at) (ap (λ (a : Answer). a.number) q)
          (subst (λ (y : ℕ). Refused text buffer m y) (ap (λ (a : Answer). a.line) q) r)

  -- A refusal is given if its text in document 01 applies, and only then.
  pub pattern_refused : (number at : ℕ) → (pattern_answer text buffer ≡ refused_with text number at) × (number ≡ 0 → ⊥) ↔ Refused text buffer number at
  pattern_refused number at = (λ p. refused_by number at p.0 p.1, λ r. (answers number at r, numbers number at r))

  -- A call is accepted just where no refusal applies.
  pub pattern_accepted : (pattern_answer text buffer).number ≡ 0 ↔ ((number at : ℕ) → Refused text buffer number at → ⊥)
  pattern_accepted = (none, λ f. go f pattern_promise)
    where
      go : ((number at : ℕ) → Refused text buffer number at → ⊥) → Promised → (pattern_answer text buffer).number ≡ 0
      go f (accepted_so g a) = ap (λ (x : Answer). x.number) a.counts
      go f (refused_so m i r e k) = absurd (f m i r)
