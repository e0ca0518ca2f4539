-- The text of steps is accepted, and gives the steps back.
-- Assumes nothing.
use Prim.Native.Nat.{ℕ, suc, ◌+◌, ◌-◌, ◌*◌, ◌^◌, ◌≤◌, ◌<◌}
use mathlib.Core.Path.{◌≡◌, refl, sym, ap, ap₂, ◌∙◌, subst}
use mathlib.Core.Bool.{true, false}
use mathlib.Core.List.{List, [], ◌∷◌, ◌++◌, append-nil, append_assoc}
use native.Mathlib.Omega.{arith}
use native.Mathlib.Decide.{ℕ_discrete}
use borrow.Author.Tests.{le-leb, lt-ltb, le-ltb, eq-eqb, ne_eqb}
use lib.Pow.{pow_mono}
use lib.ListN.{length, get_or, length-append}
use Rattle.text.specs.Split.{split, joined, line_from}
use Rattle.text.specs.Lines.{TextLine, lines_of, printable, whole}
use Rattle.numbers.specs.Numbers.{is_number, value_of, spell}
use Rattle.text.specs.Walk.{Judged, passed, accepted, proceed, walk, read_text}
use Rattle.text.proofs.WalkLaws.{size_right}
use Rattle.layout.specs.Layout.{most_line, most_board, most_steps, most_links, most_preds, most_labels, most_number, most_label_set}
use Rattle.log_line.specs.Header.{Columns, place_of, vertex_name, board_name, labels_name, preds_name}
use Rattle.numbers.specs.Listed.{is_list}
use Rattle.log_line.specs.Step.{Step, step_of, malformed, misnumbered, link_count}
use Rattle.log_line.specs.Format.{Known, judge_values, judge_step, judge_line, log_format, conclude, log_text}
use Rattle.numbers.specs.Listed.{list_word}
use Rattle.log_texts.specs.Spelled.{fields_of, step_lines, header_line}
use Rattle.log_store.proofs.AcceptedLaws.{few_steps, few_links}
use Rattle.log_store.proofs.BufferLaws.{count_end, count_next, count_more}
use Rattle.log_texts.proofs.StepLaws.{linked_out, labelled_out, no_step, StepHolds, hold_at, Whole}
use Rattle.text.proofs.Spelled.{AllLack, AllPrintable, weight, length_joined, length_line, split_parts, printable_joined, no_lines, lines_from}
use Rattle.numbers.proofs.SpelledNumbers.{Under, under_in, under_more, spell_lacks, spell_printable, spell_is_number, spell_value, length_spell}
use Rattle.numbers.proofs.ListedLaws.{word_list, word_reads, word_lacks, word_printable, word_length}

-- ---- the fields of a step

-- What the text asks of a step beside its number v.
record Spellable (v : ℕ) (x : Step) : Type 0 where
  number : v < most_steps
  board : x.board ≤ most_board
  labels : x.labels ≤ most_label_set
  preds : Under (10 ^ 4) x.preds
  at_most : length x.preds ≤ most_preds

readable : {v : ℕ} {x : Step} → Spellable v x → Under (most_number + 1) x.preds
readable {x = x} s = under_more (10 ^ 4) (most_number + 1) x.preds (omega arith) s.preds

spellable : (count v : ℕ) (x : Step) → count ≤ most_labels → v < most_steps → StepHolds count v x → Spellable v x
spellable count v x c l h =
    let k = linked_out v x.preds h.linked in
    let m = labelled_out count v x.labels h.labelled in
    record {
      number = l;
      board = h.boarded;
      labels = set (ℕ_discrete v 0) m;
      preds = under_in (10 ^ 4) x.preds (λ i j. let b = k.below i j in omega arith);
      at_most = h.at_most;
    }
  where
    set : Dec (v ≡ 0) → (v ≡ 0 → x.labels ≡ 0) × ((v ≡ 0 → ⊥) → x.labels < 2 ^ count) → x.labels ≤ most_label_set
    set (yes z) m = let e = m.0 z in omega arith
    set (no z) m = let e = m.1 z in let p : 2 ^ count ≤ 2 ^ most_labels = pow_mono c in omega arith

fields_lack : (c v : ℕ) (x : Step) → c < 44 → AllLack c (fields_of v x)
fields_lack c v x h =
    let l : c < 48 = omega arith in
    (spell_lacks c v l, (spell_lacks c x.board l, (spell_lacks c x.labels l, (word_lacks c x.preds h, tt))))

fields_printable : (v : ℕ) (x : Step) → AllPrintable (fields_of v x)
fields_printable v x = (spell_printable v, (spell_printable x.board, (spell_printable x.labels, (word_printable x.preds, tt))))

line_length : (v : ℕ) (x : Step) → Spellable v x → length (joined 32 (fields_of v x)) ≤ 57
unfolding weight
line_length v x s =
    let n = s.number in
    let b = s.board in
    let l = s.labels in
    let p = s.at_most in
    let e = length_joined 32 (spell v) (spell x.board ∷ (spell x.labels ∷ (list_word x.preds ∷ []))) in
    let a = length_spell 3 v (omega arith) in
    let c = length_spell 3 x.board (omega arith) in
    let d = length_spell 4 x.labels (omega arith) in
    let w = word_length 3 x.preds s.preds in
    omega arith

-- ---- one line

abbrev columns : Columns
columns = record { vertex = 0; board = 1; labels = 2; preds = 3 }

-- what is known after the header and the lines of these steps
abbrev pub known : List Step → Known
known xs = record { columns = columns; steps = xs }

well_formed : (a b c d : List ℕ) → is_number a ≡ true → is_number b ≡ true → is_number c ≡ true → value_of b ≤ most_board → is_list d ≡ true
    → malformed columns (a ∷ b ∷ c ∷ d ∷ []) ≡ false
well_formed a b c d p q r h s = simp (p, q, r, s, le-ltb most_board (value_of b) h)

module _ (count : ℕ) (ks : List Step) (v : ℕ) (x : Step) (s : Spellable v x) (h : StepHolds count v x)
    (few : link_count ks + length x.preds ≤ most_links) where
  step_read : step_of columns (fields_of v x) ≡ x
  step_read =
      let b = s.board in
      rw (spell_value x.board (omega arith), spell_value x.labels s.labels, word_reads x.preds (readable s))

  values_judged : judge_values count (known ks) v x ≡ passed (known (ks ++ (x ∷ [])))
  values_judged =
      simp (
        h.linked,
        h.labelled,
        le-ltb most_preds (length x.preds) h.at_most,
        lt-ltb v most_steps s.number,
        le-ltb most_links (link_count ks + length x.preds) few,
      )

  step_judged : judge_step count (known ks) (v + 2) (fields_of v x) ≡ passed (known (ks ++ (x ∷ [])))
  step_judged =
      let b = s.board in
      let n = s.number in
      let e : v + 2 - 2 ≡ v = omega arith in
      let m = well_formed (spell v) (spell x.board) (spell x.labels) (list_word x.preds) (spell_is_number v (omega arith))
      (spell_is_number x.board (omega arith)) (spell_is_number x.labels s.labels) (let w = spell_value x.board (omega arith) in omega arith)
      (word_list x.preds (readable s)) in
      let g : misnumbered columns (v + 2) (fields_of v x) ≡ false = rw (eq-eqb (value_of (spell v)) (v + 2 - 2) (spell_value v (omega arith) ∙ sym e)) in
      rw (m, g)
      (ap₂ (λ (w : ℕ) (y : Step). judge_values count (known ks) w y) e step_read ∙ values_judged)

  line_judged : judge_line count (known ks) (v + 2) (record { bytes = joined 32 (fields_of v x); newline = true })
      ≡ passed (known (ks ++ (x ∷ [])))
  line_judged =
      let l = line_length v x s in
      let w : whole most_line (record { bytes = joined 32 (fields_of v x); newline = true }) ≡ true
      = simp (le-leb (length (joined 32 (fields_of v x))) most_line (omega arith)) (printable_joined (fields_of v x) (fields_printable v x)) in
      let p : split 32 (joined 32 (fields_of v x)) ≡ fields_of v x
      = split_parts 32 (spell v) (spell x.board ∷ (spell x.labels ∷ (list_word x.preds ∷ []))) (fields_lack 32 v x (omega arith)) in
      rw (w, ne_eqb (v + 2) 1 (λ e. absurd (omega arith)), p) step_judged

-- ---- the header

abbrev names : List (List ℕ)
names = vertex_name ∷ (board_name ∷ (labels_name ∷ (preds_name ∷ [])))

names_printable : AllPrintable names
unfolding printable
names_printable = (refl, (refl, (refl, (refl, tt))))

header_judged : (count : ℕ) (k : Known) → judge_line count k 1 (record { bytes = joined 32 names; newline = true }) ≡ passed (known [])
unfolding split joined printable place_of
header_judged count k = refl

header_length : length header_line ≡ 26
unfolding joined
header_length = refl

header_walked : (count : ℕ) (ls : List TextLine) → walk (judge_line count) (log_format count).start 1 (record { bytes = joined 32 names; newline = true } ∷ ls)
    ≡ walk (judge_line count) (known []) 2 ls
unfolding walk
header_walked count ls =
    ap (λ (j : Judged Known). proceed 1 j (λ t. walk (judge_line count) t 2 ls)) (header_judged count (log_format count).start)

-- ---- all lines

-- each of the steps from v on holds
abbrev Each : ℕ → ℕ → List Step → Type 0
Each count v xs = (j : ℕ) → j < length xs → StepHolds count (v + j) (get_or xs j no_step)

each_first : (count v : ℕ) (x : Step) (xs : List Step) → Each count v (x ∷ xs) → StepHolds count v x
each_first count v x xs h = let e : v + 0 ≡ v = omega arith in subst (λ (w : ℕ). StepHolds count w x) e (h 0 (omega arith))

each_next : (count v : ℕ) (x : Step) (xs : List Step) → Each count v (x ∷ xs) → Each count (suc v) xs
each_next count v x xs h j l =
    let e : v + suc j ≡ suc v + j = omega arith in
    subst (λ (w : ℕ). StepHolds count w (get_or xs j no_step)) e (h (suc j) (omega arith))

module _ (count : ℕ) (fit : count ≤ most_labels) where
  steps_length : (xs : List Step) (v : ℕ) → v + length xs ≤ most_steps → Each count v xs → length (step_lines v xs) ≤ 58 * length xs
  unfolding step_lines
  steps_length [] v l h = omega arith
  steps_length (x ∷ xs) v l h =
      let a = length-append (line_from (fields_of v x)) (step_lines (suc v) xs) in
      let b = length_line (fields_of v x) in
      let c = line_length v x (spellable count v x fit (omega arith) (each_first count v x xs h)) in
      let d = steps_length xs (suc v) (omega arith) (each_next count v x xs h) in
      omega arith

  steps_walked : (xs ks : List Step) (v : ℕ) → v + length xs ≤ most_steps → link_count ks + link_count xs ≤ most_links → Each count v xs
      → walk (judge_line count) (known ks) (v + 2) (lines_of (step_lines v xs))
      ≡ accepted (known (ks ++ xs))
  unfolding step_lines walk
  steps_walked [] ks v l m h =
      ap (walk (judge_line count) (known ks) (v + 2)) no_lines
      ∙ ap (λ (ys : List Step). accepted (known ys)) (sym (append-nil ks))
  steps_walked (x ∷ xs) ks v l m h =
      let e = count_more ks x in
      let c = count_next x xs in
      let n : v + 2 + 1 ≡ suc v + 2 = omega arith in
      let s = spellable count v x fit (omega arith) (each_first count v x xs h) in
      ap (walk (judge_line count) (known ks) (v + 2)) (lines_from (fields_of v x) (step_lines (suc v) xs) (fields_printable v x))
      ∙ ap (λ (j : Judged Known). proceed (v + 2) j (λ t. walk (judge_line count) t (v + 2 + 1) (lines_of (step_lines (suc v) xs))))
      (line_judged count ks v x s (each_first count v x xs h) (omega arith))
      ∙ ap (λ (i : ℕ). walk (judge_line count) (known (ks ++ (x ∷ []))) i (lines_of (step_lines (suc v) xs))) n
      ∙ steps_walked xs (ks ++ (x ∷ [])) (suc v) (omega arith) (omega arith) (each_next count v x xs h)
      ∙ ap (λ (ys : List Step). accepted (known ys)) (append_assoc ks (x ∷ []) xs)

  -- The text of the steps of a log is accepted.
  pub text_accepted : (xs : List Step) → Whole count xs → log_text count (header_line ++ step_lines 0 xs) ≡ accepted (known xs)
  text_accepted xs w =
      let text : List ℕ = header_line ++ step_lines 0 xs in
      let each : Each count 0 xs = λ j l. let e : j ≡ 0 + j = omega arith in subst (λ (v : ℕ). StepHolds count v (get_or xs j no_step)) e (hold_at w.fit j l) in
      let few = few_steps w.fit in
      let links = few_links w.fit in
      let some = w.some in
      let a = length-append header_line (step_lines 0 xs) in
      let b = header_length in
      let c = steps_length xs 0 (omega arith) each in
      let z = count_end in
      let read : read_text (log_format count) text ≡ accepted (known xs)
      = size_right (log_format count) text (λ e. absurd (omega arith)) (omega arith)
      ∙ ap (walk (judge_line count) (log_format count).start 1) (lines_from names (step_lines 0 xs) names_printable)
      ∙ header_walked count (lines_of (step_lines 0 xs))
      ∙ steps_walked xs [] 0 (omega arith) (omega arith) each in
      ap conclude read ∙ simp (ne_eqb (length xs) 0 (λ e. absurd (omega arith)))
