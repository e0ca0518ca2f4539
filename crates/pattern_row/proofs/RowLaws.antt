-- A line below the header, as the code reads it: its fields, and the line as a whole.
-- Assumes nothing.
use mathlib.Core.Path.{◌≡◌, refl, sym, ap, ap₂, ◌∙◌}
use mathlib.Core.Bool.{Bool, true, false, not, cond, ◌&&◌, and-true, and-false}
use mathlib.Core.List.{List, [], ◌∷◌}
use Prim.Native.Nat.{ℕ, zero, suc, ◌+◌, ◌-◌, ◌≤◌, ◌<◌, min}
use native.Mathlib.Numerals.{add-one}
use native.Mathlib.Omega.{arith}
use borrow.Author.Tests.{ltb-true, ltb-false, eq-eqb, ne_eqb, not-true, not-false}
use lib.Dec.{eqb, ltb}
use lib.ListN.{length, get_or, take, drop, set, replicate, length-drop, length-append, length-replicate, get_or-append}
use lib.Seq.{take_all, drop-nil, get_or-drop}
use Rattle.numbers.proofs.ListedLaws.{are_numbers_none, are_numbers_first}
use Rattle.numbers.specs.Numbers as Numbers
use Rattle.numbers.specs.Numbers.{number_of, is_number, value_of}
use Rattle.std.specs.Prelude.{Option, Some, None, is_some, unwrap_or, Result, Err}
use Rattle.layout.specs.Layout.{most_labels}
use Rattle.pattern_line.specs.Line.{fields_of, field_at}
use Rattle.pattern_line.specs.Answers.{Said, refusal}
use Rattle.pattern_line.specs.declared.refusals.Refusal.{Refusal}
use Rattle.pattern_line.specs.declared.refusals.Refusal.TheVariants.{Malformed}
use Rattle.pattern_order.specs.StateLine.{StateLine}
use Rattle.pattern_order.specs.inner.Answers.{line_said, order_judged, row_for, order_said}
use Rattle.pattern_order.proofs.OrderLaws.{judged_said, said_values}
use Rattle.pattern_order.specs.declared.LineValues.{LineValues}
use Rattle.rules.specs.Rules.{rule_of}
use Rattle.pattern_row.specs.Fields.{row_of, malformed}
use Rattle.pattern_row.specs.inner.Answers.{values_of, values_read, row_judged, row_said, next_sets}
use Rattle.numbers.specs.Listed.{are_numbers}
use Rattle.lists.proofs.Tables.{part, part_none, part_more, table_is, length-table, get_or-table, zeros_at}
use Rattle.lists.specs.Tables.{table}
use Rattle.std.proofs.lemmas.List.{get_or_past, get_or-append_right}

-- ---- a field, as reading it answers

module _ (f : List ℕ) (x : Option ℕ) (given : x ≡ number_of f) where
  not_number : x ≡ None → false ≡ is_number f
  not_number e = ap is_some (sym e ∙ given)

  is_number_lem : (v : ℕ) → x ≡ Some v → true ≡ is_number f
  is_number_lem v e = ap is_some (sym e ∙ given)

  value_some : (v : ℕ) → x ≡ Some v → v ≡ value_of f
  value_some v e = ap (λ (o : Option ℕ). unwrap_or o 0) (sym e ∙ given)

-- ---- the first four fields

module _ (line : List ℕ) (x : Option ℕ) (p : x ≡ number_of (field_at line 0)) where
  pub bead_missing : x ≡ None → None ≡ values_read (fields_of line)
  bead_missing m = sym (rw (sym (not_number (field_at line 0) x p m)) refl)

  module _ (bead : ℕ) (is_bead : x ≡ Some bead) (y : Option ℕ) (q : y ≡ number_of (field_at line 2)) where
    pub state_missing : y ≡ None → None ≡ values_read (fields_of line)
    state_missing m = sym (rw (sym (is_number_lem (field_at line 0) x p bead is_bead), sym (not_number (field_at line 2) y q m)) refl)

    module _ (state : ℕ) (is_state : y ≡ Some state) (z : Option ℕ) (r : z ≡ number_of (field_at line 3)) where
      pub final_missing : z ≡ None → None ≡ values_read (fields_of line)
      final_missing m =
          sym (rw (
            sym (is_number_lem (field_at line 0) x p bead is_bead),
            sym (is_number_lem (field_at line 2) y q state is_state),
            sym (not_number (field_at line 3) z r m),
          ) refl)

      pub values_there : (accepting : ℕ) → z ≡ Some accepting → (rule : ℕ) → rule ≡ rule_of (field_at line 1)
          → Some (record { bead = bead; rule = rule; state = state; accepting = accepting }) ≡ values_read (fields_of line)
      values_there accepting is_final rule u =
          sym (rw (
            sym (is_number_lem (field_at line 0) x p bead is_bead),
            sym (is_number_lem (field_at line 2) y q state is_state),
            sym (is_number_lem (field_at line 3) z r accepting is_final),
            sym (value_some (field_at line 0) x p bead is_bead),
            sym (value_some (field_at line 2) y q state is_state),
            sym (value_some (field_at line 3) z r accepting is_final),
            sym u,
          ) refl)

pub ruleset values_kit = (bead_missing, state_missing, final_missing, values_there)

-- ---- the next sets

-- the next set of a label, as the line gives it
abbrev pub set_at : List ℕ → ℕ → ℕ
set_at line a = value_of (field_at line (4 + a))

-- the fields that say one
abbrev pub set_fields : List ℕ → List (List ℕ)
set_fields line = take most_labels (drop 4 (fields_of line))

one_more : (fs : List (List ℕ)) (n i : ℕ) → i < n → i < length fs
    → are_numbers (drop i (take n fs)) ≡ (is_number (get_or fs i []) && are_numbers (drop (suc i) (take n fs)))
one_more [] n i h k = absurd (omega arith)
one_more (f ∷ fs) zero i h k = absurd (omega arith)
one_more (f ∷ fs) (suc n) zero h k = are_numbers_first f (take n fs)
one_more (f ∷ fs) (suc n) (suc i) h k = one_more fs n i (omega arith) (omega arith)

-- Behind the last field, or the last of n, none is looked at.
no_more : (fs : List (List ℕ)) (n i : ℕ) → min (length fs) n ≤ i → are_numbers (drop i (take n fs)) ≡ true
no_more [] zero i h = ap are_numbers (drop-nil i) ∙ are_numbers_none
no_more [] (suc n) i h = ap are_numbers (drop-nil i) ∙ are_numbers_none
no_more (f ∷ fs) zero i h = ap are_numbers (drop-nil i) ∙ are_numbers_none
no_more (f ∷ fs) (suc n) zero h = absurd (omega arith)
no_more (f ∷ fs) (suc n) (suc i) h = no_more fs n i (omega arith)

-- an array of zeros, one a label, as the loop begins
abbrev pub zeros : List ℕ
zeros = replicate most_labels 0

pub sets_none : (line : List ℕ) → zeros ≡ part (set_at line) 0 zeros
sets_none line = part_none (set_at line) zeros

-- A function that is 0 from a on, over zeros of which the first a are written.
part_zeros : (f : ℕ → ℕ) (a n : ℕ) → a ≤ n → ((i : ℕ) → a ≤ i → i < n → ◌≡◌ {A = ℕ} (f i) 0) → table f n ≡ part f a (replicate n 0)
part_zeros f a n h past = table_is f n (part f a (replicate n 0)) long value
  where
    zs : List ℕ
    zs = replicate n 0

    long : length (part f a zs) ≡ n
    long = length-append (table f a) (drop a zs) ∙ let x = length-table f a in let y = length-drop a zs in let z = length-replicate {A = ℕ} n 0 in omega arith

    value : (i : ℕ) → i < n → get_or (part f a (replicate n 0)) i 0 ≡ f i
    value i k = go (ltb i a) refl
      where
        go : (t : Bool) → ltb i a ≡ t → get_or (part f a (replicate n 0)) i 0 ≡ f i
        go true e =
            let z = ltb-true i a e in
            let l = length-table f a in
            get_or-append (table f a) (drop a (replicate n 0)) 0 i (omega arith) ∙ get_or-table f a i z
        go false e =
            let z = ltb-false i a e in
            get_or-append_right (table f a) (drop a (replicate n 0)) a i 0 (length-table f a) z
            ∙ get_or-drop a (replicate n 0) (i - a) 0 ∙ zeros_at n (a + (i - a)) ∙ sym (past i z k)

-- The fields that are looked at: as many as are there after the first four, at most one a label.
module _ (line : List ℕ) (n s m : ℕ) (count : n ≡ length (fields_of line)) (left : s ≡ n - 4) (most : m ≡ min s most_labels) where
  seen : m ≡ min (length (drop 4 (fields_of line))) most_labels
  seen = let l = length-drop 4 (fields_of line) in omega arith

  module _ (a : ℕ) (h : a < m) (x : Option ℕ) (given : x ≡ number_of (field_at line (4 + a))) where
    pub set_read : (next : List ℕ) → next ≡ part (set_at line) a zeros → (v : ℕ) → v ≡ unwrap_or x 0 → set next a v ≡ part (set_at line) (a + 1) zeros
    set_read next inv v e =
        ap₂ (λ (y : List ℕ) (z : ℕ). set y a z) inv (e ∙ ap (λ (o : Option ℕ). unwrap_or o 0) given) ∙ part_more (set_at line) a zeros (omega arith)

    module _ (whole numbers : Bool) (inv : whole ≡ (numbers && are_numbers (drop a (set_fields line)))) (none : Bool) (told : is_some x ≡ not none) where
      behind : are_numbers (drop a (set_fields line)) ≡ (not none && are_numbers (drop (a + 1) (set_fields line)))
      behind =
          let e = seen in
          one_more (drop 4 (fields_of line)) most_labels a (omega arith) (omega arith)
          ∙ ap₂ (λ (b : Bool) (i : ℕ). b && are_numbers (drop i (set_fields line)))
          (ap is_number (get_or-drop 4 (fields_of line) a []) ∙ sym (ap is_some given) ∙ told) (sym (add-one a))

      pub numbers_more : none ≡ false → whole ≡ (numbers && are_numbers (drop (a + 1) (set_fields line)))
      numbers_more e = inv ∙ ap (λ (b : Bool). numbers && b) (behind ∙ ap (λ (t : Bool). not t && are_numbers (drop (a + 1) (set_fields line))) e)

      pub numbers_wrong : none ≡ true → whole ≡ (false && are_numbers (drop (a + 1) (set_fields line)))
      numbers_wrong e =
          inv ∙ ap (λ (b : Bool). numbers && b) (behind ∙ ap (λ (t : Bool). not t && are_numbers (drop (a + 1) (set_fields line))) e)
          ∙ and-false numbers

  module _ (a : ℕ) (h : a ≤ m) (k : m ≤ a) where
    -- The labels that the line lacks have 0.
    lacking : (i : ℕ) → a ≤ i → i < most_labels → ◌≡◌ {A = ℕ} (set_at line i) 0
    unfolding Numbers.decimal
    lacking i u v = ap value_of (get_or_past (fields_of line) (4 + i) [] (omega arith))

    pub sets_end : (next : List ℕ) → next ≡ part (set_at line) a zeros → next ≡ next_sets (fields_of line)
    unfolding next_sets
    sets_end next inv = inv ∙ sym (part_zeros (set_at line) a most_labels (omega arith) lacking)

    pub numbers_end : (whole numbers : Bool) → whole ≡ (numbers && are_numbers (drop a (set_fields line))) → numbers ≡ whole
    numbers_end whole numbers inv =
        let e = seen in
        sym (inv ∙ ap (λ (b : Bool). numbers && b) (no_more (drop 4 (fields_of line)) most_labels a (omega arith)) ∙ and-true numbers)

pub ruleset sets_kit = (sets_none, set_read, numbers_more, numbers_wrong, sets_end, numbers_end)

-- ---- the whole line

-- The answer in numbers is the one that the definition in numbers gives.
pub row_judged_said : (labels : ℕ) (before : List StateLine) (fs : List (List ℕ)) → line_said (row_judged labels before fs) ≡ row_said labels before fs
unfolding row_judged row_said
row_judged_said labels before fs =
    go (malformed labels fs) (order_judged before (values_of fs)) (order_said before (row_of fs))
    (judged_said before (values_of fs) ∙ said_values before (values_of fs) (row_of fs) refl refl refl refl)
  where
    go : (t : Bool) (x : Result LineValues Refusal) (y : Said) → line_said x ≡ y → line_said (cond t (Err Malformed) x) ≡ cond t (refusal 11) y
    go true x y e = refl
    go false x y e = e

module _ (line other : List ℕ) (same : other ≡ line) (labels : ℕ) (before : List StateLine) (n : ℕ) (count : n ≡ length (fields_of other)) where
  pub fields_wrong : (n ≡ 4 + labels → ⊥) → Err Malformed ≡ row_judged labels before (fields_of line)
  unfolding row_judged
  fields_wrong h = rw (sym same) (sym (rw (ne_eqb (length (fields_of other)) (4 + labels) (λ e. h (count ∙ e))) refl))

  pub fields_wrong_said : (n ≡ 4 + labels → ⊥) → refusal 11 ≡ row_said labels before (fields_of line)
  fields_wrong_said h = ap line_said (fields_wrong h) ∙ row_judged_said labels before (fields_of line)

  module _ (few : labels ≤ most_labels) (right : n ≡ 4 + labels) (t : Bool) (told : t ≡ are_numbers (set_fields other)) where
    g : t ≡ are_numbers (drop 4 (fields_of other))
    g = let l = length-drop 4 (fields_of other) in told ∙ ap are_numbers (take_all most_labels (drop 4 (fields_of other)) (omega arith))

    counted : eqb (length (fields_of other)) (4 + labels) ≡ true
    counted = eq-eqb (length (fields_of other)) (4 + labels) (sym count ∙ right)

    -- whatever the other fields are
    formed : (a b c d : Bool) → d ≡ t → (more : Result LineValues Refusal)
        → cond (not (a && (b && (c && d)))) (Err Malformed) more ≡ cond (a && (b && c)) (cond d more (Err Malformed)) (Err Malformed)
    formed true true true true e more = refl
    formed true true true false e more = refl
    formed true true false d e more = refl
    formed true false c d e more = refl
    formed false b c d e more = refl

    judged : row_judged labels before (fields_of other)
        ≡ cond (is_number (field_at other 0) && (is_number (field_at other 2) && is_number (field_at other 3)))
        (cond t (order_judged before (values_of (fields_of other))) (Err Malformed)) (Err Malformed)
    unfolding row_judged
    judged = rw (counted, g) (formed (is_number (field_at other 0)) (is_number (field_at other 2)) (is_number (field_at other 3)) (are_numbers (drop 4 (fields_of other))) (sym g) (order_judged before (values_of (fields_of other))))

    pub set_malformed : not t ≡ true → Err Malformed ≡ row_judged labels before (fields_of line)
    set_malformed e = rw (sym same) (sym (judged ∙ rw (not-true t e) (go (is_number (field_at other 0) && (is_number (field_at other 2) && is_number (field_at other 3))))))
      where
        go : (a : Bool) → cond {A = Result LineValues Refusal} a (Err Malformed) (Err Malformed) ≡ Err Malformed
        go true = refl
        go false = refl

    pub set_malformed_said : not t ≡ true → refusal 11 ≡ row_said labels before (fields_of line)
    set_malformed_said e = ap line_said (set_malformed e) ∙ row_judged_said labels before (fields_of line)

    module _ (e : not t ≡ false) (x : Option LineValues) (p : x ≡ values_read (fields_of other)) where
      pub number_missing : x ≡ None → Err Malformed ≡ row_judged labels before (fields_of line)
      number_missing m = rw (sym same) (sym (judged ∙ go (is_number (field_at other 0) && (is_number (field_at other 2) && is_number (field_at other 3))) (sym m ∙ p)))
        where
          go : (a : Bool) → ◌≡◌ {A = Option LineValues} None (cond a (Some (values_of (fields_of other))) None)
              → cond {A = Result LineValues Refusal} a (cond t (order_judged before (values_of (fields_of other))) (Err Malformed)) (Err Malformed) ≡ Err Malformed
          go true z = let y : ◌≡◌ {A = ℕ} 0 1 = cc in absurd (omega arith)
          go false z = refl

      pub number_missing_said : x ≡ None → refusal 11 ≡ row_said labels before (fields_of line)
      number_missing_said m = ap line_said (number_missing m) ∙ row_judged_said labels before (fields_of line)

      pub row_right : (v : LineValues) → x ≡ Some v → (answer : Result LineValues Refusal) → answer ≡ order_judged before v → answer ≡ row_judged labels before (fields_of line)
      row_right v m answer w =
          rw (sym same) (w ∙ sym (judged ∙ rw (not-false t e) (go (is_number (field_at other 0) && (is_number (field_at other 2) && is_number (field_at other 3))) (sym m ∙ p))))
        where
          go : (a : Bool) → Some v ≡ cond a (Some (values_of (fields_of other))) None
              → cond a (order_judged before (values_of (fields_of other))) (Err Malformed) ≡ order_judged before v
          go true z = let y : v ≡ values_of (fields_of other) = cc in ap (order_judged before) (sym y)
          go false z = let y : ◌≡◌ {A = ℕ} 0 1 = cc in absurd (omega arith)

      pub row_right_said : (v : LineValues) → x ≡ Some v → (said : Said) → said ≡ order_said before (row_for v) → said ≡ row_said labels before (fields_of line)
      row_right_said v m said w =
          w ∙ sym (judged_said before v) ∙ ap line_said (row_right v m (order_judged before v) refl) ∙ row_judged_said labels before (fields_of line)

pub next_kept : (line other : List ℕ) → other ≡ line → (next : List ℕ) → next ≡ next_sets (fields_of other) → next ≡ next_sets (fields_of line)
next_kept line other same next e = e ∙ ap (λ (l : List ℕ). next_sets (fields_of l)) same

pub ruleset row_kit = (
  fields_wrong,
  set_malformed,
  number_missing,
  row_right,
  next_kept,
  fields_wrong_said,
  set_malformed_said,
  number_missing_said,
  row_right_said,
)
