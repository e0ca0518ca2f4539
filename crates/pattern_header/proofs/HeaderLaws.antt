-- The header, as the code tests it: byte by byte, field by field, and test by test.
-- Assumes nothing.
use mathlib.Core.Path.{◌≡◌, refl, sym, ap, ◌∙◌}
use mathlib.Core.Bool.{Bool, true, false, not, cond, ◌&&◌, ◌||◌}
use mathlib.Core.List.{List, [], ◌∷◌}
use Prim.Native.Nat.{ℕ, zero, suc, ◌+◌, ◌-◌, ◌≤◌, ◌<◌}
use native.Mathlib.Omega.{arith}
use borrow.Author.Tests.{le-ltb, ltb-true, ltb-false}
use lib.Dec.{leb, ltb}
use lib.ListN.{length, get_or, take, drop, drop_of_length-le, length-drop}
use lib.Seq.{drop-cons, take_all}
use native.Mathlib.Numerals.{add-one}
use Rattle.pattern_line.specs.Line.{fields_of}
use Rattle.pattern_header.specs.Header.{columns, same_fields, is_name, are_names, among, distinct, is_header, label_count}
use Rattle.pattern_line.specs.Answers.{refusal}
use Rattle.pattern_header.specs.inner.Answers.{header_judged, header_said, header_numbers}
use Rattle.fields.specs.Fields.{same_bytes}
use Rattle.std.specs.List.{list_all, list_any, range_with_len}
use Rattle.std.specs.Prelude.{Ok, Err}
use Rattle.layout.specs.Layout.{most_labels}
use Rattle.pattern_line.specs.declared.refusals.Refusal.TheVariants.{Header}

-- ---- the columns

pub columns_by_field : (fs : List (List ℕ)) → list_all (λ i. same_bytes (get_or fs i []) (get_or columns i [])) (range_with_len 0 4) ≡ same_fields (take 4 fs) columns
unfolding same_fields
columns_by_field [] = refl
columns_by_field (a ∷ []) = refl
columns_by_field (a ∷ (b ∷ [])) = refl
columns_by_field (a ∷ (b ∷ (c ∷ []))) = refl
columns_by_field (a ∷ (b ∷ (c ∷ (d ∷ fs)))) = refl

pub ruleset columns_kit = (columns_by_field)

-- ---- the labels

module _ (fs : List (List ℕ)) where
  here : (i : ℕ) → i < length fs → drop i fs ≡ get_or fs i [] ∷ drop (i + 1) fs
  here i h = rw (add-one i) (drop-cons fs i [] h)

  over : (i : ℕ) → length fs ≤ i → drop i fs ≡ []
  over i h = drop_of_length-le fs {i = i} h

  -- n fields from i on, which are those left
  pub named : (i n : ℕ) → n ≡ length fs - i → list_all (λ k. is_name (get_or fs k [])) (range_with_len i n) ≡ are_names (drop i fs)
  unfolding are_names
  named i zero e = sym (ap (list_all is_name) (over i (omega arith)))
  named i (suc n) e =
      ap (λ (t : Bool). is_name (get_or fs i []) && t) (named (i + 1) n (omega arith)) ∙ sym (ap (list_all is_name) (here i (omega arith)))

  pub differing : (i n : ℕ) → n ≡ length fs - i
      → list_all (λ k. not (among (get_or fs k []) (drop (k + 1) fs))) (range_with_len i n) ≡ distinct (drop i fs)
  unfolding distinct
  differing i zero e = sym (ap distinct (over i (omega arith)))
  differing i (suc n) e =
      ap (λ (t : Bool). not (among (get_or fs i []) (drop (i + 1) fs)) && t) (differing (i + 1) n (omega arith)) ∙ sym (ap distinct (here i (omega arith)))

  -- n fields from i on, whether others are left or not
  pub standing : (p : List ℕ) (i n : ℕ) → i + n ≤ length fs → list_any (λ k. same_bytes p (get_or fs k [])) (range_with_len i n) ≡ among p (take n (drop i fs))
  unfolding among
  standing p i zero h = refl
  standing p i (suc n) h =
      ap (λ (t : Bool). same_bytes p (get_or fs i []) || t) (standing p (i + 1) n (omega arith)) ∙ sym (ap (λ (l : List (List ℕ)). among p (take (suc n) l)) (here i (omega arith)))

  nothing : (p : List ℕ) (i : ℕ) → list_any (λ k. same_bytes p (get_or fs k [])) (range_with_len i 0) ≡ among p (take 0 (drop i fs))
  unfolding among
  nothing p i = refl

  pub standing_again : (p : List ℕ) (i n m : ℕ) → n ≡ length fs → m ≡ length fs → i < m
      → list_any (λ k. same_bytes p (get_or fs k [])) (range_with_len (i + 1) (n - (i + 1))) ≡ among p (drop (i + 1) fs)
  standing_again p i n m count same h =
      let d = length-drop (i + 1) fs in
      standing p (i + 1) (n - (i + 1)) (omega arith) ∙ ap (among p) (take_all (n - (i + 1)) (drop (i + 1) fs) (omega arith))

  -- those from the fifth on that stand before another
  pub standing_before : (p : List ℕ) (i : ℕ) → i < length fs → list_any (λ k. same_bytes p (get_or fs k [])) (range_with_len 4 (i - 4)) ≡ among p (take (i - 4) (drop 4 fs))
  standing_before p i h = go (ltb i 4) refl
    where
      go : (t : Bool) → ltb i 4 ≡ t → list_any (λ k. same_bytes p (get_or fs k [])) (range_with_len 4 (i - 4)) ≡ among p (take (i - 4) (drop 4 fs))
      go true e = let z : i - 4 ≡ 0 = let l = ltb-true i 4 e in omega arith in rw z (nothing p 4)
      go false e = let l = ltb-false i 4 e in standing p 4 (i - 4) (omega arith)

  pub none_again : (p : List ℕ) (i n : ℕ) → n ≡ length fs → n ≤ i → ltb i n ≡ among p (drop (i + 1) fs)
  unfolding among
  none_again p i n count h = le-ltb i n h ∙ sym (ap (among p) (over (i + 1) (omega arith)))

-- ---- the whole header

module _ (fs : List (List ℕ)) (n : ℕ) (count : n ≡ length fs) where
  pub header_is : (t u v : Bool) → t ≡ same_fields (take 4 fs) columns → u ≡ are_names (drop 4 fs) → v ≡ distinct (drop 4 fs)
      → is_header fs ≡ (t && (leb 1 (n - 4) && (leb (n - 4) most_labels && (u && v))))
  header_is t u v p q r = rw (p, q, r, count) (ap (λ (k : ℕ). same_fields (take 4 fs) columns && (leb 1 k && (leb k most_labels && (are_names (drop 4 fs) && distinct (drop 4 fs))))) (length-drop 4 fs))

pub ruleset header_kit = (header_is)

-- The answer in numbers is the one that the definition in numbers gives.
pub header_judged_said : (fs : List (List ℕ)) → header_said (header_judged fs) ≡ header_numbers fs
unfolding header_judged header_numbers
header_judged_said fs = go (is_header fs)
  where
    go : (t : Bool) → header_said (cond t (Ok (label_count fs)) (Err Header)) ≡ cond t (header_said (Ok (label_count fs))) (refusal 12)
    go true = refl
    go false = refl

module _ (line other : List ℕ) (same : other ≡ line) (t : Bool) (g : t ≡ is_header (fields_of other)) where
  pub header_right : t ≡ true → (n : ℕ) → n ≡ length (fields_of other) → Ok (n - 4) ≡ header_judged (fields_of line)
  unfolding header_judged
  header_right e n count = let q : is_header (fields_of line) ≡ true = sym (rw (sym same) g) ∙ e in rw (q, count, same) refl

  pub header_wrong : t ≡ false → Err Header ≡ header_judged (fields_of line)
  unfolding header_judged
  header_wrong e = let q : is_header (fields_of line) ≡ false = sym (rw (sym same) g) ∙ e in rw q refl

  pub header_right_said : t ≡ true → (n : ℕ) → n ≡ length (fields_of other) → header_said (Ok (n - 4)) ≡ header_numbers (fields_of line)
  header_right_said e n count = ap header_said (header_right e n count) ∙ header_judged_said (fields_of line)

  pub header_wrong_said : t ≡ false → refusal 12 ≡ header_numbers (fields_of line)
  header_wrong_said e = ap header_said (header_wrong e) ∙ header_judged_said (fields_of line)

pub ruleset judged_kit = (header_right, header_wrong, header_right_said, header_wrong_said)
