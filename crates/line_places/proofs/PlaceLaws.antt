-- Places as the loops find them, and how far a place can be.
-- Assumes nothing.
use mathlib.Core.Path.{◌≡◌, refl, sym, ap, ◌∙◌}
use mathlib.Core.Bool.{Bool, true, false, not, cond}
use mathlib.Core.List.{List, []}
use Prim.Native.Nat.{ℕ, zero, suc, ◌+◌, ◌*◌, ◌^◌, ◌≤◌, ◌<◌}
use native.Mathlib.Omega.{arith}
use native.Mathlib.Numerals.{add-one}
use borrow.Author.Tests.{le-ltb, ltb-true}
use lib.Dec.{ltb}
use lib.ListN.{length, get_or}
use Rattle.lists.proofs.LeftmostLaws.{NoneBelow, leftmost_is, leftmost_none, leftmost_most, leftmost_passes, leftmost_first}
use Rattle.lists.specs.Leftmost.{leftmost}
use Rattle.text.specs.Lines.{printable_byte}
use Rattle.text.specs.Split.{split}
use Rattle.text.proofs.SplitLaws.{joined_split}
use Rattle.fields.specs.Fields.{part_start, field_of}
use Rattle.std.specs.Prelude.{Option, Some, None, unwrap_or}
use Rattle.std.specs.List.{position_or_len}
use Rattle.std.specs.Option.{MatchOption}
use Rattle.std.proofs.lemmas.List.Sums.{position_or_len_is}
use Rattle.fields.proofs.PlaceLaws.{part_inside}
use Rattle.line_places.specs.Place.{as_place, place_at, place_where, Computes, unprintable_at, unprintable_place}

-- ---- a place as the code has it

pub placed : (i : ℕ) → Some (i + 1) ≡ as_place (i + 1)
unfolding as_place
placed i = rw (add-one i) refl

-- 0 stands for none: this is the number that goes into a byte.
pub place_out : (p : ℕ) → unwrap_or (as_place p) 0 ≡ p
unfolding as_place
place_out zero = refl
place_out (suc i) = refl

-- ---- a field's place

pub place_lacking : (fs : List (List ℕ)) (i : ℕ) → length fs ≤ i → place_at fs i ≡ 0
unfolding place_at
place_lacking fs i h = simp (le-ltb i (length fs) h)

module _ (l : List ℕ) (i : ℕ) (r : Option (ℕ × ℕ)) (given : r ≡ field_of 32 l i) where
  pub at_missing : r ≡ None → None ≡ as_place (place_at (split 32 l) i)
  unfolding as_place place_at
  at_missing p = go (ltb i (length (split 32 l))) refl (sym p ∙ given)
    where
      go : (t : Bool) → ltb i (length (split 32 l)) ≡ t
          → None ≡ cond {A = Option (ℕ × ℕ)} t (Some (part_start (split 32 l) i, part_start (split 32 l) i + length (get_or (split 32 l) i []))) None
          → None ≡ as_place (cond (ltb i (length (split 32 l))) (suc (part_start (split 32 l) i)) 0)
      go true e q = let z : ◌≡◌ {A = ℕ} 0 1 = cc in absurd (omega arith)
      go false e q = sym (rw e refl)

  started : (x y : ℕ) → r ≡ Some (x, y) → x + 1 ≡ place_at (split 32 l) i
  unfolding place_at
  started x y p = go (ltb i (length (split 32 l))) refl (sym p ∙ given)
    where
      go : (t : Bool) → ltb i (length (split 32 l)) ≡ t
          → Some (x, y) ≡ cond {A = Option (ℕ × ℕ)} t (Some (part_start (split 32 l) i, part_start (split 32 l) i + length (get_or (split 32 l) i []))) None
          → x + 1 ≡ cond (ltb i (length (split 32 l))) (suc (part_start (split 32 l) i)) 0
      go true e q =
          let z : ◌≡◌ {A = ℕ × ℕ} (x, y) (part_start (split 32 l) i, part_start (split 32 l) i + length (get_or (split 32 l) i [])) = cc in
          rw e (add-one x ∙ ap (λ (k : ℕ × ℕ). suc k.0) z)
      go false e q = let z : ◌≡◌ {A = ℕ} 0 1 = cc in absurd (omega arith)

  pub at_start : (x y : ℕ) → r ≡ Some (x, y) → Some (x + 1) ≡ as_place (place_at (split 32 l) i)
  at_start x y p = placed x ∙ ap as_place (started x y p)

-- At most 1 plus the bytes of the line.
pub place_most : (l : List ℕ) (i : ℕ) → place_at (split 32 l) i ≤ length l + 1
unfolding place_at
place_most l i = go (ltb i (length (split 32 l))) refl
  where
    go : (t : Bool) → ltb i (length (split 32 l)) ≡ t → cond t (suc (part_start (split 32 l) i)) 0 ≤ length l + 1
    go true e =
        let h = part_inside 32 (split 32 l) i (ltb-true i (length (split 32 l)) e) in
        let s = ap length (joined_split 32 l) in
        omega arith
    go false e = omega arith

pub start_fits : (l : List ℕ) (i x y : ℕ) (r : Option (ℕ × ℕ)) → r ≡ field_of 32 l i → r ≡ Some (x, y) → length l * 1 < 2 ^ 63 → x + 1 < 2 ^ 64
start_fits l i x y r given p h =
    let e = started l i r given x y p in
    let m = place_most l i in
    omega arith

pub ruleset place_kit = (at_missing, at_start, start_fits)

-- ---- the search for the leftmost field that passes, of n

module _ (answers : ℕ → Bool → Type 0) (fs : List (List ℕ)) (n : ℕ) (count : n ≡ length fs) (f : ℕ → Bool) (computes : Computes answers (length fs) f)
    (r : Option ℕ)
    (found : MatchOption r ((k : ℕ) → 0 ≤ k → k < n → answers k false)
    (λ i. (0 ≤ i) × (i < n) × answers i true × ((k : ℕ) → 0 ≤ k → k < i → answers k false))) where
  none_below : (i : ℕ) → i ≤ n → ((k : ℕ) → 0 ≤ k → k < i → answers k false) → NoneBelow f i
  none_below i h below = record { none = λ j k. sym (computes j false (omega arith) (below j (omega arith) k)) }

  pub where_none : r ≡ None → None ≡ as_place (place_where f fs)
  unfolding as_place
  where_none e = go r found e
    where
      go : (o : Option ℕ) → MatchOption o ((k : ℕ) → 0 ≤ k → k < n → answers k false) (λ i. (0 ≤ i) × (i < n) × answers i true × ((k : ℕ) → 0 ≤ k → k < i → answers k false))
          → o ≡ None → None ≡ as_place (place_where f fs)
      go None below e =
          sym (ap as_place (ap (place_at fs) (sym (leftmost_none f n (none_below n (omega arith) below) (length fs) (omega arith) (omega arith))) ∙ place_lacking fs n (omega arith)))
      go (Some i) h e = let z : ◌≡◌ {A = ℕ} 0 1 = cc in absurd (omega arith)

  pub where_found : (i : ℕ) → r ≡ Some i → (p : Option ℕ) → p ≡ as_place (place_at fs i) → p ≡ as_place (place_where f fs)
  where_found i e p q = q ∙ ap (λ (k : ℕ). as_place (place_at fs k)) (go r found e)
    where
      go : (o : Option ℕ) → MatchOption o ((k : ℕ) → 0 ≤ k → k < n → answers k false) (λ i. (0 ≤ i) × (i < n) × answers i true × ((k : ℕ) → 0 ≤ k → k < i → answers k false))
          → o ≡ Some i → i ≡ leftmost f (length fs)
      go None h e = let z : ◌≡◌ {A = ℕ} 0 1 = cc in absurd (omega arith)
      go (Some j) h e =
          let z : j ≡ i = cc in
          let inside = h.1 in
          sym z ∙ leftmost_is f j (none_below j (omega arith) h.3) (length fs) (omega arith) (sym (computes j true (omega arith) h.2))

-- ---- the first byte outside 32 to 126

module _ (l : List ℕ) where
  abbrev bad : ℕ → Bool
  bad b = not (printable_byte b)

  first_bad : position_or_len bad l ≡ leftmost (unprintable_at l) (length l)
  first_bad =
      position_or_len_is bad l (leftmost (unprintable_at l) (length l)) 0 (leftmost_most (unprintable_at l) (length l)) (leftmost_first (unprintable_at l) (length l))
      (leftmost_passes (unprintable_at l) (length l))

  found_bad : cond (ltb (position_or_len bad l) (length l)) (Some (position_or_len bad l)) None
      ≡ cond (ltb (leftmost (unprintable_at l) (length l)) (length l)) (Some (leftmost (unprintable_at l) (length l))) None
  found_bad = ap (λ (k : ℕ). cond (ltb k (length l)) (Some k) None) first_bad

  module _ (r : Option ℕ) (given : r ≡ cond (ltb (position_or_len bad l) (length l)) (Some (position_or_len bad l)) None) where
    pub all_clean : r ≡ None → None ≡ as_place (unprintable_place l)
    unfolding as_place unprintable_place
    all_clean p = go (ltb (leftmost (unprintable_at l) (length l)) (length l)) (sym p ∙ given ∙ found_bad)
      where
        go : (t : Bool) → None ≡ cond t (Some (leftmost (unprintable_at l) (length l))) None → None ≡ as_place (cond t (suc (leftmost (unprintable_at l) (length l))) 0)
        go true q = let z : ◌≡◌ {A = ℕ} 0 1 = cc in absurd (omega arith)
        go false q = refl

    pub bad_at : (i : ℕ) → r ≡ Some i → Some (i + 1) ≡ as_place (unprintable_place l)
    unfolding as_place unprintable_place
    bad_at i p = go (ltb (leftmost (unprintable_at l) (length l)) (length l)) (sym p ∙ given ∙ found_bad)
      where
        go : (t : Bool) → Some i ≡ cond t (Some (leftmost (unprintable_at l) (length l))) None
            → Some (i + 1) ≡ as_place (cond t (suc (leftmost (unprintable_at l) (length l))) 0)
        go true q = let z : i ≡ leftmost (unprintable_at l) (length l) = cc in ap Some (add-one i ∙ ap suc z)
        go false q = let z : ◌≡◌ {A = ℕ} 0 1 = cc in absurd (omega arith)

pub ruleset unprintable_kit = (all_clean, bad_at)
