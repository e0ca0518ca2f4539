-- 15 and 16, as the code finds them: the next sets, field by field.
-- Assumes nothing.
use mathlib.Core.Path.{◌≡◌, refl, sym, ap, ◌∙◌}
use mathlib.Core.Bool.{Bool, true, false, not, cond, ◌&&◌}
use mathlib.Core.List.{List, []}
use Rattle.std.specs.Prelude.{Some, None, unwrap_or}
use Prim.Native.Nat.{ℕ, ◌^◌, ◌≤◌, ◌<◌}
use native.Mathlib.Omega.{arith}
use borrow.Author.Tests.{lt-ltb, le-leb, lt-leb, leb-true}
use lib.Dec.{leb}
use lib.ListN.{length, get_or}
use lib.Pow.{pow_mono}
use Rattle.layout.specs.Layout.{most_states}
use Rattle.sets.specs.Sets.{within, single}
use Rattle.numbers.specs.Numbers.{plain, digits, value_from, decimal, value_of}
use Rattle.lists.proofs.LeftmostLaws.{leftmost_none}
use Rattle.line_places.specs.Place.{as_place, place_at}
use Rattle.line_places.proofs.PlaceLaws.{place_lacking}
use Rattle.layout.specs.Layout.{most_number}
use Rattle.pattern_places.specs.Place.{stray_set, straying_at, ambiguous_set}

-- ---- a next set

pub stray_front : (n : ℕ) (fs : List (List ℕ)) (i : ℕ) → i < 4 → leb 4 i ≡ stray_set n fs i
unfolding stray_set
stray_front n fs i h = lt-leb 4 i h ∙ sym (rw (lt-leb 4 i h) refl)

pub stray_set_lem : (n : ℕ) (fs : List (List ℕ)) (i : ℕ) (v : ℕ) (t : Bool) → 4 ≤ i → v ≡ value_of (get_or fs i []) → t ≡ within n v
    → not t ≡ stray_set n fs i
unfolding stray_set
stray_set_lem n fs i v t h g e = ap not (e ∙ ap (within n) g) ∙ sym (rw (le-leb 4 i h) refl)

pub ruleset stray_kit = (stray_front, stray_set_lem)

pub ambiguous_front : (fs : List (List ℕ)) (i : ℕ) → i < 4 → leb 4 i ≡ ambiguous_set fs i
unfolding ambiguous_set
ambiguous_front fs i h = lt-leb 4 i h ∙ sym (rw (lt-leb 4 i h) refl)

pub ambiguous_set_lem : (fs : List (List ℕ)) (i : ℕ) (v : ℕ) (t : Bool) → 4 ≤ i → v ≡ value_of (get_or fs i []) → t ≡ single most_states v
    → not t ≡ ambiguous_set fs i
unfolding ambiguous_set
ambiguous_set_lem fs i v t h g e = ap not (e ∙ ap (single most_states) g) ∙ sym (rw (le-leb 4 i h) refl)

pub ruleset ambiguous_kit = (ambiguous_front, ambiguous_set_lem)

-- ---- a number is below 2 to the 16, so that a bead of 16 states lacks none that it names

value_most : (bs : List ℕ) → value_of bs ≤ most_number
unfolding decimal
value_most bs = go (plain bs && digits bs && leb (value_from 0 bs) most_number) refl
  where
    last : (a b : Bool) → (a && b) ≡ true → b ≡ true
    last true b e = e
    last false true e = refl
    last false false e = e

    go : (t : Bool) → (plain bs && digits bs && leb (value_from 0 bs) most_number) ≡ t → unwrap_or (cond t (Some (value_from 0 bs)) None) 0 ≤ most_number
    go true e = leb-true (value_from 0 bs) most_number (last (plain bs && digits bs) (leb (value_from 0 bs) most_number) e)
    go false e = omega arith

pub none_strays : (n : ℕ) (fs : List (List ℕ)) → most_states ≤ n → None ≡ as_place (straying_at n fs)
unfolding stray_set as_place
none_strays n fs h = sym (ap as_place (ap (place_at fs) (sym (leftmost_none (stray_set n fs) (length fs) (record { none = λ j k. inside (leb 4 j) j }) (length fs) (omega arith) (omega arith))) ∙ place_lacking fs (length fs) (omega arith)))
  where
    big : 2 ^ most_states ≤ 2 ^ n
    big = pow_mono {i = most_states} {j = n} (omega arith)

    inside : (t : Bool) (j : ℕ) → (t && not (within n (value_of (get_or fs j [])))) ≡ false
    inside true j =
        let m = value_most (get_or fs j []) in
        let b = big in
        rw (lt-ltb (value_of (get_or fs j [])) (2 ^ n) (omega arith)) refl
    inside false j = refl

pub ruleset straying_kit = (none_strays)
