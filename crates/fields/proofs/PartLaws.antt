-- The walk over the parts of a list of bytes: the parts that begin at a place, one part after the other.
-- Assumes nothing.
use mathlib.Core.Path.{◌≡◌, sym, ap, ◌∙◌}
use mathlib.Core.Bool.{cond}
use mathlib.Core.List.{List, [], ◌∷◌}
use Prim.Native.Nat.{ℕ, ◌+◌, ◌-◌, ◌*◌, ◌^◌, ◌≤◌, ◌<◌}
use native.Mathlib.Omega.{arith}
use native.Mathlib.Decide.{ℕ_discrete}
use borrow.Author.Tests.{le-leb, lt-leb}
use lib.Dec.{leb}
use lib.ListN.{length, take, drop, length-drop}
use lib.Seq.{drop-drop, take_all}
use Rattle.text.specs.Split.{split, first_part}
use Rattle.lists.proofs.Parts.{rest_part}
use Rattle.text.proofs.SplitLaws.{split_last, split_next, first_short}

-- The parts from the place `at` on, at which one begins; past the end there is none.
pub parts_from : ℕ → List ℕ → ℕ → List (List ℕ)
parts_from b l at = cond (leb at (length l)) (split b (drop at l)) []

pub parts_all : (b : ℕ) (l : List ℕ) → split b l ≡ parts_from b l 0
unfolding parts_from
parts_all b l = sym (simp (le-leb 0 (length l) (omega arith)))

pub parts_none : (b : ℕ) (l : List ℕ) (at : ℕ) → length l < at → parts_from b l at ≡ []
unfolding parts_from
parts_none b l at h = simp (lt-leb at (length l) h)

parts_some : (b : ℕ) (l : List ℕ) (at : ℕ) → at ≤ length l → parts_from b l at ≡ split b (drop at l)
unfolding parts_from
parts_some b l at h = simp (le-leb at (length l) h)

module _ (b : ℕ) (l : List ℕ) (at n : ℕ) (inside : at ≤ length l) (given : n ≡ length (first_part b (take (length l - at) (drop at l)))) where
  first : n ≡ length (first_part b (drop at l))
  first = given ∙ ap (λ (m : List ℕ). length (first_part b m)) (rest_part l at)

  pub part_in : at + n ≤ length l
  part_in = let k = first_short b (drop at l) in let d = length-drop at l in let f = first in omega arith

  -- the part, as it is lent, and the parts after it
  pub parts_step : parts_from b l at ≡ take (at + n - at) (drop at l) ∷ parts_from b l (at + n + 1)
  parts_step = go (ℕ_discrete n (length l - at))
    where
      z : at + n - at ≡ n
      z = omega arith

      go : Dec (n ≡ length l - at) → parts_from b l at ≡ take (at + n - at) (drop at l) ∷ parts_from b l (at + n + 1)
      go (yes e) =
          let d = length-drop at l in
          let f : length (first_part b (drop at l)) ≡ length (drop at l) = sym first ∙ e ∙ sym d in
          let h : length l < at + n + 1 = omega arith in
          let k : length (drop at l) ≤ n = omega arith in
          rw (z, parts_none b l (at + n + 1) h, take_all n (drop at l) k) (parts_some b l at inside ∙ split_last b (drop at l) f)
      go (no e) =
          let d = length-drop at l in
          let f = first in
          let p = part_in in
          let h : at + n + 1 ≤ length l = omega arith in
          let q : at + (n + 1) ≡ at + n + 1 = omega arith in
          let s = split_next b (drop at l) (λ g. e (first ∙ g ∙ d)) in
          rw (z, parts_some b l (at + n + 1) h, sym q, ← drop-drop (n + 1) at l) (parts_some b l at inside ∙ s ∙ rw (← first))

  pub part_fits : length l < 2 ^ 64 → at + n < 2 ^ 64
  part_fits h = let p = part_in in omega arith

  pub next_fits : length l * 1 < 2 ^ 63 → at + n + 1 < 2 ^ 64
  next_fits h = let p = part_in in omega arith

  pub next_in : at + n + 1 ≤ length l + 1
  next_in = let p = part_in in omega arith

  pub rest_falls : length l + 1 - (at + n + 1) < length l + 1 - at
  rest_falls = let p = part_in in omega arith

pub ruleset part_kit = (part_in, part_fits, next_fits, next_in, rest_falls)
