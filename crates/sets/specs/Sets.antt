-- A number as a set of small numbers (document 01: "A set is a number: bit i (value 2 to the i) for member i").
-- A width n stands where only members below n count: 16 for the sets of document 01.
use Rattle.std.specs.Prelude.{ℕ, zero, suc, ◌+◌, ◌/◌, ◌%◌, ◌^◌, ◌<◌, ◌≡◌, Bool, true, false, not, cond, ◌&&◌, ◌||◌, List, [], ◌∷◌, ◌⊎◌, T, eqb, ltb, length}

-- x stands in the list.
infix 40 ◌∈◌
abbrev pub ◌∈◌ : ℕ → List ℕ → Type 0
x ∈ [] = ⊥
x ∈ (y ∷ ys) = (x ≡ y) ⊎ (x ∈ ys)

-- Is i a member of the set s?
abbrev pub member : ℕ → ℕ → Bool
member i s = eqb (s / 2 ^ i % 2) 1

-- The set of the numbers below n that pass a test: the sum of 2 to the i over them.
unfoldable pub set_of : ℕ → (ℕ → Bool) → ℕ
set_of zero f = 0
set_of (suc n) f = set_of n f + cond (f n) (2 ^ n) 0

-- The set {i}.
abbrev pub singleton : ℕ → ℕ
singleton i = 2 ^ i

-- The members of either set.
abbrev pub union : ℕ → ℕ → ℕ → ℕ
union n s t = set_of n (λ i. member i s || member i t)

-- The members of both sets.
abbrev pub intersection : ℕ → ℕ → ℕ → ℕ
intersection n s t = set_of n (λ i. member i s && member i t)

-- The numbers below n that are not members of s.
abbrev pub complement : ℕ → ℕ → ℕ
complement n s = set_of n (λ i. not (member i s))

-- The two sets have a member in common.
pub record Overlap (s t : ℕ) : Type 0 where
  pub common : ℕ
  pub left : T (member common s)
  pub right : T (member common t)

-- Every member of s is below n.
abbrev pub Within : ℕ → ℕ → Type 0
Within n s = (i : ℕ) → T (member i s) → i < n

-- There is one member and no other.
pub record Single (s : ℕ) : Type 0 where
  pub only : ℕ
  pub there : T (member only s)
  pub others : (i : ℕ) → T (member i s) → i ≡ only

-- The same three as tests. `Overlap`, `Within` and `Single` say what they mean; the laws prove it.

-- Some number below n passes.
unfoldable pub some_below : ℕ → (ℕ → Bool) → Bool
some_below zero f = false
some_below (suc n) f = some_below n f || f n

-- All numbers below n pass.
unfoldable pub all_below : ℕ → (ℕ → Bool) → Bool
all_below zero f = true
all_below (suc n) f = all_below n f && f n

abbrev pub overlaps : ℕ → ℕ → ℕ → Bool
overlaps n s t = some_below n (λ i. member i s && member i t)

abbrev pub within : ℕ → ℕ → Bool
within n s = ltb s (2 ^ n)

-- The members among i, i + 1, .., i + d - 1, in rising order.
abbrev pub cons_if : Bool → ℕ → List ℕ → List ℕ
cons_if true i ls = i ∷ ls
cons_if false i ls = ls

unfoldable pub members_from : ℕ → ℕ → ℕ → List ℕ
members_from zero i s = []
members_from (suc d) i s = cons_if (member i s) i (members_from d (suc i) s)

-- The members of s below n, in rising order.
abbrev pub members : ℕ → ℕ → List ℕ
members n s = members_from n 0 s

abbrev pub single : ℕ → ℕ → Bool
single n s = eqb (length (members n s)) 1
