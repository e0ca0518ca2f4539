-- Tests below a bound, sets gathered by a test, and their members as a list: where the tests agree, so do they.
-- Assumes nothing.
use Prim.Native.Nat.{ℕ, zero, suc, ◌^◌, ◌<◌}
use mathlib.Core.Path.{◌≡◌, refl, sym, ap₂, ◌∙◌, subst}
use mathlib.Core.Logic.{inl}
use mathlib.Core.Bool.{Bool, false, ◌&&◌, ◌||◌}
use mathlib.Core.List.{List, [], ◌∷◌}
use native.Mathlib.Omega.{arith}
use lib.Dec.{T, eqb, eqb→eq, eqb_refl}
use Rattle.sets.specs.Sets.{◌∈◌, member, set_of, singleton, some_below, members}
use Rattle.sets.proofs.Truth.{same, and_i, and_l, and_r, false_no}
use Rattle.sets.proofs.Bits.{member_empty}
use Rattle.sets.proofs.Laws.{ext, no_member, set_of_below, member-set_of, singleton_below, some_below_out, some_below_in, members_out, members_in, below_within}

pub set_of_ext : (n : ℕ) (f g : ℕ → Bool) → ((i : ℕ) → i < n → f i ≡ g i) → set_of n f ≡ set_of n g
set_of_ext n f g h =
    ext n (set_of n f) (set_of n g) (set_of_below n f) (set_of_below n g) (λ i l. member-set_of n f i l ∙ h i l ∙ sym (member-set_of n g i l))

pub set_of_empty : (n : ℕ) (f : ℕ → Bool) → ((i : ℕ) → i < n → f i ≡ false) → set_of n f ≡ 0
set_of_empty n f h = ext n (set_of n f) 0 (set_of_below n f) (empty_below n) (λ i l. member-set_of n f i l ∙ h i l ∙ sym (member_empty i))
  where
    empty_below : (n : ℕ) → 0 < 2 ^ n
    empty_below zero = omega arith
    empty_below (suc n) = let l = empty_below n in omega arith

pub set_of_one : (n : ℕ) (f : ℕ → Bool) (q : ℕ) → q < n → ((i : ℕ) → i < n → f i ≡ member i (singleton q)) → set_of n f ≡ singleton q
set_of_one n f q l h = ext n (set_of n f) (singleton q) (set_of_below n f) (singleton_below n q l) (λ i k. member-set_of n f i k ∙ h i k)

pub some_below_ext : (n : ℕ) (f g : ℕ → Bool) → ((i : ℕ) → i < n → f i ≡ g i) → some_below n f ≡ some_below n g
unfolding some_below
some_below_ext zero f g h = refl
some_below_ext (suc n) f g h = ap₂ ◌||◌ (some_below_ext n f g (λ i l. h i (omega arith))) (h n (omega arith))

-- the numbers below n that pass and are r: r, if it passes
pub some_below_is : (n : ℕ) (f : ℕ → Bool) (r : ℕ) → r < n → some_below n (λ q. f q && eqb r q) ≡ f r
some_below_is n f r h = same (some_below n (λ q. f q && eqb r q)) (f r) forth back
  where
    forth : T (some_below n (λ q. f q && eqb r q)) → T (f r)
    forth t =
        let s = some_below_out n (λ q. f q && eqb r q) t in
        subst (λ (q : ℕ). T (f q)) (sym (eqb→eq r s.0 (and_r (f s.0) (eqb r s.0) s.2))) (and_l (f s.0) (eqb r s.0) s.2)

    back : T (f r) → T (some_below n (λ q. f q && eqb r q))
    back t = some_below_in n (λ q. f q && eqb r q) r h (and_i (f r) (eqb r r) t (eqb_refl r))

-- a list without members is empty
pub no_members : (xs : List ℕ) → ((x : ℕ) → x ∈ xs → ⊥) → xs ≡ []
no_members [] h = refl
no_members (x ∷ xs) h = absurd (h x (inl refl))

-- the empty set has no members, and a set without members is empty
pub members_empty : (n : ℕ) → members n 0 ≡ []
members_empty n = no_members (members n 0) (λ i m. false_no (member i 0) (member_empty i) (members_out n 0 i m).1)

pub empty_members : (n s : ℕ) → s < 2 ^ n → members n s ≡ [] → s ≡ 0
empty_members n s h e = no_member s (λ i t. subst (λ (ls : List ℕ). i ∈ ls) e (members_in n s i (below_within n s h i t) t))
