-- All numbers below n pass: what the test means, and what `all` over a range says of it.
-- Assumes nothing.
use Prim.Native.Nat.{ℕ, zero, suc, ◌+◌, ◌<◌}
use mathlib.Core.Path.{◌≡◌, sym, ◌∙◌, subst}
use mathlib.Core.List.{List}
use mathlib.Core.Logic.{◌⊎◌, inl, inr, ◌↔◌}
use mathlib.Core.Bool.{Bool, true, false, not}
use native.Mathlib.Nat.{add-zero, zero-add, eq-or-lt_of_le, not-suc-le-zero}
use native.Mathlib.Numerals.{add-one}
use native.Mathlib.Omega.{arith}
use borrow.Author.Tests.{not-true, not-false}
use lib.Dec.{T}
use denote.Param.Members.{Mut}
use Rattle.std.proofs.Common.{Option}
use Rattle.std.proofs.lemmas.Iterator.{YieldsList}
use Rattle.std.proofs.lemmas.Iterator.Search.{all_from_yields_List}
use Rattle.std.specs.Fn.{Called}
use Rattle.std.specs.Iterator.{YieldsThen}
use Rattle.std.specs.List.{FoldsTo, list_all, range_with_len}
use Rattle.std.specs.Option.{MatchOption}
use Rattle.sets.specs.Sets.{all_below}
use Rattle.sets.proofs.Truth.{same, and_i, and_l, and_r, no_false, false_no}

pub all_out : (n : ℕ) (f : ℕ → Bool) → T (all_below n f) → (i : ℕ) → i < n → T (f i)
unfolding all_below
all_out zero f t i h = absurd (not-suc-le-zero h)
all_out (suc n) f t i h = go (eq-or-lt_of_le h) (λ l. all_out n f (and_l (all_below n f) (f n) t) i l)
  where
    go : (suc i ≡ suc n) ⊎ (suc i < suc n) → (i < n → T (f i)) → T (f i)
    go (inl e) rest = let q : n ≡ i = omega arith in subst (λ (z : ℕ). T (f z)) q (and_r (all_below n f) (f n) t)
    go (inr l) rest = rest (omega arith)

pub all_in : (n : ℕ) (f : ℕ → Bool) → ((i : ℕ) → i < n → T (f i)) → T (all_below n f)
unfolding all_below
all_in zero f h = tt
all_in (suc n) f h = and_i (all_below n f) (f n) (all_in n f (λ i l. h i (omega arith))) (h n (omega arith))

pub all_below_iff : (n : ℕ) (f : ℕ → Bool) → T (all_below n f) ↔ ((i : ℕ) → i < n → T (f i))
all_below_iff n f = (all_out n f, all_in n f)

-- One number after the other, where the code tests for a denial; r is the answer for the number i.
pub all_more : (i : ℕ) (f : ℕ → Bool) (r : Bool) → all_below i f ≡ true → r ≡ f i → not r ≡ false → all_below (i + 1) f ≡ true
unfolding all_below
all_more i f r e answer y = rw (add-one i, e, sym answer) (not-false r y)

pub all_fails : (n i : ℕ) (f : ℕ → Bool) (r : Bool) → i < n → r ≡ f i → not r ≡ true → false ≡ all_below n f
all_fails n i f r h answer z = sym (no_false (all_below n f) (λ t. false_no (f i) (sym answer ∙ not-true r z) (all_out n f t i h)))

-- ---- `(a..a + n).all(..)`

listed_out : (n a : ℕ) (f : ℕ → Bool) → T (list_all f (range_with_len a n)) → (k : ℕ) → k < n → T (f (a + k))
listed_out zero a f t k h = absurd (not-suc-le-zero h)
listed_out (suc n) a f t zero h = rw (add-zero a) (and_l (f a) (list_all f (range_with_len (a + 1) n)) t)
listed_out (suc n) a f t (suc k) h =
    let e : a + 1 + k ≡ a + suc k = omega arith in
    subst (λ (i : ℕ). T (f i)) e (listed_out n (a + 1) f (and_r (f a) (list_all f (range_with_len (a + 1) n)) t) k (omega arith))

listed_in : (n a : ℕ) (f : ℕ → Bool) → ((k : ℕ) → k < n → T (f (a + k))) → T (list_all f (range_with_len a n))
listed_in zero a f h = tt
listed_in (suc n) a f h =
    and_i (f a) (list_all f (range_with_len (a + 1) n)) (rw (add-zero a) at (h 0 (omega arith)))
    (listed_in n (a + 1) f (λ k l. let e : a + suc k ≡ a + 1 + k = omega arith in subst (λ (i : ℕ). T (f i)) e (h (suc k) (omega arith))))

listed : (n a : ℕ) (f : ℕ → Bool) → list_all f (range_with_len a n) ≡ all_below n (λ k. f (a + k))
listed n a f =
    same (list_all f (range_with_len a n)) (all_below n (λ k. f (a + k))) (λ t. all_in n (λ k. f (a + k)) (listed_out n a f t))
    (λ t. listed_in n a f (all_out n (λ k. f (a + k)) t))

listed_first : (n : ℕ) (f : ℕ → Bool) → list_all f (range_with_len 0 n) ≡ all_below n f
listed_first n f =
    same (list_all f (range_with_len 0 n)) (all_below n f) (λ t. all_in n f (λ k l. rw (zero-add k) at (listed_out n 0 f t k l)))
    (λ t. listed_in n 0 f (λ k l. rw (zero-add k) (all_out n f t k l)))

-- What `all` says of a closure that answers as `test` does and changes nothing.
module _ {S F : Type 0} {steps : S → Option ℕ → S → Type 0} {g : Mut F (ℕ × Unit {0}) Bool} {s : S} {f : F} (r : Bool) (u : S) (test : ℕ → Bool)
    (ran : (xs : List ℕ) × (o : Option ℕ) × (j : F) × YieldsThen steps s xs o u
    × FoldsTo (λ p x q. Called g p (x, tt) true q) f xs j × MatchOption o (r ≡ true) (λ x. (r ≡ false) × ((h : F) × Called g j (x, tt) false h))) where
  pub all_from_ran : (a n : ℕ) → YieldsList steps (λ x. x) s (range_with_len a n)
      → ((x : ℕ) (b : Bool) (q : F) → Called g f (x, tt) b q → (q ≡ f) × (b ≡ test x)) → r ≡ all_below n (λ k. test (a + k))
  all_from_ran a n yields calls = all_from_yields_List test u f r ran yields calls ∙ listed n a test

  pub all_below_ran : (n : ℕ) → YieldsList steps (λ x. x) s (range_with_len 0 n)
      → ((x : ℕ) (b : Bool) (q : F) → Called g f (x, tt) b q → (q ≡ f) × (b ≡ test x)) → r ≡ all_below n test
  all_below_ran n yields calls = all_from_yields_List test u f r ran yields calls ∙ listed_first n test
