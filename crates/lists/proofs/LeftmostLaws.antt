-- The leftmost number that passes a test: it passes, none before it does, and a loop that stops at the first that passes finds it.
-- Assumes nothing.
use Prim.Native.Nat.{ℕ, zero, suc, ◌+◌, ◌≤◌, ◌<◌}
use mathlib.Core.Path.{◌≡◌, refl, subst}
use mathlib.Core.Bool.{Bool, true, false}
use mathlib.Core.Logic.{◌⊎◌, inl, inr}
use native.Mathlib.Nat.{eq-or-lt_of_le}
use native.Mathlib.Omega.{arith}
use borrow.Author.Tests.{ltb-true, ltb-false}
use lib.Dec.{ltb}
use Rattle.lists.specs.Leftmost.{leftmost_from, leftmost}

module _ (f : ℕ → Bool) where
  from_here : (d i : ℕ) → f i ≡ true → leftmost_from f (suc d) i ≡ i
  unfolding leftmost_from
  from_here d i e = rw e

  from_later : (d i : ℕ) → f i ≡ false → leftmost_from f (suc d) i ≡ leftmost_from f d (suc i)
  unfolding leftmost_from
  from_later d i e = rw e

  from_none : (i : ℕ) → leftmost_from f 0 i ≡ i
  unfolding leftmost_from
  from_none i = refl

  -- Where it stands: it passes, or it is past the last, and none of those before it passes.
  pub record Stands (d i k : ℕ) : Type 0 where
    pub low : i ≤ k
    pub high : k ≤ i + d
    pub passes : k < i + d → f k ≡ true
    pub first : (j : ℕ) → i ≤ j → j < k → f j ≡ false

  pub stands : (d i : ℕ) → Stands d i (leftmost_from f d i)
  stands zero i =
      rw from_none record {
        low = omega arith;
        high = omega arith;
        passes = λ h. absurd (omega arith);
        first = λ j h k. absurd (omega arith);
      }
  stands (suc d) i = go (f i) refl (stands d (suc i))
    where
      go : (b : Bool) → f i ≡ b → Stands d (suc i) (leftmost_from f d (suc i)) → Stands (suc d) i (leftmost_from f (suc d) i)
      go true e s =
          rw (from_here d i e) record {
            low = omega arith;
            high = omega arith;
            passes = λ h. e;
            first = λ j h k. absurd (omega arith);
          }
      go false e s =
          let low = s.low in
          let high = s.high in
          rw (from_later d i e) record {
            low = omega arith;
            high = omega arith;
            passes = λ h. s.passes (omega arith);
            first = λ j h k. before j (eq-or-lt_of_le h) k;
          }
        where
          before : (j : ℕ) → (i ≡ j) ⊎ (i < j) → j < leftmost_from f d (suc i) → f j ≡ false
          before j (inl q) k = subst (λ (m : ℕ). f m ≡ false) q e
          before j (inr q) k = s.first j (omega arith) k

module _ (f : ℕ → Bool) (n : ℕ) where
  pub leftmost_most : leftmost f n ≤ n
  leftmost_most = let h = (stands f n 0).high in omega arith

  -- The one found passes, if it is not past the last.
  pub leftmost_passes : leftmost f n < n → f (leftmost f n) ≡ true
  leftmost_passes h = (stands f n 0).passes (omega arith)

  -- None before it does.
  pub leftmost_first : (j : ℕ) → j < leftmost f n → f j ≡ false
  leftmost_first j h = (stands f n 0).first j (omega arith) h

-- ---- a loop that stops at the first number that passes

-- No number below i passes.
pub record NoneBelow (f : ℕ → Bool) (i : ℕ) : Type 0 where
  pub none : (j : ℕ) → j < i → f j ≡ false

-- A test is not both passed and failed.
pub clash : {A : Type 0} (b : Bool) → b ≡ true → b ≡ false → A
clash true p q = let z : ◌≡◌ {A = ℕ} 0 1 = cc in absurd (omega arith)
clash false p q = let z : ◌≡◌ {A = ℕ} 0 1 = cc in absurd (omega arith)

module _ (f : ℕ → Bool) (i : ℕ) (passed : NoneBelow f i) where
  pub leftmost_is : (n : ℕ) → i < n → f i ≡ true → i ≡ leftmost f n
  leftmost_is n h e = go (ltb (leftmost f n) i) refl (ltb i (leftmost f n)) refl
    where
      go : (s : Bool) → ltb (leftmost f n) i ≡ s → (t : Bool) → ltb i (leftmost f n) ≡ t → i ≡ leftmost f n
      go true a t b =
          let l = ltb-true (leftmost f n) i a in
          clash (f (leftmost f n)) (leftmost_passes f n (omega arith)) (passed.none (leftmost f n) l)
      go false a true b = clash (f i) e (leftmost_first f n i (ltb-true i (leftmost f n) b))
      go false a false b =
          let l = ltb-false (leftmost f n) i a in
          let m = ltb-false i (leftmost f n) b in
          omega arith

  pub leftmost_none : (n : ℕ) → i ≤ n → n ≤ i → i ≡ leftmost f n
  leftmost_none n h k = go (ltb (leftmost f n) n) refl
    where
      go : (s : Bool) → ltb (leftmost f n) n ≡ s → i ≡ leftmost f n
      go true a =
          let l = ltb-true (leftmost f n) n a in
          clash (f (leftmost f n)) (leftmost_passes f n l) (passed.none (leftmost f n) (omega arith))
      go false a = let l = ltb-false (leftmost f n) n a in let b = leftmost_most f n in omega arith
