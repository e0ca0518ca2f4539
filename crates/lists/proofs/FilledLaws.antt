-- A list that a loop writes from the front, number by number.
use Prim.Native.Nat.{ℕ, ◌+◌, ◌≤◌, ◌<◌}
use mathlib.Core.Path.{◌≡◌, ap, ◌∙◌}
use mathlib.Core.List.{List}
use native.Mathlib.Decide.{ℕ_discrete}
use native.Mathlib.Nat.{not-suc-le-zero}
use native.Mathlib.Omega.{arith}
use lib.ListN.{length, get_or, set}
use lib.Seq.{get_or-set_same, get_or-set_other}
use Rattle.lists.specs.inner.Filled.{Filled}

pub filled_none : (f : ℕ → ℕ) (l : List ℕ) → Filled f 0 l
filled_none f l = record { number = λ i h. absurd (not-suc-le-zero h) }

pub filled_more : (f : ℕ → ℕ) (j v : ℕ) (l : List ℕ) → Filled f j l → j < length l → v ≡ f j → Filled f (j + 1) (set l j v)
filled_more f j v l d h e = record { number = λ i k. go i k (ℕ_discrete i j) }
  where
    go : (i : ℕ) → i < j + 1 → Dec (i ≡ j) → get_or (set l j v) i 0 ≡ f i
    go i k (yes p) = rw p (get_or-set_same l j v 0 h ∙ e)
    go i k (no n) = get_or-set_other l j i v 0 n ∙ d.number i (omega arith)

pub filled_end : (f : ℕ → ℕ) (n i : ℕ) (l : List ℕ) → n ≤ i → Filled f i l → Filled f n l
filled_end f n i l h d = record { number = λ k m. d.number k (omega arith) }

pub set_in : (l k : List ℕ) (i v : ℕ) → l ≡ k → set l i v ≡ set k i v
set_in l k i v e = ap (λ (m : List ℕ). set m i v) e

pub ruleset kit = (filled_none, filled_more, filled_end, set_in)
