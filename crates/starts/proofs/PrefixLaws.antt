-- The marks of prefixes, at one vertex.
use Prim.Native.Nat.{ℕ, zero, suc, ◌-◌}
use mathlib.Core.Path.{◌≡◌, refl}
use mathlib.Core.Bool.{Bool}
use mathlib.Core.List.{List}
use native.Mathlib.Omega.{arith}
use lib.Dec.{eqb}
use lib.ListN.{get_or}
use Rattle.sets.specs.Sets.{member}
use Rattle.starts.specs.Starts.{prefix_at}

pub prefix_first : (prefixes : List ℕ) (k u : ℕ) → k ≡ 0 → eqb u 0 ≡ prefix_at prefixes k u
unfolding prefix_at
prefix_first prefixes k u e = rw e

pub prefix_later : (prefixes : List ℕ) (k u : ℕ) (r : Bool) → (k ≡ 0 → ⊥) → r ≡ member (k - 1) (get_or prefixes u 0) → r ≡ prefix_at prefixes k u
unfolding prefix_at
prefix_later prefixes zero u r n e = absurd (n refl)
prefix_later prefixes (suc k) u r n e = let z : suc k - 1 ≡ k = omega arith in rw z at e

pub ruleset prefix_kit = (prefix_first, prefix_later)
