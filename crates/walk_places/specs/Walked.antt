-- What stands at the places of the pivots during the walk back: beads downwards and, for each bead, candidates upwards.
use Rattle.std.specs.Prelude.{ℕ, zero, suc, ◌-◌, ◌/◌, ◌%◌, ◌≤◌, ◌<◌, ◌≡◌, cond, List, T, eqb, ltb, leb, get_or}
use Rattle.sets.specs.Sets.{member}
use Rattle.necklace.specs.Dag.{Dag}
use Rattle.necklace.specs.Necklace.{Pattern}
use Rattle.necklace.specs.Compute.{holds?, before}
use Rattle.layout.specs.Layout.{most_steps}
use Rattle.rows.specs.Rows.{pivot_at}

-- The pivot of the first k beads in the walk back from v over a pattern of k + d beads.
unfoldable pub pivot_back : Dag → Pattern → ℕ → ℕ → ℕ → ℕ
pivot_back G P k zero v = v
pivot_back G P k (suc d) v = before G P k (pivot_back G P (suc k) d v)

-- The pivot of the first j beads of v.
unfoldable pub pivot_of : Dag → Pattern → ℕ → ℕ → ℕ
pivot_of G P j v = pivot_back G P j (P.count - j) v

-- After the walk: for each vertex at which the whole pattern holds, all its pivots stand at their places.
pub record WalkedBack (G : Dag) (P : Pattern) (n : ℕ) (pivots : List ℕ) : Type 0 where
  pub places : (k v : ℕ) → k ≤ P.count → v < n → T (holds? G P P.count v) → get_or pivots (pivot_at k v) 0 ≡ pivot_back G P k (P.count - k) v

-- ---- during the walk

-- What stands at the place of v while the candidates below u have been looked at: its pivot, if that is one of them, or n, which is no
-- step, while v still searches; 0 where the whole pattern fails.
unfoldable pub sought : Dag → Pattern → ℕ → ℕ → ℕ → ℕ → ℕ
sought G P n j u v = cond (holds? G P P.count v) (cond (ltb (pivot_of G P j v) u) (pivot_of G P j v) n) 0

-- How many candidates have been looked at for the bead at place j and the vertex v, in a turn of the walk. While `left` beads are left,
-- those after them are done. For the last one left the candidates below `from` have been looked at, and, for the vertices below `step`,
-- those below `to`.
unfoldable pub looked : ℕ → ℕ → ℕ → ℕ → ℕ → ℕ → ℕ → ℕ
looked n left from to step j v = cond (leb left j) n (cond (eqb (suc j) left) (cond (ltb v step) to from) 0)

-- The places in such a turn. The last pivot of each vertex is the vertex itself.
pub record Walked (G : Dag) (P : Pattern) (n left from to step : ℕ) (pivots : List ℕ) : Type 0 where
  pub last : (v : ℕ) → v < n → get_or pivots (pivot_at P.count v) 0 ≡ v
  pub places : (j v : ℕ) → j < P.count → v < n → get_or pivots (pivot_at j v) 0 ≡ sought G P n j (looked n left from to step j v) v

-- ---- before it

-- What stands at the places before the walk: n where the whole pattern holds, else 0; and the last pivots.
unfoldable pub first_place : ℕ → ℕ → List ℕ → ℕ → ℕ
first_place beads n sets i = cond (ltb (i / most_steps) beads) (cond (member (beads - 1) (get_or sets (i % most_steps) 0)) n 0) (i % most_steps)
