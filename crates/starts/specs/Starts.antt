-- The steps at which the passes for a bead start, and the lanes that they are given.
use Rattle.std.specs.Prelude.{ℕ, zero, suc, ◌+◌, ◌≤◌, ◌<◌, ◌≡◌, Bool, List, T, eqb, get_or}
use Rattle.sets.specs.Sets.{member}
use Rattle.necklace.specs.Dag.{Dag}
use Rattle.necklace.specs.Necklace.{Pattern}
use Rattle.necklace.specs.Compute.{holds?}
use Rattle.layout.specs.Layout.{most_lanes}
use Rattle.starts.specs.declared.Starts.{Starts}
use Rattle.starts.specs.declared.Lanes.{Lanes}
use Rattle.starts.specs.declared.Lanes.TheVariants.{Shared, Own}

-- Do the first k beads hold at u, by the marks? The first none hold at vertex 0 alone.
unfoldable pub prefix_at : List ℕ → ℕ → ℕ → Bool
prefix_at prefixes zero u = eqb u 0
prefix_at prefixes (suc k) u = member k (get_or prefixes u 0)

-- The marks of the first k beads, whatever is marked of more or fewer.
pub record Earlier (G : Dag) (P : Pattern) (k n : ℕ) (prefixes : List ℕ) : Type 0 where
  pub holds : (u : ℕ) → u < n → prefix_at prefixes k u ≡ holds? G P k u

-- Of the steps from `from` on and below `to`: each that passes has a lane, and no other has one.
pub record Seeded (f : ℕ → Bool) (from to : ℕ) (seeds : List ℕ) : Type 0 where
  pub covers : (u : ℕ) → from ≤ u → u < to → T (f u) → (i : ℕ) × (i < most_lanes) × T (member i (get_or seeds u 0))
  pub only : (i u : ℕ) → from ≤ u → u < to → T (member i (get_or seeds u 0)) → T (f u)

-- No two of them share a lane.
pub record Apart (from to : ℕ) (seeds : List ℕ) : Type 0 where
  pub one : (i u w : ℕ) → from ≤ u → u < to → from ≤ w → w < to → T (member i (get_or seeds u 0)) → T (member i (get_or seeds w 0)) → u ≡ w

-- What the starting steps of a pass are: of the steps from `from` on and below `starts.to`, those that pass. All lie from `first` on and below
-- `until`.
pub record StartsOf (f : ℕ → Bool) (from n : ℕ) (starts : Starts) (seeds : List ℕ) : Type 0 where
  pub some : from < starts.to
  pub inside : starts.to ≤ n
  pub begin : from ≤ starts.first
  pub end : starts.until ≤ starts.to
  pub seeded : Seeded f from starts.to seeds
  pub between : (i u : ℕ) → from ≤ u → u < starts.to → T (member i (get_or seeds u 0)) → (starts.first ≤ u) × (u < starts.until)

-- The same of the steps from `from` on and below u, which have been looked at: there may be none.
pub record Looked (f : ℕ → Bool) (from first until u : ℕ) (seeds : List ℕ) : Type 0 where
  pub begin : from ≤ first
  pub end : until ≤ u
  pub seeded : Seeded f from u seeds
  pub between : (i w : ℕ) → from ≤ w → w < u → T (member i (get_or seeds w 0)) → (first ≤ w) × (w < until)

-- The lane of the next starting step.
unfoldable pub lane_after : Lanes → ℕ → ℕ
lane_after Shared lane = lane
lane_after Own lane = lane + 1

-- No two share a lane, where each has its own.
pub record ApartIf (lanes : Lanes) (from to : ℕ) (seeds : List ℕ) : Type 0 where
  pub apart : lanes ≡ Own → Apart from to seeds

-- The same with the next lane: all that are given are below it, and they are no more than the steps.
pub record LanesBelow (lanes : Lanes) (from to lane : ℕ) (seeds : List ℕ) : Type 0 where
  pub apart : lanes ≡ Own → Apart from to seeds
  pub used : lanes ≡ Own → (i u : ℕ) → from ≤ u → u < to → T (member i (get_or seeds u 0)) → i < lane
  pub few : from + lane ≤ to
