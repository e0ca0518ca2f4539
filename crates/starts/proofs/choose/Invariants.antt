-- `choose` goes through the steps upwards, until all lanes are given.
use Prim.Native.Nat.{◌≤◌}
use Rattle.layout.specs.Layout.{most_lanes}
use Rattle.starts.specs.Starts.{prefix_at, Looked, LanesBelow}
use Rattle.starts.proofs.choose.Given as goal

abbrev pub invariant-loop-u : goal.invariant-loop-u
invariant-loop-u l =
    (l.lane ≤ most_lanes) × Looked (prefix_at l.prefixes l.bead) l.from l.first l.until l.u l.seeds × LanesBelow l.lanes l.from l.u l.lane l.seeds
