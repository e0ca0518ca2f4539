-- `begin_walk` lays the places out from the front.
use Rattle.lists.specs.inner.Filled.{Filled}
use Rattle.walk_places.specs.Walked.{first_place}
use Rattle.walk_places.proofs.begin_walk.Given as goal

abbrev pub invariant-loop-i : goal.invariant-loop-i
invariant-loop-i l = Filled (first_place l.beads l.n l.prefixes) l.i l.pivots
