-- `gather` goes through the listed steps.
use mathlib.Core.Path.{◌≡◌}
use lib.ListN.{length, take}
use Rattle.layout.specs.Layout.{most_states}
use Rattle.lanes.specs.Lanes.{Gathered}
use Rattle.lanes.proofs.gather.Given as goal

abbrev pub invariant-loop-link : goal.invariant-loop-link
invariant-loop-link l = (length l.here ≡ most_states) × Gathered l.work l.first (take l.link-index l.links) l.here
