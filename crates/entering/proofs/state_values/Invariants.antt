-- `state_values` writes the values from the front, each from the leaf.
use mathlib.Core.Path.{◌≡◌}
use lib.ListN.{length}
use Rattle.sets.specs.Sets.{singleton}
use Rattle.lists.specs.inner.Filled.{Filled}
use Rattle.layout.specs.Layout.{most_states}
use Rattle.entering.proofs.state_values.Given as goal

abbrev pub invariant-loop-state : goal.invariant-loop-state
invariant-loop-state l = (length l.values ≡ most_states) × Filled singleton l.state l.values
