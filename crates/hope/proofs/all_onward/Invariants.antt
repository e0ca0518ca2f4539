-- `all_onward` writes the next states from the front, state by state.
use mathlib.Core.Path.{◌≡◌}
use lib.ListN.{length}
use Rattle.lists.specs.inner.Filled.{Filled}
use Rattle.layout.specs.Layout.{most_states}
use Rattle.hope.specs.Hope.{onward_from}
use Rattle.hope.proofs.all_onward.Given as goal

abbrev pub invariant-loop-state : goal.invariant-loop-state
invariant-loop-state l = (length l.onwards ≡ most_states) × Filled (onward_from l.bead.pattern.now l.bead.place) l.state l.onwards
