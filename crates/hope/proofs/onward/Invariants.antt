-- `onward` gathers the next sets of a state, label by label.
use mathlib.Core.Path.{◌≡◌}
use Rattle.sets.specs.Sets.{set_of}
use Rattle.layout.specs.Layout.{most_states}
use Rattle.hope.specs.Hope.{leads_by}
use Rattle.hope.proofs.onward.Given as goal

abbrev pub invariant-loop-label : goal.invariant-loop-label
invariant-loop-label l = l.all ≡ set_of most_states (leads_by l.bead.pattern.now l.bead.place l.state l.label)
