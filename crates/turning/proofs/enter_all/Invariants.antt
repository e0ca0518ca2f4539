-- `enter_all` goes through the states.
use mathlib.Core.Path.{◌≡◌}
use lib.ListN.{length}
use Rattle.sets.specs.Sets.{members}
use Rattle.layout.specs.Layout.{most_labels, most_states}
use Rattle.pattern_buffer.specs.Meaning.{automaton_of}
use Rattle.turning.specs.Turning.{EnteredTo}
use Rattle.turning.proofs.enter_all.Given as goal

abbrev pub invariant-loop-state : goal.invariant-loop-state
invariant-loop-state l =
    (length l.next ≡ most_states) × EnteredTo (automaton_of l.bead.pattern.now l.bead.place) (members most_labels l.labels) l.state l.here l.next
