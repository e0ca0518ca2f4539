-- `mark_found` goes through the steps upwards.
use Rattle.marking.specs.Marking.{Added, found_at}
use Rattle.marking.proofs.mark_found.Given as goal

abbrev pub invariant-loop-v : goal.invariant-loop-v
invariant-loop-v l = Added (found_at l.found) l.bead l.u l.v l.initial.prefixes l.prefixes
