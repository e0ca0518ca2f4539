-- `mark_prefixes` goes through the beads, and those before are marked.
use Rattle.prefix_phase.specs.Cases.{MarkedBy}
use Rattle.prefix_phase.proofs.Case.mark_prefixes.Given as goal

abbrev pub invariant-loop-place : goal.invariant-loop-place
invariant-loop-place l = MarkedBy l.self l.place 0 l.prefixes
