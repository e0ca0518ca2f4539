-- `mark_bead` goes through the candidates, and those before are marked.
use Prim.Native.Nat.{◌≤◌, ◌-◌}
use Rattle.log_buffer.specs.Meaning.{steps_in}
use Rattle.prefix_phase.specs.Cases.{MarkedBy}
use Rattle.prefix_phase.proofs.Case.mark_bead.Given as goal

abbrev pub invariant-loop-from : goal.invariant-loop-from
invariant-loop-from l = (l.from ≤ steps_in l.self.course.log.numbers.now) × MarkedBy l.self l.place l.from l.prefixes

abbrev pub decreases-loop-from : goal.decreases-loop-from
decreases-loop-from l = steps_in l.self.course.log.numbers.now - l.from
