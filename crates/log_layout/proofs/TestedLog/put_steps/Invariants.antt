use Rattle.std.proofs.Common.{◌+◌, ◌*◌, ◌≤◌}
use Rattle.log_texts.specs.Spelled.{steps_up_to, step_lines}
use Rattle.writing.specs.Put.{Adds}
use Rattle.log_layout.proofs.TestedLog.put_steps.Given as goal

abbrev pub invariant-loop-step : goal.invariant-loop-step
invariant-loop-step l =
    (l.output.at ≤ l.initial.output.at + 67 * l.step) × Adds (step_lines 0 (steps_up_to l.self.numbers.now l.step)) l.initial.output l.output
