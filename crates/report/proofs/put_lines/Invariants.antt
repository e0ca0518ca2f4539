use Rattle.std.proofs.Common.{◌+◌, ◌*◌, ◌≤◌, ◌≡◌, drop}
use Rattle.layout.specs.Layout.{row_length}
use Rattle.writing.specs.Put.{Adds}
use Rattle.report.specs.Report.{row_lines}
use Rattle.report.proofs.put_lines.Given as goal

abbrev pub invariant-loop-step : goal.invariant-loop-step
invariant-loop-step l =
    (l.step-iterator.a.end ≡ l.steps)
    × (l.step-iterator.a.start ≤ l.steps)
    × (l.step-iterator.b.size ≡ row_length)
    × (l.step-iterator.b.rest.now ≡ drop (row_length * l.step-iterator.a.start) l.res)
    × (l.output.at ≤ l.initial.output.at + 67 * l.step-iterator.a.start)
    × Adds (row_lines l.beads l.step-iterator.a.start l.res) l.initial.output l.output
