-- The loop keeps: the rows of the steps passed, and the rest as it was.
use Rattle.std.proofs.Common.{◌≡◌, ◌*◌, ◌++◌, drop}
use Rattle.layout.specs.Layout.{row_length}
use Rattle.rows.specs.Rows.{rows_from}
use Rattle.rows.proofs.Found.write_rows.Given as goal

abbrev pub invariant-loop-step : goal.invariant-loop-step
invariant-loop-step l = l.res ≡ rows_from l.self.beads l.self.prefixes.now l.self.pivots.now l.step ++ drop (row_length * l.step) l.fn.res
