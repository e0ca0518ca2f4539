-- The loop keeps: the numbers of the row up to the place reached.
use Rattle.std.proofs.Common.{◌≡◌, ◌+◌, get_or}
use Rattle.rows.proofs.RowLaws.{row_part}
use Rattle.rows.proofs.Found.write_row.Given as goal

abbrev pub invariant-loop-k : goal.invariant-loop-k
invariant-loop-k l = l.row ≡ row_part l.self.beads l.step (get_or l.self.prefixes.now l.step 0) l.self.pivots.now (l.k + 1) l.fn.row
