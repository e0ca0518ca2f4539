use Rattle.std.proofs.Common.{rules}
use Rattle.rows.proofs.RowLaws.{row_kit}
use Rattle.rows.proofs.Found.write_row.Goals as goal

pub returns : goal.returns
returns c = search (rules, row_kit)
