use Rattle.std.proofs.Common.{rules}
use Rattle.results.proofs.JudgeLaws.{written_result}
use Rattle.results.proofs.write_result.Goals as goal

pub returns : goal.returns
returns c = written_result _ _ _ _ _ _ (search rules) (search rules) c.write_rows.ensures _ (search rules)
