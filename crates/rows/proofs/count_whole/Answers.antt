use Rattle.std.proofs.Common.{rules, ◌∙◌}
use Rattle.rows.proofs.RowLaws.{counted}
use Rattle.rows.proofs.count_whole.Goals as goal

pub returns : goal.returns
returns c = search rules ∙ counted c.args.beads c.args.prefixes.now c.args.n (search rules)
