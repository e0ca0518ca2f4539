use borrow.Author.Rules.{rules}
use Rattle.log_line.proofs.HeaderLaws.{sought_kit}
use Rattle.log_line.proofs.header.place_of.Goals as goal

pub loop-i-init : goal.loop-i-init
loop-i-init g c = search (rules, sought_kit)

pub loop-i-preserved : goal.loop-i-preserved
loop-i-preserved g c = search (rules, sought_kit)
