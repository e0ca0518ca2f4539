use borrow.Author.Rules.{rules}
use Rattle.log_byte.proofs.LinkLaws.{links_kit}
use Rattle.log_byte.proofs.links_before.Goals as goal

pub returns-then-at-text : goal.returns-then-at-text
returns-then-at-text c = search (rules, links_kit)

pub loop-v-preserved : goal.loop-v-preserved
loop-v-preserved c = search (rules, links_kit)

pub returns : goal.returns
returns c = search (rules, links_kit)
