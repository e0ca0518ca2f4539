use borrow.Author.Rules.{rules}
use Rattle.log_line.proofs.PredLaws.{scanning_kit}
use Rattle.log_line.proofs.preds.scan_numbers.Goals as goal

pub loop-at-init : goal.loop-at-init
loop-at-init c = search (rules, scanning_kit)

pub loop-at-preserved : goal.loop-at-preserved
loop-at-preserved c = search (rules, scanning_kit)

pub returns-then-v-eq0 : goal.returns-then-v-eq0
returns-then-v-eq0 c = search (rules, scanning_kit)

pub returns-else-v-eq0 : goal.returns-else-v-eq0
returns-else-v-eq0 c = search (rules, scanning_kit)
