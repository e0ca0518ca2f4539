use Rattle.std.proofs.Common.{rules}
use Rattle.pattern_order.proofs.OrderLaws.{follows_kit}
use Rattle.pattern_order.proofs.follows.Goals as goal

pub returns-then-v-last : goal.returns-then-v-last
returns-then-v-last c = search (rules, follows_kit)

pub returns-then-from : goal.returns-then-from
returns-then-from c = search (rules, follows_kit)

pub returns-else-from : goal.returns-else-from
returns-else-from c = search (rules, follows_kit)
