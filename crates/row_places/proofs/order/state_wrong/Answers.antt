use borrow.Author.Rules.{rules}
use Rattle.row_places.proofs.OrderLaws.{state_kit}
use Rattle.row_places.proofs.order.state_wrong.Goals as goal

pub returns-in-None : goal.returns-in-None
returns-in-None c = search (rules, state_kit)

pub returns-then-from-ge-MOST_STATES : goal.returns-then-from-ge-MOST_STATES
returns-then-from-ge-MOST_STATES c = search (rules, state_kit)

pub returns-then-said-last : goal.returns-then-said-last
returns-then-said-last c = search (rules, state_kit)

pub returns-else-said-last : goal.returns-else-said-last
returns-else-said-last c = search (rules, state_kit)
