use borrow.Author.Rules.{rules}
use Rattle.row_places.proofs.OrderLaws.{bead_kit}
use Rattle.row_places.proofs.order.bead_wrong.Goals as goal

pub returns-in-None : goal.returns-in-None
returns-in-None c = search (rules, bead_kit)

pub returns-then-from-gt-MOST_BEADS : goal.returns-then-from-gt-MOST_BEADS
returns-then-from-gt-MOST_BEADS c = search (rules, bead_kit)

pub returns-then-said-last : goal.returns-then-said-last
returns-then-said-last c = search (rules, bead_kit)

pub returns-else-said-last : goal.returns-else-said-last
returns-else-said-last c = search (rules, bead_kit)
