-- `next_turn` goes on to the next step, the next candidates or the bead before.
use borrow.Author.Rules.{rules}
use Rattle.walk_turn.proofs.TurnLaws.{next_candidates, next_bead}
use Rattle.walk_turn.proofs.next_turn.Goals as goal

pub returns-then-to-n : goal.returns-then-to-n
returns-then-to-n c = search (rules, next_candidates)

pub returns : goal.returns
returns c = search (rules, next_bead)
