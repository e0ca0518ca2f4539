-- From turn to turn.
use borrow.Author.Rules.{rules}
use Rattle.walk_turn.proofs.TurnLaws.{begun_more, begun_in, begun_aim, walks_on}
use Rattle.walk_phase.proofs.WalkLaws.{walks_first, walks_due, walks_done}
use Rattle.walk_phase.proofs.walk_turns.Goals as goal

pub loop-turn-init : goal.loop-turn-init
loop-turn-init c = search (rules, walks_first)

pub begin_turn-opened-requires-clause-due : goal.begin_turn-opened-requires-clause-due
begin_turn-opened-requires-clause-due c = search (rules, walks_due)

pub settle-turn-requires-clause-turn_in : goal.settle-turn-requires-clause-turn_in
settle-turn-requires-clause-turn_in c = (search (rules, begun_more), search (rules, begun_in))

pub settle-turn-requires-clause-aimed : goal.settle-turn-requires-clause-aimed
settle-turn-requires-clause-aimed c = search (rules, begun_aim)

pub loop-turn-preserved : goal.loop-turn-preserved
loop-turn-preserved c = walks_on _ _ _ _ _ _ _ _ _ c.begin_turn-opened.ensures _ _ c.settle-turn.ensures (search rules)

pub returns : goal.returns
returns c = search (rules, walks_done)
