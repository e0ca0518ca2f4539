-- Nothing is found before the first turn; past the reach nothing more is.
use borrow.Author.Rules.{rules}
use Rattle.passes.proofs.PassLaws.{held_none, bounded_none, pass_end}
use Rattle.passes.proofs.pass_turns.Goals as goal

pub loop-x-init : goal.loop-x-init
loop-x-init c = (search rules, search (rules, held_none), search rules, search (rules, bounded_none))

pub returns : goal.returns
returns c = search (rules, pass_end)
