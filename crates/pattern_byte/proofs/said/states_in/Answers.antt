use borrow.Author.Rules.{rules}
use Rattle.pattern_byte.proofs.SaidLaws.{states_kit}
use Rattle.pattern_byte.proofs.said.states_in.Goals as goal

pub loop-at-preserved-then-said-bead : goal.loop-at-preserved-then-said-bead
loop-at-preserved-then-said-bead c = search (rules, states_kit)

pub loop-at-preserved : goal.loop-at-preserved
loop-at-preserved c = search (rules, states_kit)

pub returns : goal.returns
returns c = search (rules, states_kit)
