use borrow.Author.Rules.{rules}
use Rattle.fields.proofs.MarkLaws.{marking_kit}
use Rattle.fields.proofs.marked.Fields.split.Goals as goal

pub loop-at-init : goal.loop-at-init
loop-at-init g c = search (rules, marking_kit)

pub loop-at-preserved : goal.loop-at-preserved
loop-at-preserved g c = search (rules, marking_kit)

pub invariant_of-result : goal.invariant_of-result
invariant_of-result g c = search (rules, marking_kit)
