use borrow.Author.Rules.{rules}
use Rattle.fields.proofs.MarkLaws.{marked_kit}
use Rattle.fields.proofs.marked.Fields.bounds.Goals as goal

pub overflow_sub-result : goal.overflow_sub-result
overflow_sub-result g c = search (rules, marked_kit)

pub returns : goal.returns
returns g c = search (rules, marked_kit)
