use borrow.Author.Rules.{rules}
use Rattle.fields.proofs.FieldLaws.{field_kit}
use Rattle.fields.proofs.find_field.Goals as goal

pub returns : goal.returns
returns c = search (rules, field_kit)
