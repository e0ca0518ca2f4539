-- The place of the first separator, or the line's length.
use Rattle.std.proofs.Common.{rules, length, ap, ◌∙◌}
use borrow.Author.Tests.{tests}
use lib.Dec.{eqb}
use Rattle.std.specs.Prelude.{unwrap_or}
use Rattle.std.proofs.lemmas.Iterator.{YieldsList-from_slice}
use Rattle.std.proofs.lemmas.Iterator.Search.{position_from_yields_List}
use Rattle.fields.proofs.FieldLaws.{first_position}
use Rattle.fields.proofs.first_length.Goals as goal

pub returns : goal.returns
returns c =
    let p =
    position_from_yields_List (λ x. eqb x c.args.separator) _ _ _ c.position.ensures.ran (YieldsList-from_slice c.args.line.now cc)
    (λ x b q k. search (rules, tests)) in
    c.unwrap_or.ensures ∙ ap (λ o. unwrap_or o (length c.args.line.now)) p ∙ first_position c.args.separator c.args.line.now
