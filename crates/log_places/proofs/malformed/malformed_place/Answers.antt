use borrow.Author.Rules.{rules}
use Rattle.text.specs.Split.{split}
use Rattle.log_line.specs.Answers.{order_of}
use Rattle.log_places.specs.Place.{wrong_field}
use Rattle.log_places.proofs.MalformedLaws.{malformed_four}
use Rattle.log_places.proofs.malformed.malformed_place.Goals as goal

pub returns : goal.returns
returns c =
    rw (← c.split-fields.ensures)
    (malformed_four _ _ _ c.len.ensures c.if-len-ne4.false _
    (c.place_where.ensures (wrong_field (order_of c.args.order) (split 32 c.split-fields.result.line.now)) (λ i b h k. search rules)))
