use borrow.Author.Rules.{rules}
use Rattle.text.specs.Split.{split}
use Rattle.log_places.specs.Place.{wrong_name}
use Rattle.log_places.proofs.HeaderLaws.{name_wrong}
use Rattle.log_places.proofs.header.header_place.Goals as goal

pub returns : goal.returns
returns c = rw (← c.split-fields.ensures) (c.place_where.ensures (wrong_name (split 32 c.split-fields.result.line.now)) (λ i b h k. search (rules, name_wrong)))
