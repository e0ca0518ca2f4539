use borrow.Author.Rules.{rules}
use Rattle.text.specs.Split.{split}
use Rattle.log_line.specs.Answers.{order_of}
use Rattle.log_places.specs.Place.{over_limit_at}
use Rattle.log_limits.proofs.Progress.limit_place.Goals as goal

pub returns : goal.returns
returns c =
    rw (← c.split-fields.ensures)
    (c.place_where.ensures (over_limit_at c.args.self.now.links (order_of c.args.self.now.order) c.args.self.now.step (split 32 c.split-fields.result.line.now)) (λ i b h k. search rules))
