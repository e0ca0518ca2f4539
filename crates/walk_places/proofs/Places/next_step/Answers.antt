-- `find` over the steps from v on.
use Rattle.std.proofs.Common.{rules, ℕ, true, false}
use Rattle.std.proofs.lemmas.Iterator.{first_from_Range}
use Rattle.walk_places.specs.Search.{ServedAt}
use Rattle.walk_places.proofs.SearchLaws.{next_found}
use Rattle.walk_places.proofs.Places.next_step.Goals as goal

pub returns : goal.returns
returns c =
    let p = c.args.self.now in
    next_found _ _ _ _ _ _
    (first_from_Range _ _ _ _ (λ (w : ℕ). ServedAt p.left p.n c.args.found.now p.pivots.now w true) (λ (w : ℕ). ServedAt p.left p.n c.args.found.now p.pivots.now w false) c.find.ensures.ran
    (λ x q k. search rules) (λ x q k. search rules))
