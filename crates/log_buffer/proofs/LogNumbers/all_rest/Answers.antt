use Rattle.std.proofs.Common.{rules, tests, refl, nat_eq}
use Rattle.std.proofs.lemmas.Iterator.{YieldsList-from_range}
use Rattle.sets.proofs.Below.{all_from_ran}
use Rattle.lists.specs.Places.{at}
use Rattle.layout.specs.Layout.{link_at}
use Rattle.log_buffer.proofs.TestLaws.{rest_told}
use Rattle.log_buffer.proofs.LogNumbers.all_rest.Goals as goal

pub returns : goal.returns
returns c =
    rest_told c.args.self.now c.begin-total.result _ (search rules) (search rules)
    (all_from_ran _ _ (λ i. nat_eq (at c.args.self.now (link_at i)) 0) c.all.ensures.ran _ _ (YieldsList-from_range _ _ _ refl refl) (λ x b q k. search (rules, tests)))
