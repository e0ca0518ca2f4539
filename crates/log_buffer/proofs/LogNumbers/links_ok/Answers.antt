use Rattle.std.proofs.Common.{rules, tests, refl}
use Rattle.std.proofs.lemmas.Iterator.{YieldsList-from_range}
use Rattle.sets.proofs.Below.{all_from_ran}
use Rattle.log_buffer.specs.Valid.{link_ok}
use Rattle.log_buffer.proofs.TestLaws.{links_told}
use Rattle.log_buffer.proofs.LogNumbers.links_ok.Goals as goal

pub returns-else-v-steps : goal.returns-else-v-steps
returns-else-v-steps c =
    links_told c.args.self.now c.args.v _ _ _ c.begin.ensures c.begin-else-v-steps.ensures (search rules)
    (all_from_ran _ _ (link_ok c.args.self.now c.args.v) c.all.ensures.ran _ _ (YieldsList-from_range _ _ _ refl refl) (λ x b q k. search (rules, tests)))
