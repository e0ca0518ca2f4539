use Rattle.std.proofs.Common.{rules, tests, refl}
use Rattle.std.proofs.lemmas.Iterator.{YieldsList-from_range, serves_from_Range}
use Rattle.sets.proofs.Below.{all_below_ran}
use Rattle.log_buffer.proofs.TestLaws.{begin_in}
use Rattle.log_buffer.proofs.LogNumbers.all_links.Goals as goal

pub all-requires-clause-callable : goal.all-requires-clause-callable
all-requires-clause-callable c = serves_from_Range (λ x q k. search (rules, tests)) (λ x low high. search (rules, begin_in))

pub returns : goal.returns
returns c = all_below_ran _ _ _ c.all.ensures.ran _ (YieldsList-from_range 0 _ _ refl refl) (λ x b q k. search (rules, tests))
