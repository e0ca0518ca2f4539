use Rattle.std.proofs.Common.{rules, tests, refl}
use Rattle.std.proofs.lemmas.Iterator.{YieldsList-from_range}
use Rattle.sets.proofs.Below.{all_below_ran}
use Rattle.pattern_buffer.proofs.PatternNumbers.state_nexts_ok.Goals as goal

pub returns : goal.returns
returns c = all_below_ran _ _ _ c.all.ensures.ran _ (YieldsList-from_range 0 _ _ refl refl) (λ x b q k. search (rules, tests))
