use Rattle.std.proofs.Common.{rules, tests, refl, ◌∙◌}
use Rattle.std.proofs.lemmas.Iterator.{YieldsList-from_range}
use Rattle.sets.proofs.Below.{all_below_ran}
use Rattle.pattern_buffer.specs.Valid.{next_ok, nexts_ok}
use Rattle.pattern_buffer.proofs.Nested.{nested}
use Rattle.pattern_buffer.proofs.PatternNumbers.nexts_ok.Goals as goal

pub returns : goal.returns
unfolding nexts_ok
returns c = all_below_ran _ _ _ c.all.ensures.ran _ (YieldsList-from_range 0 _ _ refl refl) (λ x b q k. search (rules, tests)) ∙ nested (next_ok c.args.self.now)
