-- `number` keeps to nine digits after each digit.
use Rattle.std.proofs.Common.{rules, ◌<◌, ℕ, List}
use Rattle.std.proofs.lemmas.Fn.{fold_over, fronts, slice_gives}
use Rattle.trial.proofs.files.number.Goals as goal

pub returns : goal.returns
returns c = fold_over fronts (λ y. y.now) _ (λ (ys : List ℕ) n. n < 1000000000) _ (λ ys a x b f' j k. search rules) c.iter.result c.iter.result.rest.now _ _ (slice_gives c.iter.result) (search rules) c.fold.ensures.ran
