use borrow.Author.Rules.{rules}
use Rattle.pattern.specs.inner.Reading.{concluded}
use Rattle.pattern.proofs.ReadingLaws.{conclude_kit}
use Rattle.pattern.proofs.reading.conclude.Goals as goal

pub returns : goal.returns
unfolding concluded
returns c = search (rules, conclude_kit)
