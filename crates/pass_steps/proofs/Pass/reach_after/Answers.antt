-- Where no lane is alive the pass goes no farther.
use borrow.Author.Rules.{rules}
use Rattle.pass_steps.proofs.FindLaws.{bounded_stay}
use Rattle.pass_steps.proofs.Pass.reach_after.Goals as goal

pub returns-then-alive-eq0 : goal.returns-then-alive-eq0
returns-then-alive-eq0 c = search (rules, bounded_stay)
