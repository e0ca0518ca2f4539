-- `last_links` goes through the steps upwards.
use Rattle.log_links.specs.Links.{LastTo}
use Rattle.log_links.proofs.last_links.Given as goal

abbrev pub invariant-loop-v : goal.invariant-loop-v
invariant-loop-v l = LastTo l.log.numbers.now l.v l.last
