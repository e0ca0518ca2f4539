-- `fill_hopes` writes the sets from the front, bead by bead.
use Rattle.hope.proofs.HopeLaws.{HopesBelow}
use Rattle.hope.proofs.fill_hopes.Given as goal

abbrev pub invariant-loop-place : goal.invariant-loop-place
invariant-loop-place l = HopesBelow l.place l.pattern l.hopes
