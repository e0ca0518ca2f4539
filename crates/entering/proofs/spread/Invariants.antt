-- `spread` grows the sets, state by state; the value of a state tells whether it is in the set.
use Rattle.entering.specs.Entering.{spread_over, Grown}
use Rattle.entering.proofs.spread.Given as goal

abbrev pub invariant-loop-r : goal.invariant-loop-r
invariant-loop-r l = Grown l.r (spread_over l.set l.more) l.initial.list l.list
