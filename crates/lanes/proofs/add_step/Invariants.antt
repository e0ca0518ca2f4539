-- `add_step` grows the sets, state by state.
use Rattle.entering.specs.Entering.{Grown}
use Rattle.lanes.specs.Lanes.{lanes_at}
use Rattle.lanes.proofs.add_step.Given as goal

abbrev pub invariant-loop-q : goal.invariant-loop-q
invariant-loop-q l = Grown l.q (lanes_at l.work l.w) l.initial.here l.here
