-- `pass_turns` keeps: the lanes of the steps so far, what they reach, and how far to go.
use Prim.Native.Nat.{◌≤◌, ◌-◌}
use Rattle.log_buffer.specs.Meaning.{steps_in}
use Rattle.pass_steps.specs.Made.{HeldBy, FoundBy, BoundedBy}
use Rattle.passes.proofs.pass_turns.Given as goal

abbrev pub invariant-loop-x : goal.invariant-loop-x
invariant-loop-x l =
    (l.pass.first ≤ l.x) × HeldBy l.pass l.x l.work × FoundBy l.pass l.x l.found × BoundedBy l.pass l.x l.reach

abbrev pub decreases-loop-x : goal.decreases-loop-x
decreases-loop-x l = steps_in l.pass.log.now - l.x
