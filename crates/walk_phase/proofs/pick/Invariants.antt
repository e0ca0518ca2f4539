-- `pick` goes over candidates that do not serve.
use mathlib.Core.Path.{◌≡◌}
use Rattle.std.specs.Prelude.{None}
use Rattle.walk_turn.specs.Turns.{NoneServe}
use Rattle.walk_phase.proofs.pick.Given as goal

abbrev pub invariant-loop-u : goal.invariant-loop-u
invariant-loop-u l = (l.picked ≡ None) × NoneServe l.seeds l.found l.p l.from l.u
