-- The loop keeps: the first fault is the first of the slots left, whose line is known.
use Rattle.pattern_late.specs.Late.{late_faults}
use Rattle.pattern_late.proofs.LateLaws.{late_from}
use mathlib.Core.Path.{◌≡◌}
use Prim.Native.Nat.{◌≤◌, ◌+◌}
use Rattle.pattern_late.proofs.find_late.Given as goal

abbrev pub invariant-loop-slot : goal.invariant-loop-slot
invariant-loop-slot l = (l.line ≤ l.slot + 2) × (late_faults l.buffer ≡ late_from l.buffer l.line l.slot)
