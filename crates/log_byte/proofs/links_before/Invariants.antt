-- The loop keeps: the links are those of the lines passed and of those from here on.
use Prim.Native.Nat.{◌+◌, ◌-◌, ◌≤◌}
use mathlib.Core.Path.{◌≡◌}
use lib.ListN.{length}
use Rattle.log_line.specs.Step.{link_count}
use Rattle.log_byte.specs.Byte.{steps_before}
use Rattle.log_byte.proofs.LinkLaws.{links_from}
use Rattle.log_byte.proofs.links_before.Given as goal

abbrev pub invariant-loop-v : goal.invariant-loop-v
invariant-loop-v l = (l.at ≤ length l.text + 1) × (l.links ≤ l.at) × (link_count (steps_before l.text l.line) ≡ l.links + links_from l.text l.at (l.steps - l.v))
