-- The loop keeps: the answer is that of the lines left, with the steps before them known and in the buffer.
use Rattle.layout.specs.Layout.{most_steps, most_links, log_length}
use Rattle.log_walk.proofs.ReadLaws.{Reading}
use lib.ListN.{length}
use mathlib.Core.Path.{◌≡◌}
use Prim.Native.Nat.{◌≤◌, ◌-◌}
use Rattle.log_walk.proofs.read_steps.Given as goal

abbrev pub invariant-loop-at : goal.invariant-loop-at
invariant-loop-at l = (l.at ≤ length l.text) × (l.position.step ≤ most_steps) × (l.position.links ≤ most_links) × (l.position.labels ≡ l.labels)
    × (length l.buffer ≡ log_length) × Reading l.text l.start l.labels l.order l.at l.position.step l.position.links l.buffer

abbrev pub decreases-loop-at : goal.decreases-loop-at
decreases-loop-at l = length l.text - l.at
