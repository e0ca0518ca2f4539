-- The loop keeps: what the numbers passed come to.
use lib.ListN.{length}
use mathlib.Core.Path.{◌≡◌}
use Prim.Native.Nat.{◌≤◌, ◌+◌, ◌-◌}
use Rattle.layout.specs.Layout.{most_preds}
use Rattle.log_line.proofs.PredLaws.{Scanning}
use Rattle.log_line.proofs.preds.scan_numbers.Given as goal

abbrev pub invariant-loop-at : goal.invariant-loop-at
invariant-loop-at l = (l.at ≤ length l.field + 1) × (l.count ≤ l.at) × (length l.first ≡ most_preds) × Scanning l.v l.field l.at l.count l.least l.first

abbrev pub decreases-loop-at : goal.decreases-loop-at
decreases-loop-at l = length l.field + 1 - l.at
