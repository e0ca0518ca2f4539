-- The loop keeps: the fields passed are marked.
use lib.ListN.{length}
use mathlib.Core.Path.{◌≡◌}
use Prim.Native.Nat.{◌≤◌, ◌+◌, ◌-◌}
use Rattle.fields.proofs.MarkLaws.{Marking}
use Rattle.fields.proofs.marked.Fields.split.Given as goal

abbrev pub invariant-loop-at : goal.invariant-loop-at
invariant-loop-at g l = (l.at ≤ length l.line + 1) × (l.count ≤ l.at) × (length l.starts ≡ length l.initial.starts) × Marking 32 l.line l.count l.at l.starts

abbrev pub decreases-loop-at : goal.decreases-loop-at
decreases-loop-at g l = length l.line + 1 - l.at
