-- The loop keeps: the states counted and those of the lines left are all.
use Prim.Native.Nat.{◌+◌, ◌-◌, ◌≤◌}
use mathlib.Core.Path.{◌≡◌}
use lib.ListN.{length}
use Rattle.pattern_store.specs.Next.{states_of}
use Rattle.pattern_byte.specs.Byte.{rows_below}
use Rattle.pattern_byte.proofs.SaidLaws.{states_from}
use Rattle.pattern_byte.proofs.said.states_in.Given as goal

abbrev pub invariant-loop-at : goal.invariant-loop-at
invariant-loop-at l = (l.count ≤ l.at) × (l.at ≤ length l.text + 1) × (states_of (rows_below l.text) l.bead ≡ l.count + states_from l.text l.bead l.at)

abbrev pub decreases-loop-at : goal.decreases-loop-at
decreases-loop-at l = length l.text + 1 - l.at
