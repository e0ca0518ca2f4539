-- The loop keeps: the rows before the place are stored, and the answer for the text is the answer for what is left of it.
use Rattle.pattern_walk.proofs.LinesLaws.{Before}
use lib.ListN.{length}
use Prim.Native.Nat.{◌-◌}
use Rattle.pattern_walk.proofs.read_rows.Given as goal

abbrev pub invariant-loop-at : goal.invariant-loop-at
invariant-loop-at l = Before l.text l.labels l.at l.line l.last l.buffer

abbrev pub decreases-loop-at : goal.decreases-loop-at
decreases-loop-at l = length l.text - l.at
