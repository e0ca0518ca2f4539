-- The loop keeps: the bytes passed are printable, and the line ends where it does after them.
use Rattle.text.specs.Lines.{ended, printable}
use Rattle.text.proofs.LineLaws.{end_from}
use lib.ListN.{length, drop, take}
use mathlib.Core.Path.{◌≡◌}
use mathlib.Core.Bool.{true}
use Prim.Native.Nat.{◌≤◌}
use Rattle.text.proofs.lines.read_line.Given as goal

abbrev pub invariant-loop-i : goal.invariant-loop-i
invariant-loop-i l = (l.i ≤ length l.text) × (l.i ≤ l.most) × (ended l.most l.text ≡ end_from l.most l.i (drop l.i l.text)) × (printable (take l.i l.text) ≡ true)
