-- The loop keeps: the line ends where it does after the bytes passed, none of them a newline.
use Rattle.text.specs.Lines.{ended}
use lib.ListN.{length, drop}
use mathlib.Core.Path.{◌≡◌}
use Prim.Native.Nat.{◌≤◌}
use Rattle.text.proofs.LineLaws.{end_from}
use Rattle.text.proofs.lines.find_end.Given as goal

abbrev pub invariant-loop-i : goal.invariant-loop-i
invariant-loop-i l = (l.i ≤ length l.text) × (l.i ≤ l.most) × (ended l.most l.text ≡ end_from l.most l.i (drop l.i l.text))
