-- The loop keeps: the fields passed are other names, and the place after them is reached.
use Rattle.log_line.proofs.HeaderLaws.{Sought}
use Rattle.log_line.proofs.header.place_of.Given as goal

abbrev pub invariant-loop-i : goal.invariant-loop-i
invariant-loop-i g l = Sought l.name l.line l.i l.at
