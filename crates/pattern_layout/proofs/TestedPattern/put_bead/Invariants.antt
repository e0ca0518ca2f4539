-- The states' lines, one after the other.
use Rattle.std.proofs.Common.{◌+◌, ◌*◌, ◌≤◌}
use Rattle.pattern_texts.specs.Spelled.{rows_of_bead, row_lines}
use Rattle.pattern_layout.specs.Parts.{row_room}
use Rattle.writing.specs.Put.{Adds}
use Rattle.pattern_layout.proofs.TestedPattern.put_bead.Given as goal

abbrev pub invariant-loop-q : goal.invariant-loop-q
invariant-loop-q l =
    (l.output.at ≤ l.initial.output.at + row_room * l.q) × Adds (row_lines (rows_of_bead l.self.numbers.now l.j l.q)) l.initial.output l.output
