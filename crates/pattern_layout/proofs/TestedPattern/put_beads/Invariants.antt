-- The beads' lines, one after the other.
use Rattle.std.proofs.Common.{◌+◌, ◌*◌, ◌≤◌}
use Rattle.pattern_texts.specs.Spelled.{rows_of_beads, row_lines}
use Rattle.pattern_layout.specs.Parts.{bead_room}
use Rattle.writing.specs.Put.{Adds}
use Rattle.pattern_layout.proofs.TestedPattern.put_beads.Given as goal

abbrev pub invariant-loop-j : goal.invariant-loop-j
invariant-loop-j l =
    (l.output.at ≤ l.initial.output.at + bead_room * l.j) × Adds (row_lines (rows_of_beads l.self.numbers.now l.j)) l.initial.output l.output
