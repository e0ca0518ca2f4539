-- The loop keeps: the sets of the labels passed are written, and their fields were numbers or not.
use Rattle.lists.proofs.Tables.{part}
use Rattle.numbers.specs.Listed.{are_numbers}
use lib.ListN.{drop}
use mathlib.Core.Path.{◌≡◌}
use mathlib.Core.Bool.{◌&&◌}
use Rattle.pattern_row.proofs.RowLaws.{zeros, set_at, set_fields}
use Rattle.pattern_row.proofs.read_next.Given as goal

abbrev pub invariant-loop-a : goal.invariant-loop-a
invariant-loop-a l =
    (l.next ≡ part (set_at l.fields.line.now) l.a zeros)
    × (are_numbers (set_fields l.fields.line.now) ≡ (l.numbers && are_numbers (drop l.a (set_fields l.fields.line.now))))
