-- What a line says of its bead and its state, as the row that 13 looks at.
use Rattle.std.specs.Prelude.{List, [], ◌∷◌, Option, Some, None}
use Rattle.pattern_order.specs.StateLine.{StateLine}
use Rattle.row_places.specs.declared.order.Said.{Said}

abbrev pub row_said : Said → StateLine
row_said s = record { bead = s.bead; rule = 0; state = s.state; accepting = 0; next = [] }

-- The rows before, as far as 13 looks at them: the last one, or none.
abbrev pub rows_said : Option Said → List StateLine
rows_said None = []
rows_said (Some l) = row_said l ∷ []
