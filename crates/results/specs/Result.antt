-- The numbers that an accepted judging leaves in the result, and the count of its answer (document 01, "Lent rooms" and "Who is at fault").
use Rattle.std.specs.Prelude.{ℕ, zero, suc, ◌+◌, ◌-◌, ◌*◌, cond, List, [], ◌++◌, take, drop, replicate}
use Rattle.necklace.specs.Dag.{Dag}
use Rattle.necklace.specs.Necklace.{Pattern}
use Rattle.necklace.specs.Compute.{holds?, row}
use Rattle.layout.specs.Layout.{result_length, row_length}

-- The rows of the vertices below n, one after the other.
unfoldable pub rows_up_to : Dag → Pattern → ℕ → List ℕ
rows_up_to G P zero = []
rows_up_to G P (suc v) = rows_up_to G P v ++ row G P v

-- How many vertices below n the whole pattern holds at.
unfoldable pub whole_up_to : Dag → Pattern → ℕ → ℕ
whole_up_to G P zero = 0
whole_up_to G P (suc v) = whole_up_to G P v + cond (holds? G P P.count v) 1 0

-- The numbers of the result: a row for each step, zeros in the unused places.
abbrev pub rows_of : Dag → Pattern → List ℕ
rows_of G P = rows_up_to G P G.size ++ replicate (result_length - row_length * G.size) 0

-- The row of a step: ten numbers of the result, starting at ten times the step's number.
abbrev pub row_in : List ℕ → ℕ → List ℕ
row_in result v = take row_length (drop (row_length * v) result)

-- So many zeros.
unfoldable pub zeros : ℕ → List ℕ
zeros n = replicate n 0
