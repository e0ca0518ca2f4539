-- A name's place, as the columns have it.
use Rattle.std.specs.Prelude.{ℕ, Bool, ◌||◌, eqb}
use Rattle.log_line.specs.Header.{Columns}

-- One of the four columns stands there.
abbrev pub is_place : Columns → ℕ → Bool
is_place c i = eqb i c.vertex || (eqb i c.board || (eqb i c.labels || eqb i c.preds))
