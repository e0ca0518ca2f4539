-- The wall chart of the workshop (document 02, ask 4): the bit value of each state from 0 to 15, to be ticked off. That entry i is 2 to
-- the i is a theorem (`chart_powers`).
use Rattle.std.specs.Prelude.{ℕ, List, [], ◌∷◌}

abbrev pub chart : List ℕ
chart = 1 ∷ 2 ∷ 4 ∷ 8 ∷ 16 ∷ 32 ∷ 64 ∷ 128 ∷ 256 ∷ 512 ∷ 1024 ∷ 2048 ∷ 4096 ∷ 8192 ∷ 16384 ∷ 32768 ∷ []
