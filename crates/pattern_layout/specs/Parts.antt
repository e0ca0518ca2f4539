-- The two parts of a row's line.
use Rattle.std.specs.Prelude.{ℕ, ◌+◌, ◌*◌, List, [], ◌∷◌, ◌++◌}
use Rattle.numbers.specs.Numbers.{spell}
use Rattle.writing.specs.Put.{listed}
use Rattle.layout.specs.Layout.{most_labels, most_states, most_beads}
use Rattle.rules.specs.Rules.{word_of}

-- Bead, rule and state, each with a space behind it.
abbrev pub row_start : ℕ → ℕ → ℕ → List ℕ
row_start bead rule state = spell bead ++ (32 ∷ []) ++ (word_of rule ++ (32 ∷ [])) ++ (spell state ++ (32 ∷ []))

-- Final, the next sets, and the newline.
abbrev pub row_end : ℕ → List ℕ → List ℕ
row_end accepting next = spell accepting ++ listed 32 next ++ (10 ∷ [])

-- Room enough for each, for a row, for a bead's rows and for all rows, whatever their numbers are.
abbrev pub start_room : ℕ
start_room = 17

abbrev pub end_room : ℕ
end_room = 6 + 6 * most_labels

abbrev pub row_room : ℕ
row_room = start_room + end_room

abbrev pub bead_room : ℕ
bead_room = row_room * most_states

abbrev pub rows_room : ℕ
rows_room = bead_room * most_beads
