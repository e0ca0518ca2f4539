-- Where a line of a pattern is at fault (Ask 2): for each refusal of a line, the place of the field at fault, from the line's fields.
use Rattle.std.specs.Prelude.{ℕ, ◌+◌, ◌-◌, Bool, not, cond, ◌&&◌, ◌||◌, List, [], ◌∷◌, eqb, leb, ltb, length, get_or, take, drop}
use Rattle.sets.specs.Sets.{within, single}
use Rattle.fields.specs.Fields.{same_bytes}
use Rattle.numbers.specs.Numbers.{is_number, value_of}
use Rattle.line_places.specs.Place.{place_at, place_where}
use Rattle.layout.specs.Layout.{most_labels, most_beads, most_states}
use Rattle.pattern_header.specs.Header.{columns, is_name, among}
use Rattle.pattern_order.specs.StateLine.{StateLine}
use Rattle.pattern_row.specs.Fields.{row_of}

-- 12. The labels that stand before the field with index i.
abbrev pub labels_before : List (List ℕ) → ℕ → List (List ℕ)
labels_before fs i = take (i - 4) (drop 4 fs)

-- The name with index i is wrong: one of the first four is another than the format's; a label is no name, repeats an earlier label, or is one
-- too many.
unfoldable pub wrong_name : List (List ℕ) → ℕ → Bool
wrong_name fs i =
    cond (ltb i 4) (not (same_bytes (get_or fs i []) (get_or columns i [])))
    (not (is_name (get_or fs i [])) || (among (get_or fs i []) (labels_before fs i) || not (ltb i (4 + most_labels))))

-- The leftmost such name; where there is none, names are missing, and no place is at fault.
abbrev pub header_at : List (List ℕ) → ℕ
header_at fs = place_where (wrong_name fs) fs

-- 11, below the header, where c labels are named. A field other than the rule that is no number.
unfoldable pub no_number : List (List ℕ) → ℕ → Bool
no_number fs i = not (eqb i 1) && not (is_number (get_or fs i []))

-- The number of fields ranks first, and has no place; then the leftmost field that is wrong.
abbrev pub malformed_at : ℕ → List (List ℕ) → ℕ
malformed_at c fs = cond (eqb (length fs) (4 + c)) (place_where (no_number fs) fs) 0

-- 13. The bead is over 8, or neither the last line's bead nor one more; in the first line below the header: not 1.
-- `before` holds the row of the line before, if that is below the header.
unfoldable pub bead_wrong : List StateLine → StateLine → Bool
bead_wrong [] r = not (eqb r.bead 1)
bead_wrong (p ∷ ps) r = ltb most_beads r.bead || not (eqb r.bead p.bead || eqb r.bead (p.bead + 1))

-- The state is over 15, or not the last state plus 1 in the same bead, or not 0 in the next bead and in the first line below the header.
unfoldable pub state_wrong : List StateLine → StateLine → Bool
state_wrong [] r = not (eqb r.state 0)
state_wrong (p ∷ ps) r =
    not (ltb r.state most_states) || cond (eqb r.bead p.bead) (not (eqb r.state (p.state + 1))) (not (eqb r.state 0))

-- The bead, else the state, else final.
unfoldable pub disordered_at : List StateLine → List (List ℕ) → ℕ
disordered_at before fs =
    cond (bead_wrong before (row_of fs)) (place_at fs 0) (cond (state_wrong before (row_of fs)) (place_at fs 2) (place_at fs 3))

-- 14. The rule.
abbrev pub misruled_at : List (List ℕ) → ℕ
misruled_at fs = place_at fs 1

-- 15. The leftmost next set with a state that the bead, of n states, lacks.
unfoldable pub stray_set : ℕ → List (List ℕ) → ℕ → Bool
stray_set n fs i = leb 4 i && not (within n (value_of (get_or fs i [])))

abbrev pub straying_at : ℕ → List (List ℕ) → ℕ
straying_at n fs = place_where (stray_set n fs) fs

-- 16. The leftmost next set without exactly one state.
unfoldable pub ambiguous_set : List (List ℕ) → ℕ → Bool
ambiguous_set fs i = leb 4 i && not (single most_states (value_of (get_or fs i [])))

abbrev pub ambiguous_at : List (List ℕ) → ℕ
ambiguous_at fs = place_where (ambiguous_set fs) fs
