-- A text that gives a pattern buffer: a header, then a line for each state of each bead.
use Rattle.std.specs.Prelude.{ℕ, zero, suc, ◌+◌, ◌*◌, ◌≡◌, true, cond, List, [], ◌∷◌, ◌++◌, map}
use Rattle.rules.specs.Rules.{word_of}
use Rattle.lists.specs.Places.{at}
use Rattle.sets.specs.Sets.{member}
use Rattle.text.specs.Split.{split, line_from}
use Rattle.text.specs.Lines.{whole}
use Rattle.numbers.specs.Numbers.{spell}
use Rattle.layout.specs.Layout.{rule_at, states_at, accepting_at, next_at, most_line, most_labels, all_states}
use Rattle.pattern_header.specs.Header.{columns}
use Rattle.pattern_order.specs.StateLine.{StateLine}
use Rattle.pattern_header.specs.Header.{is_header, label_count}
use Rattle.lists.specs.Tables.{table}
use Rattle.pattern_buffer.specs.Meaning.{labels_in, beads_in}

-- The row of the state q of the bead at place j.
abbrev pub row_in : List ℕ → ℕ → ℕ → StateLine
row_in b j q = record {
  bead = j + 1;
  rule = at b (rule_at j);
  state = q;
  accepting = cond (member q (at b (accepting_at j))) 1 0;
  next = table (λ a. at b (next_at j q a)) (labels_in b);
}

unfoldable pub rows_of_bead : List ℕ → ℕ → ℕ → List StateLine
rows_of_bead b j zero = []
rows_of_bead b j (suc q) = rows_of_bead b j q ++ (row_in b j q ∷ [])

unfoldable pub rows_of_beads : List ℕ → ℕ → List StateLine
rows_of_beads b zero = []
rows_of_beads b (suc j) = rows_of_beads b j ++ rows_of_bead b j (at b (states_at j))

-- The rows of a buffer, bead by bead and state by state.
abbrev pub state_lines_of : List ℕ → List StateLine
state_lines_of b = rows_of_beads b (beads_in b)

abbrev pub fields_of : StateLine → List (List ℕ)
fields_of r = spell r.bead ∷ (word_of r.rule ∷ (spell r.state ∷ (spell r.accepting ∷ map spell r.next)))

-- A row's line has at most so many bytes: 6 a next set, 12 for the rest of it and the newline.
abbrev pub row_most : ℕ
row_most = 12 + 6 * most_labels

unfoldable pub row_lines : List StateLine → List ℕ
row_lines [] = []
row_lines (r ∷ rs) = line_from (fields_of r) ++ row_lines rs

-- The rows' lines under a header's line.
abbrev pub text_under : List ℕ → List ℕ → List ℕ
text_under header b = header ++ row_lines (state_lines_of b)

-- The bytes of a line, without its newline, are an accepted header that names c labels.
pub record Heads (c : ℕ) (bytes : List ℕ) : Type 0 where
  pub whole_passes : whole most_line (record { bytes = bytes; newline = true }) ≡ true
  pub header_ok : is_header (split 32 bytes) ≡ true
  pub names : label_count (split 32 bytes) ≡ c

-- A header's line, and all rows' lines.
abbrev pub text_most : ℕ
text_most = most_line + 1 + all_states * row_most

-- Labels named by their numbers: 0, 1, ..
unfoldable pub names_up_to : ℕ → List (List ℕ)
names_up_to zero = []
names_up_to (suc n) = names_up_to n ++ (spell n ∷ [])

abbrev pub header_line : ℕ → List ℕ
header_line c = line_from (columns ++ names_up_to c)

abbrev pub text_of : List ℕ → List ℕ
text_of b = text_under (header_line (labels_in b)) b
