-- The numbers of the two formats, of the lent buffers and of the judge's own (document 01, "Texts" and "Lent rooms"), each named once.
use Rattle.std.specs.Prelude.{ℕ, ◌+◌, ◌*◌}

-- ---- limits

abbrev pub most_labels : ℕ
most_labels = 16

abbrev pub most_beads : ℕ
most_beads = 8

abbrev pub most_states : ℕ
most_states = 16

abbrev pub most_steps : ℕ
most_steps = 1024

abbrev pub most_links : ℕ
most_links = 4096

-- Links in one line.
abbrev pub most_preds : ℕ
most_preds = 8

abbrev pub most_board : ℕ
most_board = 255

-- Bytes of a text, of a line without its newline, of a label's name.
abbrev pub most_pattern_text : ℕ
most_pattern_text = 16384

abbrev pub most_log_text : ℕ
most_log_text = 65535

abbrev pub most_line : ℕ
most_line = 240

abbrev pub most_name : ℕ
most_name = 12

-- The largest number that a text may have, and the largest label set: one with all labels.
abbrev pub most_number : ℕ
most_number = 65535

abbrev pub most_label_set : ℕ
most_label_set = 65535

-- ---- the pattern buffer

-- Label count, bead count; then the rules, the state counts, the final sets, a place a bead; then the next sets, a place for each label of
-- each state of each bead.
abbrev pub rule_at : ℕ → ℕ
rule_at j = 2 + j

abbrev pub states_at : ℕ → ℕ
states_at j = 10 + j

abbrev pub accepting_at : ℕ → ℕ
accepting_at j = 18 + j

-- States of all beads, there or not.
abbrev pub all_states : ℕ
all_states = 128

-- Next sets of a state, one a label, of a bead, and in all; and where they begin.
abbrev pub sets_a_state : ℕ
sets_a_state = 16

abbrev pub sets_a_bead : ℕ
sets_a_bead = 256

abbrev pub all_sets : ℕ
all_sets = 2048

abbrev pub sets_begin : ℕ
sets_begin = 26

abbrev pub next_at : ℕ → ℕ → ℕ → ℕ
next_at j q a = sets_begin + sets_a_bead * j + sets_a_state * q + a

abbrev pub pattern_length : ℕ
pattern_length = 2074

-- ---- the log buffer

-- The step count; then the label sets and the boards, a place a step; then, a place a step and one more, where among the links those of the
-- step begin; then the links.
abbrev pub labels_at : ℕ → ℕ
labels_at v = 1 + v

abbrev pub board_at : ℕ → ℕ
board_at v = 1025 + v

abbrev pub begin_at : ℕ → ℕ
begin_at v = 2049 + v

abbrev pub link_at : ℕ → ℕ
link_at i = 3074 + i

abbrev pub log_length : ℕ
log_length = 7170

-- ---- the judge's buffers

abbrev pub result_length : ℕ
result_length = 10240

abbrev pub work_length : ℕ
work_length = 16384

-- A row is ten numbers starting at ten times the step's number.
abbrev pub row_length : ℕ
row_length = 10

-- Places of the pivots: for each bead and one more, a place a step.
abbrev pub pivot_places : ℕ
pivot_places = 9216

-- Lanes of a pass, that is starting steps that it tells apart. The set of the lanes in a state is one number of 16 bits.
abbrev pub most_lanes : ℕ
most_lanes = 16

-- Members that such a number has room for, whatever the set is of.
abbrev pub set_width : ℕ
set_width = 16
