-- Where a refused pattern text is at fault, in the words of Ask 2's table: one case for each row and rank, with the refusal's number, its line and
-- its byte. Each case denies the ranks above it; a byte that is not 0 is the place of what is at fault, the leftmost of its rank; and where the byte
-- is 0, the case says why there is no place. No definition that finds a byte is named here.
use Rattle.std.specs.Prelude.{ℕ, suc, ◌+◌, ◌≤◌, ◌<◌, ◌≡◌, true, false, List, T, length}
use Rattle.rules.specs.Rules.{needs_one_next}
use Rattle.text.specs.Lines.{lines_of, whole}
use Rattle.text.specs.Walk.{bad_size}
use Rattle.fields.specs.Fields.{part_start}
use Rattle.line_places.specs.Place.{line_at}
use Rattle.line_places.specs.Fault.{FieldAtFault, ByteAtFault}
use Rattle.layout.specs.Layout.{most_pattern_text, most_line}
use Rattle.pattern_header.specs.Header.{is_header}
use Rattle.pattern_order.specs.StateLine.{disordered, misruled}
use Rattle.pattern_row.specs.Fields.{row_of, malformed}
use Rattle.pattern_store.specs.Next.{states_of, strays}
use Rattle.pattern_places.specs.Place.{wrong_name, no_number, bead_wrong, state_wrong, stray_set, ambiguous_set}
use Rattle.pattern_byte.specs.Byte.{fields_at, labels_named, rows_below, row_before}

-- The n-th line has at most 240 bytes, a newline, and only bytes 32 to 126.
abbrev pub WholeLine : List ℕ → ℕ → Type 0
WholeLine text n = whole most_line (line_at text n) ≡ true

-- A whole line below the header, with the right number of fields, each but the rule a number.
pub record Formed (text : List ℕ) (n : ℕ) : Type 0 where
  pub below : 1 < n
  pub line : WholeLine text n
  pub fields : malformed (labels_named text) (fields_at text n) ≡ false

-- The place of the field with index i of the n-th line.
pub record FieldAt (text : List ℕ) (n i place : ℕ) : Type 0 where
  pub inside : i < length (fields_at text n)
  pub is : place ≡ suc (part_start (fields_at text n) i)

pub data Placed (text : List ℕ) : ℕ → ℕ → ℕ → Type 0 where
  -- 10: the text is empty or too long
  size : T (bad_size most_pattern_text text) → Placed text 10 0 0
  -- 11: the line is over 240 bytes
  long : {n : ℕ} → most_line < length (line_at text n).bytes → Placed text 11 n 0
  -- its newline is missing
  unended : {n : ℕ} → length (line_at text n).bytes ≤ most_line → (line_at text n).newline ≡ false → Placed text 11 n 0
  -- it has a byte outside 32 to 126
  unprintable : {n b : ℕ} → length (line_at text n).bytes ≤ most_line → (line_at text n).newline ≡ true → ByteAtFault (line_at text n).bytes b → Placed text 11 n b
  -- below the header: a wrong number of fields
  fields : {n : ℕ} → 1 < n → WholeLine text n → (length (fields_at text n) ≡ 4 + labels_named text → ⊥) → Placed text 11 n 0
  -- a field other than the rule that is no number
  field : {n b : ℕ} → 1 < n → WholeLine text n → length (fields_at text n) ≡ 4 + labels_named text
      → FieldAtFault (no_number (fields_at text n)) (fields_at text n) b → Placed text 11 n b
  -- 12: a name that is wrong, repeats an earlier label, or is a label too many
  name : {b : ℕ} → WholeLine text 1 → FieldAtFault (wrong_name (fields_at text 1)) (fields_at text 1) b → Placed text 12 1 b
  -- none is; names are missing
  names : WholeLine text 1 → ((i : ℕ) → i < length (fields_at text 1) → wrong_name (fields_at text 1) i ≡ false) → length (fields_at text 1) < 5 → Placed text 12 1 0
  -- 13: nothing after the header
  nothing : WholeLine text 1 → is_header (fields_at text 1) ≡ true → length (lines_of text) ≡ 1 → Placed text 13 1 0
  -- the bead
  bead : {n b : ℕ} → Formed text n → bead_wrong (row_before text n) (row_of (fields_at text n)) ≡ true → FieldAt text n 0 b → Placed text 13 n b
  -- the bead is right: the state
  state : {n b : ℕ} → Formed text n → bead_wrong (row_before text n) (row_of (fields_at text n)) ≡ false
      → state_wrong (row_before text n) (row_of (fields_at text n)) ≡ true → FieldAt text n 2 b → Placed text 13 n b
  -- both are right: final over 1
  final : {n b : ℕ} → Formed text n → bead_wrong (row_before text n) (row_of (fields_at text n)) ≡ false
      → state_wrong (row_before text n) (row_of (fields_at text n)) ≡ false → 1 < (row_of (fields_at text n)).accepting → FieldAt text n 3 b → Placed text 13 n b
  -- 14: the rule
  rule : {n b : ℕ} → Formed text n → disordered (row_before text n) (row_of (fields_at text n)) ≡ false
      → misruled (row_before text n) (row_of (fields_at text n)) ≡ true → FieldAt text n 1 b → Placed text 14 n b
  -- 15: a next set with a state that the bead lacks
  stray : {n b : ℕ} → 1 < n → WholeLine text n
      → FieldAtFault (stray_set (states_of (rows_below text) (row_of (fields_at text n)).bead) (fields_at text n)) (fields_at text n) b → Placed text 15 n b
  -- 16: in a bead whose rule needs just one next state, without such a set, a next set without exactly one state
  ambiguous : {n b : ℕ} → 1 < n → WholeLine text n → strays (rows_below text) (row_of (fields_at text n)) ≡ false → needs_one_next (row_of (fields_at text n)).rule ≡ true
      → FieldAtFault (ambiguous_set (fields_at text n)) (fields_at text n) b → Placed text 16 n b
