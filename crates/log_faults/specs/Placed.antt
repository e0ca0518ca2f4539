-- Where a refused log text is at fault, in the words of the table (Ask 2): for each row and each rank why the byte is this one, and that no
-- higher rank applies.
use Rattle.std.specs.Prelude.{ℕ, suc, ◌≤◌, ◌<◌, ◌≡◌, true, false, List, length}
use Rattle.text.specs.Split.{split}
use Rattle.text.specs.Lines.{lines_of, whole}
use Rattle.text.specs.Walk.{bad_size}
use Rattle.fields.specs.Fields.{part_start}
use Rattle.line_places.specs.Place.{line_at}
use Rattle.line_places.specs.Fault.{FieldAtFault, ByteAtFault}
use Rattle.layout.specs.Layout.{most_log_text, most_line}
use Rattle.log_line.specs.Header.{is_header}
use Rattle.log_line.specs.Step.{Step, step_of, step_at, malformed, misnumbered, mislinked, mislabelled, link_count, over_limit}
use Rattle.log_places.specs.Place.{wrong_name, wrong_field, over_limit_at}
use Rattle.log_byte.specs.Byte.{columns_named, steps_before}

-- The bytes of the n-th line, its fields, and what it says of a step.
abbrev pub bytes_at : List ℕ → ℕ → List ℕ
bytes_at text n = (line_at text n).bytes

abbrev pub fields_at : List ℕ → ℕ → List (List ℕ)
fields_at text n = split 32 (bytes_at text n)

abbrev pub said_at : List ℕ → ℕ → Step
said_at text n = step_of (columns_named text) (fields_at text n)

-- A line of at most 240 bytes, with its newline and of bytes 32 to 126.
abbrev pub WholeAt : List ℕ → ℕ → Type 0
WholeAt text n = whole most_line (line_at text n) ≡ true

-- A whole line below a header that is right.
pub record Below (text : List ℕ) (n : ℕ) : Type 0 where
  pub later : 1 < n
  pub header : is_header (fields_at text 1) ≡ true
  pub whole : WholeAt text n

-- Besides, it has four fields, each what its column asks: 21 does not apply.
pub record Formed (text : List ℕ) (n : ℕ) : Type 0 where
  pub below : Below text n
  pub formed : malformed (columns_named text) (fields_at text n) ≡ false

-- The place of the field with this index, which the line has.
pub record InColumn (fs : List (List ℕ)) (i place : ℕ) : Type 0 where
  pub inside : i < length fs
  pub is : place ≡ suc (part_start fs i)

-- The number, the line, the byte.
pub data Placed (count : ℕ) (text : List ℕ) : ℕ → ℕ → ℕ → Type 0 where
  -- 20: the text is empty or too large.
  size : bad_size most_log_text text ≡ true → Placed count text 20 0 0
  -- 21: over 240 bytes; else no newline; else a byte outside 32 to 126, the first.
  long : {n : ℕ} → most_line < length (bytes_at text n) → Placed count text 21 n 0
  unended : {n : ℕ} → length (bytes_at text n) ≤ most_line → (line_at text n).newline ≡ false → Placed count text 21 n 0
  unprintable : {n b : ℕ} → length (bytes_at text n) ≤ most_line → (line_at text n).newline ≡ true → ByteAtFault (bytes_at text n) b
      → Placed count text 21 n b
  -- 21 below the header: the number of fields; else a field that is wrong, the leftmost.
  field_count : {n : ℕ} → Below text n → (length (fields_at text n) ≡ 4 → ⊥) → Placed count text 21 n 0
  field : {n b : ℕ} → Below text n → length (fields_at text n) ≡ 4
      → FieldAtFault (wrong_field (columns_named text) (fields_at text n)) (fields_at text n) b → Placed count text 21 n b
  -- 22: a name that is wrong, the leftmost; else names are missing.
  name : {b : ℕ} → WholeAt text 1 → is_header (fields_at text 1) ≡ false → FieldAtFault (wrong_name (fields_at text 1)) (fields_at text 1) b
      → Placed count text 22 1 b
  names_lacking : WholeAt text 1 → ((i : ℕ) → i < length (fields_at text 1) → wrong_name (fields_at text 1) i ≡ false)
      → length (fields_at text 1) < 4 → Placed count text 22 1 0
  -- 23: the vertex. 24: `preds`. 25: the labels.
  vertex : {n b : ℕ} → Formed text n → misnumbered (columns_named text) n (fields_at text n) ≡ true
      → InColumn (fields_at text n) (columns_named text).vertex b → Placed count text 23 n b
  preds : {n b : ℕ} → Formed text n → mislinked (step_at n) (said_at text n).preds ≡ true
      → InColumn (fields_at text n) (columns_named text).preds b → Placed count text 24 n b
  labels : {n b : ℕ} → Formed text n → mislabelled count (step_at n) (said_at text n).labels ≡ true
      → InColumn (fields_at text n) (columns_named text).labels b → Placed count text 25 n b
  -- 26: the step or the links over a limit, the one further left; or no step at all.
  limit : {n b : ℕ} → Formed text n → over_limit (steps_before text n) (step_at n) (said_at text n).preds ≡ true
      → FieldAtFault (over_limit_at (link_count (steps_before text n)) (columns_named text) (step_at n) (fields_at text n)) (fields_at text n) b
      → Placed count text 26 n b
  no_step : WholeAt text 1 → is_header (fields_at text 1) ≡ true → length (lines_of text) ≡ 1 → Placed count text 26 1 0
