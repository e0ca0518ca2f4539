-- Where a header text that the writer refuses with 12 is at fault, in the words of Ask 2's table: one case for each rank, with its byte. Each denies
-- the ranks above it; a byte that is not 0 is the place of what is at fault, the leftmost of its rank.
use Rattle.std.specs.Prelude.{ℕ, ◌≤◌, ◌<◌, ◌≡◌, true, false, List, [], ◌∷◌, length}
use Rattle.text.specs.Split.{split}
use Rattle.text.specs.Lines.{TextLine, lines_of, whole}
use Rattle.line_places.specs.Fault.{FieldAtFault, ByteAtFault}
use Rattle.layout.specs.Layout.{most_line}
use Rattle.pattern_header.specs.Header.{is_header, label_count}
use Rattle.pattern_places.specs.Place.{wrong_name}

-- The header text is this one line, and it is whole.
pub record OneLine (header : List ℕ) (l : TextLine) : Type 0 where
  pub one : lines_of header ≡ l ∷ []
  pub whole_passes : whole most_line l ≡ true

-- Under a pattern of c labels.
pub data HeaderPlaced (c : ℕ) (header : List ℕ) : ℕ → Type 0 where
  -- it is not one line
  lines : (length (lines_of header) ≡ 1 → ⊥) → HeaderPlaced c header 0
  -- its line is over 240 bytes
  long : (l : TextLine) → lines_of header ≡ l ∷ [] → most_line < length l.bytes → HeaderPlaced c header 0
  -- it has no newline
  unended : (l : TextLine) → lines_of header ≡ l ∷ [] → length l.bytes ≤ most_line → l.newline ≡ false → HeaderPlaced c header 0
  -- a byte outside 32 to 126
  unprintable : {b : ℕ} (l : TextLine) → lines_of header ≡ l ∷ [] → length l.bytes ≤ most_line → l.newline ≡ true → ByteAtFault l.bytes b
      → HeaderPlaced c header b
  -- a name that is wrong, repeats an earlier label, or is a label too many
  name : {b : ℕ} (l : TextLine) → OneLine header l → FieldAtFault (wrong_name (split 32 l.bytes)) (split 32 l.bytes) b → HeaderPlaced c header b
  -- names are missing
  names : (l : TextLine) → OneLine header l → length (split 32 l.bytes) < 5 → HeaderPlaced c header 0
  -- another number of labels than the pattern has
  labels : (l : TextLine) → OneLine header l → is_header (split 32 l.bytes) ≡ true → (label_count (split 32 l.bytes) ≡ c → ⊥) → HeaderPlaced c header 0
