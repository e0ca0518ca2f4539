-- Where a line of a log is at fault (Ask 2): for each refusal of a line, the place of the field at fault, from the line's fields. The places of
-- 23, 24 and 25 are those of the columns `vertex`, `preds` and `labels`.
use Rattle.std.specs.Prelude.{ℕ, ◌+◌, Bool, not, cond, ◌&&◌, ◌||◌, List, [], eqb, ltb, length, get_or}
use Rattle.fields.specs.Fields.{same_bytes}
use Rattle.numbers.specs.Numbers.{is_number, value_of}
use Rattle.numbers.specs.Listed.{is_list, list_of}
use Rattle.line_places.specs.Place.{place_where}
use Rattle.layout.specs.Layout.{most_board, most_steps, most_links, most_preds}
use Rattle.log_line.specs.Header.{vertex_name, board_name, labels_name, preds_name, place_of, Columns}

-- 22. The field is one of the four names.
abbrev pub is_column : List ℕ → Bool
is_column f = same_bytes f vertex_name || (same_bytes f board_name || (same_bytes f labels_name || same_bytes f preds_name))

-- The name with index i is wrong: none of the four, one that stands before, or a fifth.
unfoldable pub wrong_name : List (List ℕ) → ℕ → Bool
wrong_name fs i = not (is_column (get_or fs i [])) || (ltb (place_of (get_or fs i []) fs) i || not (ltb i 4))

-- The leftmost such name; where there is none, names are missing, and no place is at fault.
abbrev pub header_at : List (List ℕ) → ℕ
header_at fs = place_where (wrong_name fs) fs

-- 21, below the header. The field with index i is wrong: `preds` neither `-` nor numbers joined by single commas, another that is no number, a
-- board over 255. The largest label set is the largest number, so the field `labels` is asked no more.
unfoldable pub wrong_field : Columns → List (List ℕ) → ℕ → Bool
wrong_field c fs i =
    cond (eqb i c.preds) (not (is_list (get_or fs i [])))
    (not (is_number (get_or fs i [])) || (eqb i c.board && ltb most_board (value_of (get_or fs i []))))

-- The number of fields ranks first, and has no place; then the leftmost field that is wrong, whatever its column.
abbrev pub malformed_at : Columns → List (List ℕ) → ℕ
malformed_at c fs = cond (eqb (length fs) 4) (place_where (wrong_field c fs) fs) 0

-- 26, of step v, after steps with so many links. The links of the line.
abbrev pub links_named : Columns → List (List ℕ) → List ℕ
links_named c fs = list_of (get_or fs c.preds [])

-- `vertex` where the step is over 1,023, `preds` where there is a ninth link or the 4,097th: the one further left.
unfoldable pub over_limit_at : ℕ → Columns → ℕ → List (List ℕ) → ℕ → Bool
over_limit_at before c v fs i =
    (eqb i c.vertex && not (ltb v most_steps))
    || (eqb i c.preds && (ltb most_preds (length (links_named c fs)) || ltb most_links (before + length (links_named c fs))))

abbrev pub limit_at : ℕ → Columns → ℕ → List (List ℕ) → ℕ
limit_at before c v fs = place_where (over_limit_at before c v fs) fs
