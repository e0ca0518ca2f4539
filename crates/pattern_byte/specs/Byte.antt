-- The byte of a refused pattern text (Ask 2): where in the line at fault, by the refusal's number and line. Which refusal it is, and in which line,
-- `pattern_text` says.
use Rattle.std.specs.Prelude.{ℕ, ◌-◌, cond, List, [], ◌∷◌, map, eqb, ltb, drop}
use Rattle.text.specs.Split.{split}
use Rattle.line_places.specs.Place.{lines_bytes, line_at, ranked_at}
use Rattle.layout.specs.Layout.{most_line}
use Rattle.pattern_header.specs.Header.{label_count}
use Rattle.pattern_order.specs.StateLine.{StateLine}
use Rattle.pattern_row.specs.Fields.{row_of}
use Rattle.pattern_store.specs.Next.{states_of}
use Rattle.pattern_places.specs.Place.{header_at, malformed_at, disordered_at, misruled_at, straying_at, ambiguous_at}

-- The fields of the n-th line.
abbrev pub fields_at : List ℕ → ℕ → List (List ℕ)
fields_at text n = split 32 (line_at text n).bytes

-- How many labels the header names.
unfoldable pub labels_named : List ℕ → ℕ
labels_named text = label_count (fields_at text 1)

-- What the lines below the header say.
unfoldable pub rows_below : List ℕ → List StateLine
rows_below text = map (λ bs. row_of (split 32 bs)) (drop 1 (lines_bytes text))

-- The row of the line before the n-th, if that is below the header.
unfoldable pub row_before : List ℕ → ℕ → List StateLine
row_before text n = cond (ltb n 3) [] (row_of (fields_at text (n - 1)) ∷ [])

-- The place at fault in the n-th line, whose bytes these are, if it is whole. 13 in line 1 is: nothing after the header.
unfoldable pub place_in : List ℕ → ℕ → ℕ → List ℕ → ℕ
place_in text number n bytes =
    let fs = split 32 bytes in
    cond (eqb number 11) (malformed_at (labels_named text) fs)
    (cond (eqb number 12) (header_at fs)
    (cond (eqb number 13) (cond (eqb n 1) 0 (disordered_at (row_before text n) fs))
    (cond (eqb number 14) (misruled_at fs)
    (cond (eqb number 15) (straying_at (states_of (rows_below text) (row_of fs).bead) fs)
    (cond (eqb number 16) (ambiguous_at fs) 0)))))

-- 10 has no line and no byte. Of the others a line that is not whole ranks first.
unfoldable pub pattern_byte : List ℕ → ℕ → ℕ → ℕ
pattern_byte text number n = cond (ltb number 11) 0 (ranked_at most_line (line_at text n) (place_in text number n (line_at text n).bytes))
