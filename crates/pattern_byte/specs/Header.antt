-- The byte of a header text that the pattern's writer refuses (Ask 2).
use Rattle.std.specs.Prelude.{ℕ, List, [], ◌∷◌}
use Rattle.text.specs.Split.{split}
use Rattle.text.specs.Lines.{TextLine, lines_of}
use Rattle.line_places.specs.Place.{ranked_at}
use Rattle.layout.specs.Layout.{most_line}
use Rattle.pattern_places.specs.Place.{header_at}

abbrev pub one_line_at : List TextLine → ℕ
one_line_at [] = 0
one_line_at (l ∷ []) = ranked_at most_line l (header_at (split 32 l.bytes))
one_line_at (l ∷ (m ∷ ls)) = 0

-- A text that is not one line ranks first, and has no place; then its line. A header that names another number of labels has no place.
unfoldable pub header_text_at : List ℕ → ℕ
header_text_at header = one_line_at (lines_of header)
