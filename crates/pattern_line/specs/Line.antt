-- The fields of a line: parted by one space (document 01, "Texts").
use Rattle.std.specs.Prelude.{ℕ, List, [], get_or}
use Rattle.text.specs.Split.{split}

abbrev pub fields_of : List ℕ → List (List ℕ)
fields_of line = split 32 line

-- The field with index i; empty where the line lacks it.
abbrev pub field_at : List ℕ → ℕ → List ℕ
field_at line i = get_or (fields_of line) i []
