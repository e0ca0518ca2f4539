-- Several numbers: fields that are all numbers, and numbers in one field, joined by commas, where `-` stands for none.
use Rattle.std.specs.Prelude.{ℕ, Bool, true, cond, ◌&&◌, ◌||◌, List, [], ◌∷◌, map}
use Rattle.text.specs.Split.{split, joined}
use Rattle.fields.specs.Fields.{same_bytes}
use Rattle.numbers.specs.Numbers.{is_number, value_of, spell}

unfoldable pub are_numbers : List (List ℕ) → Bool
are_numbers [] = true
are_numbers (p ∷ ps) = is_number p && are_numbers ps

-- `-`: no number.
abbrev pub is_none : List ℕ → Bool
is_none f = same_bytes f (45 ∷ [])

-- The field is `-` or numbers joined by single commas.
abbrev pub is_list : List ℕ → Bool
is_list f = is_none f || are_numbers (split 44 f)

-- The numbers that it lists: meant only where it is such a field.
abbrev pub list_of : List ℕ → List ℕ
list_of f = cond (is_none f) [] (map value_of (split 44 f))

-- The field that lists these numbers.
abbrev pub list_word : List ℕ → List ℕ
list_word [] = 45 ∷ []
list_word (n ∷ ns) = joined 44 (map spell (n ∷ ns))
