-- The first line of a pattern: `bead rule state final`, then 1 to 16 distinct label names of 1 to 12 lower-case letters or digits.
use Rattle.std.specs.Prelude.{ℕ, ◌-◌, Bool, true, false, not, ◌&&◌, ◌||◌, List, [], ◌∷◌, leb, length, take, drop}
use Rattle.std.specs.List.{list_all}
use Rattle.layout.specs.Layout.{most_name, most_labels}
use Rattle.fields.specs.Fields.{same_bytes}

-- `bead`, `rule`, `state`, `final`
abbrev pub columns : List (List ℕ)
columns =
    (98 ∷ 101 ∷ 97 ∷ 100 ∷ [])
    ∷ (114 ∷ 117 ∷ 108 ∷ 101 ∷ [])
    ∷ (115 ∷ 116 ∷ 97 ∷ 116 ∷ 101 ∷ [])
    ∷ (102 ∷ 105 ∷ 110 ∷ 97 ∷ 108 ∷ [])
    ∷ []

unfoldable pub same_fields : List (List ℕ) → List (List ℕ) → Bool
same_fields [] [] = true
same_fields [] (q ∷ qs) = false
same_fields (p ∷ ps) [] = false
same_fields (p ∷ ps) (q ∷ qs) = same_bytes p q && same_fields ps qs

-- A lower-case letter or a digit.
abbrev pub name_byte : ℕ → Bool
name_byte b = (leb 97 b && leb b 122) || (leb 48 b && leb b 57)

unfoldable pub name_bytes : List ℕ → Bool
name_bytes bs = list_all name_byte bs

abbrev pub is_name : List ℕ → Bool
is_name p = leb 1 (length p) && (leb (length p) most_name && name_bytes p)

unfoldable pub are_names : List (List ℕ) → Bool
are_names ps = list_all is_name ps

-- The field stands among the others.
unfoldable pub among : List ℕ → List (List ℕ) → Bool
among p [] = false
among p (q ∷ qs) = same_bytes p q || among p qs

unfoldable pub distinct : List (List ℕ) → Bool
distinct [] = true
distinct (p ∷ ps) = not (among p ps) && distinct ps

-- The fields are a header, and how many labels it names.
abbrev pub is_header : List (List ℕ) → Bool
is_header fs =
    same_fields (take 4 fs) columns
    && (leb 1 (length (drop 4 fs)) && (leb (length (drop 4 fs)) most_labels && (are_names (drop 4 fs) && distinct (drop 4 fs))))

abbrev pub label_count : List (List ℕ) → ℕ
label_count fs = length fs - 4
