-- The first line of a log: the names `vertex`, `board`, `labels`, `preds`, each once, in any order. The columns follow it.
use Rattle.std.specs.Prelude.{ℕ, suc, Bool, cond, ◌&&◌, List, [], ◌∷◌, eqb, ltb, length}
use Rattle.fields.specs.Fields.{same_bytes}

-- `vertex`, `board`, `labels`, `preds`
abbrev pub vertex_name : List ℕ
vertex_name = 118 ∷ 101 ∷ 114 ∷ 116 ∷ 101 ∷ 120 ∷ []

abbrev pub board_name : List ℕ
board_name = 98 ∷ 111 ∷ 97 ∷ 114 ∷ 100 ∷ []

abbrev pub labels_name : List ℕ
labels_name = 108 ∷ 97 ∷ 98 ∷ 101 ∷ 108 ∷ 115 ∷ []

abbrev pub preds_name : List ℕ
preds_name = 112 ∷ 114 ∷ 101 ∷ 100 ∷ 115 ∷ []

-- The place of a name among the fields; past the last where it is not there.
unfoldable pub place_of : List ℕ → List (List ℕ) → ℕ
place_of name [] = 0
place_of name (f ∷ fs) = cond (same_bytes f name) 0 (suc (place_of name fs))

-- Which field of each line is which.
pub record Columns : Type 0 where
  pub vertex : ℕ
  pub board : ℕ
  pub labels : ℕ
  pub preds : ℕ

abbrev pub columns_of : List (List ℕ) → Columns
columns_of fs = record {
  vertex = place_of vertex_name fs;
  board = place_of board_name fs;
  labels = place_of labels_name fs;
  preds = place_of preds_name fs;
}

-- Four fields, and each of the four names is one of them: so each stands once.
abbrev pub is_header : List (List ℕ) → Bool
is_header fs =
    eqb (length fs) 4
    && (ltb (place_of vertex_name fs) 4 && (ltb (place_of board_name fs) 4 && (ltb (place_of labels_name fs) 4 && ltb (place_of preds_name fs) 4)))
