-- A list of bytes split at a separator: every separator ends a part, so n separators give n + 1 parts, and a part may be empty.
use Rattle.std.specs.Prelude.{ℕ, cond, List, [], ◌∷◌, ◌++◌, eqb, get_or}

-- The byte in front of the first part.
abbrev pub prepend : ℕ → List (List ℕ) → List (List ℕ)
prepend x [] = (x ∷ []) ∷ []
prepend x (p ∷ ps) = (x ∷ p) ∷ ps

unfoldable pub split : ℕ → List ℕ → List (List ℕ)
split b [] = [] ∷ []
split b (x ∷ xs) = cond (eqb x b) ([] ∷ split b xs) (prepend x (split b xs))

-- The first part: what stands before the first separator.
abbrev pub first_part : ℕ → List ℕ → List ℕ
first_part b l = get_or (split b l) 0 []

-- The parts in a row, with the separator between two.
unfoldable pub joined : ℕ → List (List ℕ) → List ℕ
joined b [] = []
joined b (p ∷ []) = p
joined b (p ∷ (q ∷ ps)) = p ++ (b ∷ joined b (q ∷ ps))

-- A line of these fields, parted by spaces, with its newline.
abbrev pub line_from : List (List ℕ) → List ℕ
line_from fs = joined 32 fs ++ (10 ∷ [])
