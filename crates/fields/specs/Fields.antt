-- The fields of a line (document 01: every space ends a field; `preds` splits again at commas).
use Rattle.std.specs.Prelude.{ℕ, zero, suc, ◌+◌, ◌≤◌, ◌<◌, ◌≡◌, Bool, cond, List, [], ◌∷◌, ltb, length, get_or, Option, Some, None, bytes_eq}
use Rattle.text.specs.Split.{split}

-- Where a part begins in the whole: after the parts before it, and a separator after each.
unfoldable pub part_start : List (List ℕ) → ℕ → ℕ
part_start ps zero = 0
part_start [] (suc i) = 0
part_start (p ∷ ps) (suc i) = length p + 1 + part_start ps i

-- Where a part begins and ends, if there is one with this index.
abbrev pub part_at : List (List ℕ) → ℕ → Option (ℕ × ℕ)
part_at ps i = cond (ltb i (length ps)) (Some (part_start ps i, part_start ps i + length (get_or ps i []))) None

-- Where the field with index i begins and ends in its line.
abbrev pub field_of : ℕ → List ℕ → ℕ → Option (ℕ × ℕ)
field_of b l i = part_at (split b l) i

-- Are they the same bytes?
abbrev pub same_bytes : List ℕ → List ℕ → Bool
same_bytes = bytes_eq

-- A line's fields are marked: how many there are; and in a list where each begins, and last the place behind a last separator, if the
-- line had one more. As many as the list has room for.
pub record FieldsMarked (b : ℕ) (l : List ℕ) (count : ℕ) (starts : List ℕ) : Type 0 where
  pub counted : count ≡ length (split b l)
  pub begins : (i : ℕ) → i ≤ length (split b l) → i < length starts → get_or starts i 0 ≡ part_start (split b l) i
