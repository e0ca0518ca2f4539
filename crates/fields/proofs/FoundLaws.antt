-- A field found by its index: its bytes, and a field that is not there is empty.
-- Assumes nothing.
use mathlib.Core.Path.{◌≡◌, sym, ◌∙◌}
use mathlib.Core.List.{List, []}
use Prim.Native.Nat.{ℕ, ◌-◌, ◌≤◌}
use lib.ListN.{length, get_or, take, drop, get_or-eq_default}
use Rattle.text.specs.Split.{split}
use Rattle.fields.specs.Fields.{field_of}
use Rattle.std.specs.Prelude.{Option, Some, None}
use Rattle.fields.proofs.FieldLaws.{field_selects, field_missing}

module _ (b : ℕ) (l : List ℕ) (i : ℕ) (r : Option (ℕ × ℕ)) (given : r ≡ field_of b l i) where
  pub found_none : r ≡ None → get_or (split b l) i [] ≡ []
  found_none p = get_or-eq_default (split b l) [] (field_missing b l i (sym given ∙ p))

  module _ (x y : ℕ) (p : r ≡ Some (x, y)) where
    pub found_ordered : x ≤ y
    found_ordered = (field_selects b l i x y (sym given ∙ p)).ordered

    pub found_inside : y ≤ length l
    found_inside = (field_selects b l i x y (sym given ∙ p)).inside

    pub found_bytes : take (y - x) (drop x l) ≡ get_or (split b l) i []
    found_bytes = (field_selects b l i x y (sym given ∙ p)).bytes

pub ruleset found_kit = (found_none, found_ordered, found_inside, found_bytes)
