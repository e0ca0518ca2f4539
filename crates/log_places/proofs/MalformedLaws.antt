-- A field that is not what its column asks, as the code finds out.
-- Assumes nothing.
use mathlib.Core.Path.{◌≡◌, refl, sym, ap, ◌∙◌}
use mathlib.Core.Bool.{Bool, true, false, not}
use mathlib.Core.List.{List, []}
use Prim.Native.Nat.{ℕ}
use borrow.Author.Tests.{eq-eqb, ne_eqb}
use lib.Dec.{ltb}
use lib.ListN.{length, get_or}
use Rattle.std.specs.Prelude.{Option, Some, None}
use Rattle.numbers.specs.Numbers.{number_of}
use Rattle.numbers.specs.Listed.{is_list}
use Rattle.line_places.specs.Place.{as_place, place_where}
use Rattle.layout.specs.Layout.{most_board}
use Rattle.log_line.specs.Header.{Columns}
use Rattle.log_places.specs.Place.{wrong_field, malformed_at}

-- ---- a field by its column

module _ (c : Columns) (fs : List (List ℕ)) (i : ℕ) where
  pub field_preds : i ≡ c.preds → (t : Bool) → t ≡ is_list (get_or fs i []) → not t ≡ wrong_field c fs i
  unfolding wrong_field
  field_preds h t e = ap not e ∙ sym (rw (eq-eqb i c.preds h) refl)

  module _ (other : i ≡ c.preds → ⊥) (o : Option ℕ) (said : o ≡ number_of (get_or fs i [])) where
    pub field_odd : o ≡ None → true ≡ wrong_field c fs i
    unfolding wrong_field
    field_odd e = sym (rw (ne_eqb i c.preds other, sym said ∙ e) refl)

    module _ (v : ℕ) (e : o ≡ Some v) where
      pub field_board : i ≡ c.board → ltb most_board v ≡ wrong_field c fs i
      unfolding wrong_field
      field_board h = sym (rw (ne_eqb i c.preds other, sym said ∙ e, eq-eqb i c.board h) refl)

      pub field_right : (i ≡ c.board → ⊥) → false ≡ wrong_field c fs i
      unfolding wrong_field
      field_right h = sym (rw (ne_eqb i c.preds other, sym said ∙ e, ne_eqb i c.board h) refl)

pub ruleset wrong_field_kit = (field_preds, field_odd, field_board, field_right)

-- ---- the leftmost of four

pub malformed_four : (c : Columns) (fs : List (List ℕ)) (n : ℕ) → n ≡ length fs → n ≡ 4 → (p : Option ℕ) → p ≡ as_place (place_where (wrong_field c fs) fs)
    → p ≡ as_place (malformed_at c fs)
malformed_four c fs n count four p e = e ∙ sym (simp (eq-eqb (length fs) 4 (sym count ∙ four)))

pub malformed_other : (c : Columns) (fs : List (List ℕ)) (n : ℕ) → n ≡ length fs → (n ≡ 4 → ⊥) → None ≡ as_place (malformed_at c fs)
unfolding as_place
malformed_other c fs n count other = sym (rw (ne_eqb (length fs) 4 (λ e. other (count ∙ e))) refl)

pub ruleset malformed_kit = (malformed_other)
