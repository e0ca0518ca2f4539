-- A field that is over a limit, as the code finds out; how many links a field lists.
-- Assumes nothing.
use mathlib.Core.Path.{◌≡◌, refl, sym, ◌∙◌}
use mathlib.Core.Bool.{Bool, true, false, not, ◌&&◌, ◌||◌}
use mathlib.Core.List.{List, []}
use Prim.Native.Nat.{ℕ, ◌+◌}
use borrow.Author.Tests.{eq-eqb, ne_eqb}
use lib.Dec.{eqb, ltb}
use lib.ListN.{length, get_or, length-map}
use Rattle.text.specs.Split.{split}
use Rattle.numbers.specs.Numbers.{value_of}
use Rattle.numbers.specs.Listed.{is_none, list_of}
use Rattle.layout.specs.Layout.{most_steps, most_links, most_preds}
use Rattle.log_line.specs.Header.{Columns}
use Rattle.log_places.specs.Place.{over_limit_at}

-- ---- how many links

module _ (f : List ℕ) (t : Bool) (said : t ≡ is_none f) where
  pub links_none : t ≡ true → 0 ≡ length (list_of f)
  links_none e = sym (rw (sym said ∙ e) refl)

  pub links_some : (n : ℕ) → t ≡ false → n ≡ length (split 44 f) → n ≡ length (list_of f)
  links_some n e g = g ∙ sym (rw (sym said ∙ e) (length-map (split 44 f) value_of))

pub ruleset count_kit = (links_none, links_some)

-- ---- a field by its column

module _ (before : ℕ) (c : Columns) (v : ℕ) (fs : List (List ℕ)) (i : ℕ) where
  pub limit_late : i ≡ c.vertex → (t : Bool) → t ≡ not (ltb v most_steps) → t ≡ true → true ≡ over_limit_at before c v fs i
  unfolding over_limit_at
  limit_late h t q e = sym (rw (eq-eqb i c.vertex h, sym q ∙ e) refl)

  module _ (early : (eqb i c.vertex && not (ltb v most_steps)) ≡ false) where
    pub early_preds : i ≡ c.preds → (n : ℕ) → n ≡ length (list_of (get_or fs c.preds [])) → (u : Bool) → u ≡ (ltb most_preds n || ltb most_links (before + n)) → u ≡ over_limit_at before c v fs i
    unfolding over_limit_at
    early_preds h n q u g = g ∙ sym (rw (early, eq-eqb i c.preds h, ← q) refl)

    pub early_other : (i ≡ c.preds → ⊥) → false ≡ over_limit_at before c v fs i
    unfolding over_limit_at
    early_other h = sym (rw (early, ne_eqb i c.preds h) refl)

  pub other_column : (i ≡ c.vertex → ⊥) → (eqb i c.vertex && not (ltb v most_steps)) ≡ false
  other_column h = rw (ne_eqb i c.vertex h) refl

  pub early_step : i ≡ c.vertex → (t : Bool) → t ≡ not (ltb v most_steps) → t ≡ false → (eqb i c.vertex && not (ltb v most_steps)) ≡ false
  early_step h t q e = rw (eq-eqb i c.vertex h) (sym q ∙ e)

pub ruleset limit_kit = (limit_late, early_preds, early_other, other_column, early_step)
