-- The header's names, as the code tests them one after the other.
-- Assumes nothing.
use mathlib.Core.Path.{◌≡◌, refl, sym, ◌∙◌}
use mathlib.Core.Bool.{Bool, true, false, not, ◌||◌, or-false}
use mathlib.Core.List.{List, []}
use Prim.Native.Nat.{ℕ, ◌+◌, ◌≤◌, ◌<◌}
use native.Mathlib.Omega.{arith}
use borrow.Author.Tests.{lt-ltb, le-ltb, le-leb}
use lib.Dec.{leb}
use lib.ListN.{get_or}
use Rattle.layout.specs.Layout.{most_labels}
use Rattle.fields.specs.Fields.{same_bytes}
use Rattle.pattern_header.specs.Header.{columns, is_name, among}
use Rattle.pattern_places.specs.Place.{labels_before, wrong_name}

-- ---- a wrong name

pub wrong_crowded : (fs : List (List ℕ)) (i : ℕ) → (4 + most_labels) ≤ i → leb (4 + most_labels) i ≡ wrong_name fs i
unfolding wrong_name
wrong_crowded fs i h = le-leb (4 + most_labels) i h ∙ sym (rw (le-ltb i 4 (omega arith), le-ltb i (4 + most_labels) h) (go (is_name (get_or fs i [])) (among (get_or fs i []) (labels_before fs i))))
  where
    go : (a b : Bool) → (not a || (b || true)) ≡ true
    go true true = refl
    go true false = refl
    go false b = refl

module _ (fs : List (List ℕ)) (i : ℕ) (t : Bool) where
  pub wrong_column : i < 4 → t ≡ not (same_bytes (get_or fs i []) (get_or columns i [])) → t ≡ wrong_name fs i
  unfolding wrong_name
  wrong_column h g = g ∙ sym (rw (lt-ltb i 4 h) refl)

  module _ (h : 4 ≤ i) (k : i < (4 + most_labels)) (g : t ≡ is_name (get_or fs i [])) where
    past : wrong_name fs i ≡ (not t || (among (get_or fs i []) (labels_before fs i) || false))
    unfolding wrong_name
    past = rw (le-ltb i 4 h, lt-ltb i (4 + most_labels) k, sym g) refl

    pub wrong_unnamed : not t ≡ true → not t ≡ wrong_name fs i
    wrong_unnamed e = e ∙ sym (past ∙ rw e refl)

    pub wrong_repeated : not t ≡ false → (u : Bool) → u ≡ among (get_or fs i []) (labels_before fs i) → u ≡ wrong_name fs i
    wrong_repeated e u f = sym (past ∙ rw (e, sym f) (or-false u))

pub ruleset wrong_kit = (wrong_column, wrong_crowded, wrong_unnamed, wrong_repeated)
