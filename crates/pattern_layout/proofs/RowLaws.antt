-- The lines of a bead's states, and of all beads, one after the other.
-- Assumes nothing.
use Prim.Native.Nat.{ℕ, ◌+◌}
use mathlib.Core.Path.{◌≡◌, refl, sym, ap, ◌∙◌}
use mathlib.Core.List.{List, [], ◌∷◌, ◌++◌, append_assoc, append-nil}
use native.Mathlib.Numerals.{add-one}
use lib.ListN.{get_or}
use Rattle.text.specs.Split.{line_from}
use Rattle.layout.specs.Layout.{states_at}
use Rattle.pattern_order.specs.StateLine.{StateLine}
use Rattle.lists.specs.Places.{at}
use Rattle.pattern_texts.specs.Spelled.{row_in, rows_of_bead, rows_of_beads, fields_of, row_lines}
use Rattle.pattern_layout.proofs.LineLaws.{place_kit}

lines_append : (rs ss : List StateLine) → row_lines rs ++ row_lines ss ≡ row_lines (rs ++ ss)
unfolding row_lines
lines_append [] ss = refl
lines_append (r ∷ rs) ss =
    append_assoc (line_from (fields_of r)) (row_lines rs) (row_lines ss) ∙ ap (λ (t : List ℕ). line_from (fields_of r) ++ t) (lines_append rs ss)

one_line : (r : StateLine) → line_from (fields_of r) ≡ row_lines (r ∷ [])
unfolding row_lines
one_line r = sym (append-nil (line_from (fields_of r)))

-- ---- the states of a bead

module _ (b : List ℕ) (j : ℕ) where
  pub no_states : row_lines (rows_of_bead b j 0) ≡ []
  unfolding rows_of_bead row_lines
  no_states = refl

  pub states_more : (q : ℕ) → row_lines (rows_of_bead b j (q + 1)) ≡ row_lines (rows_of_bead b j q) ++ line_from (fields_of (row_in b j q))
  unfolding rows_of_bead
  states_more q = rw (add-one q, sym (lines_append (rows_of_bead b j q) (row_in b j q ∷ [])), sym (one_line (row_in b j q)))

pub ruleset bead_kit = (place_kit, no_states, states_more)

-- ---- the beads

module _ (b : List ℕ) where
  pub no_beads : row_lines (rows_of_beads b 0) ≡ []
  unfolding rows_of_beads row_lines
  no_beads = refl

  pub beads_more : (j : ℕ) → row_lines (rows_of_beads b (j + 1)) ≡ row_lines (rows_of_beads b j) ++ row_lines (rows_of_bead b j (get_or b (states_at j) 0))
  unfolding rows_of_beads
  beads_more j = rw (add-one j, sym (lines_append (rows_of_beads b j) (rows_of_bead b j (at b (states_at j)))))

pub ruleset beads_kit = (place_kit, no_beads, beads_more)
