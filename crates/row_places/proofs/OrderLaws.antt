-- 13, as the code finds it: the bead, else the state, else final.
-- Assumes nothing.
use mathlib.Core.Path.{◌≡◌, refl, sym, ap, ◌∙◌}
use mathlib.Core.Bool.{Bool, true, false, not}
use mathlib.Core.List.{List, [], ◌∷◌}
use Prim.Native.Nat.{ℕ, ◌+◌, ◌≤◌, ◌<◌}
use native.Mathlib.Omega.{arith}
use borrow.Author.Tests.{lt-ltb, le-ltb, le-leb, eq-eqb, ne_eqb}
use lib.Dec.{eqb, leb, ltb}
use Rattle.std.specs.Prelude.{Option, Some, None}
use Rattle.layout.specs.Layout.{most_beads, most_states}
use Rattle.line_places.specs.Place.{as_place, place_at}
use Rattle.pattern_row.specs.Fields.{row_of}
use Rattle.pattern_places.specs.Place.{bead_wrong, state_wrong, disordered_at}
use Rattle.row_places.specs.declared.order.Said.{Said}
use Rattle.row_places.specs.Said.{row_said, rows_said}

-- ---- a bead and a state, in the first line or after another

module _ (s : Said) (o : Option Said) where
  pub bead_first : o ≡ None → not (eqb s.bead 1) ≡ bead_wrong (rows_said o) (row_said s)
  unfolding bead_wrong
  bead_first e = sym (rw e refl)

  pub state_first : o ≡ None → not (eqb s.state 0) ≡ state_wrong (rows_said o) (row_said s)
  unfolding state_wrong
  state_first e = sym (rw e refl)

  module _ (l : Said) (e : o ≡ Some l) (x : ℕ) where
    module _ (is : x ≡ s.bead) where
      pub bead_over : most_beads < x → ltb most_beads x ≡ bead_wrong (rows_said o) (row_said s)
      unfolding bead_wrong
      bead_over h = lt-ltb most_beads x h ∙ sym (rw (e, sym is, lt-ltb most_beads x h) refl)

      pub bead_again : x ≤ most_beads → s.bead ≡ l.bead → not (eqb s.bead l.bead) ≡ bead_wrong (rows_said o) (row_said s)
      unfolding bead_wrong
      bead_again h n = ap not (eq-eqb s.bead l.bead n) ∙ sym (rw (e, le-ltb most_beads s.bead (omega arith), eq-eqb s.bead l.bead n) refl)

      pub bead_other : x ≤ most_beads → (s.bead ≡ l.bead → ⊥) → (y z : ℕ) → y ≡ s.bead → z ≡ l.bead → not (eqb y (z + 1)) ≡ bead_wrong (rows_said o) (row_said s)
      unfolding bead_wrong
      bead_other h n y z p q = rw (p, q) (sym (rw (e, le-ltb most_beads s.bead (omega arith), ne_eqb s.bead l.bead n) refl))

    module _ (is : x ≡ s.state) where
      pub state_over : most_states ≤ x → leb most_states x ≡ state_wrong (rows_said o) (row_said s)
      unfolding state_wrong
      state_over h = le-leb most_states x h ∙ sym (rw (e, le-ltb s.state most_states (omega arith)) refl)

      pub state_next : x < most_states → s.bead ≡ l.bead → (y z : ℕ) → y ≡ s.state → z ≡ l.state → not (eqb y (z + 1)) ≡ state_wrong (rows_said o) (row_said s)
      unfolding state_wrong
      state_next h again y z p q = rw (p, q) (sym (rw (e, lt-ltb s.state most_states (omega arith), eq-eqb s.bead l.bead again) refl))

      pub state_new : x < most_states → (s.bead ≡ l.bead → ⊥) → not (eqb s.state 0) ≡ state_wrong (rows_said o) (row_said s)
      unfolding state_wrong
      state_new h n = sym (rw (e, lt-ltb s.state most_states (omega arith), ne_eqb s.bead l.bead n) refl)

pub ruleset bead_kit = (bead_first, bead_over, bead_again, bead_other)

pub ruleset state_kit = (state_first, state_over, state_next, state_new)

-- ---- what a line says, for its row

module _ (fs : List (List ℕ)) (s : Said) (b : s.bead ≡ (row_of fs).bead) (k : s.state ≡ (row_of fs).state) where
  row_bead : (o : Option Said) → bead_wrong (rows_said o) (row_of fs) ≡ bead_wrong (rows_said o) (row_said s)
  unfolding bead_wrong
  row_bead None = rw (sym b) refl
  row_bead (Some l) = rw (sym b) refl

  row_state : (o : Option Said) → state_wrong (rows_said o) (row_of fs) ≡ state_wrong (rows_said o) (row_said s)
  unfolding state_wrong
  row_state None = rw (sym k) refl
  row_state (Some l) = rw (sym b, sym k) refl

  module _ (o : Option Said) (t : Bool) (w : t ≡ bead_wrong (rows_said o) (row_said s)) (p : Option ℕ) where
    pub at_bead : t ≡ true → p ≡ as_place (place_at fs 0) → p ≡ as_place (disordered_at (rows_said o) fs)
    unfolding disordered_at
    at_bead e q = q ∙ sym (rw (row_bead o ∙ sym w ∙ e) refl)

    module _ (e : t ≡ false) (u : Bool) (v : u ≡ state_wrong (rows_said o) (row_said s)) where
      pub at_state : u ≡ true → p ≡ as_place (place_at fs 2) → p ≡ as_place (disordered_at (rows_said o) fs)
      unfolding disordered_at
      at_state f q = q ∙ sym (rw (row_bead o ∙ sym w ∙ e, row_state o ∙ sym v ∙ f) refl)

      pub at_final : u ≡ false → p ≡ as_place (place_at fs 3) → p ≡ as_place (disordered_at (rows_said o) fs)
      unfolding disordered_at
      at_final f q = q ∙ sym (rw (row_bead o ∙ sym w ∙ e, row_state o ∙ sym v ∙ f) refl)

  -- It stands for the row before.
  pub said_row : (gs : List (List ℕ)) → disordered_at (rows_said (Some s)) gs ≡ disordered_at (row_of fs ∷ []) gs
  unfolding disordered_at bead_wrong state_wrong
  said_row gs = rw (b, k) refl

pub ruleset place_kit = (at_bead, at_state, at_final)
