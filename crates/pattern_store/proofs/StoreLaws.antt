-- What the stores of a row come to.
-- Assumes nothing.
use mathlib.Core.Path.{◌≡◌, refl, sym, ap, ap₂, ◌∙◌}
use mathlib.Core.List.{List, ◌++◌}
use Prim.Native.Nat.{ℕ, ◌+◌, ◌-◌}
use native.Mathlib.Omega.{arith}
use borrow.Author.Tests.{eq-eqb, ne_eqb}
use borrow.Rule.Slice.PartMut.{put_mid}
use lib.ListN.{get_or, take, drop, set}
use lib.Seq.{drop-drop}
use Rattle.sets.specs.Sets.{singleton, union}
use Rattle.layout.specs.Layout.{next_at, most_states, rule_at, states_at, accepting_at, sets_a_state}
use Rattle.pattern_store.specs.inner.Store.{bead_at, accepting_with, stored_values, stored}
use Rattle.pattern_order.specs.declared.LineValues.{LineValues}

-- ---- the final set

module _ (s : ℕ) (v : LineValues) where
  pub accepting_more : v.accepting ≡ 1 → (x r : ℕ) → x ≡ singleton v.state → r ≡ union most_states s x → r ≡ accepting_with s v
  accepting_more e x r one u = sym (rw (eq-eqb v.accepting 1 e) (sym (u ∙ ap (union most_states s) one)))

  pub accepting_same : (v.accepting ≡ 1 → ⊥) → s ≡ accepting_with s v
  accepting_same n = sym (rw (ne_eqb v.accepting 1 n) refl)

pub ruleset accepting_kit = (accepting_more, accepting_same)

-- ---- a row

module _ (b : List ℕ) (v : LineValues) where
  pub values_stored : (x : ℕ) → x ≡ accepting_with (get_or b (accepting_at (v.bead - 1)) 0) v
      → set (set (set (set b 1 v.bead) (rule_at (v.bead - 1)) v.rule) (states_at (v.bead - 1)) (v.state + 1)) (accepting_at (v.bead - 1)) x ≡ stored_values b v
  unfolding stored_values
  values_stored x e = rw e refl

pub ruleset values_kit = (values_stored)

module _ (b l next part : List ℕ) (v : LineValues) (g : l ≡ stored_values b v) (x y i : ℕ) (bead : x ≡ v.bead) (state : y ≡ v.state) (at : i ≡ next_at (x - 1) y 0) where
  pub row_stored_lem : part ≡ next → put_mid i (i + sets_a_state - i) l part ≡ stored b v next
  unfolding stored
  row_stored_lem p =
      let n : i + sets_a_state - i ≡ sets_a_state = omega arith in
      let m : i ≡ next_at (bead_at v) v.state 0 = at ∙ rw (bead, state) refl in
      ap₂ (λ (y z : List ℕ). take i l ++ (y ++ z)) p (drop-drop (i + sets_a_state - i) i l ∙ ap (λ (k : ℕ). drop (i + k) l) n)
      ∙ ap (λ (k : ℕ). take k l ++ (next ++ drop (k + sets_a_state) l)) m
      ∙ ap (λ (y : List ℕ). take (next_at (bead_at v) v.state 0) y ++ (next ++ drop (next_at (bead_at v) v.state 0 + sets_a_state) y)) g

pub ruleset store_kit = (row_stored_lem)
