-- All next sets one after the other, and bead by bead, state by state, label by label.
-- Assumes nothing.
use Prim.Native.Nat.{ℕ, ◌+◌, ◌*◌, ◌/◌, ◌%◌}
use mathlib.Core.Path.{◌≡◌}
use mathlib.Core.Bool.{Bool}
use native.Mathlib.Omega.{arith}
use lib.Dec.{T}
use Rattle.layout.specs.Layout.{most_labels, most_beads, most_states, all_sets, sets_a_state, sets_a_bead}
use Rattle.sets.specs.Sets.{all_below}
use Rattle.sets.proofs.Below.{all_out, all_in}
use Rattle.sets.proofs.Truth.{same}

module _ (f : ℕ → ℕ → ℕ → Bool) where
  abbrev a_state : ℕ → ℕ → Bool
  a_state j q = all_below most_labels (f j q)

  abbrev a_bead : ℕ → Bool
  a_bead j = all_below most_states (a_state j)

  abbrev place : ℕ → Bool
  place i = f (i / sets_a_bead) (i / sets_a_state % most_states) (i % sets_a_state)

  forth : T (all_below most_beads a_bead) → T (all_below all_sets place)
  forth t =
      all_in all_sets place (λ i h.
      all_out most_labels (f (i / sets_a_bead) (i / sets_a_state % most_states)) (all_out most_states (a_state (i / sets_a_bead)) (all_out most_beads a_bead t (i / sets_a_bead) (omega arith)) (i / sets_a_state % most_states) (omega arith))
      (i % sets_a_state) (omega arith))

  back : T (all_below all_sets place) → T (all_below most_beads a_bead)
  back t =
      all_in most_beads a_bead (λ j h. all_in most_states (a_state j) (λ q k. all_in most_labels (f j q) (λ a l.
      let x : (sets_a_bead * j + sets_a_state * q + a) / sets_a_bead ≡ j = omega arith in
      let y : (sets_a_bead * j + sets_a_state * q + a) / sets_a_state % most_states ≡ q = omega arith in
      let z : (sets_a_bead * j + sets_a_state * q + a) % sets_a_state ≡ a = omega arith in
      rw (x, y, z) at (all_out all_sets place t (sets_a_bead * j + sets_a_state * q + a) (omega arith)))))

  pub nested : all_below most_beads a_bead ≡ all_below all_sets place
  nested = same (all_below most_beads a_bead) (all_below all_sets place) forth back
