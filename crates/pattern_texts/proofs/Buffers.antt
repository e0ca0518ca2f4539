-- The places of the buffer that rows give, as the parts of a pattern are read from them.
use Prim.Native.Nat.{ℕ, ◌+◌, ◌*◌, ◌/◌, ◌%◌, ◌<◌}
use mathlib.Core.Path.{◌≡◌, ap, ◌∙◌}
use native.Mathlib.Omega.{arith}
use lib.ListN.{length}
use Rattle.lists.specs.Places.{at}
use Rattle.sets.specs.Sets.{set_of}
use Rattle.layout.specs.Layout.{most_beads, most_states, most_labels, sets_a_state, sets_a_bead, sets_begin, rule_at, states_at, accepting_at, next_at, pattern_length}
use Rattle.pattern_store.specs.Next.{states_of}
use Rattle.pattern_store.specs.Format.{Known}
use Rattle.pattern_store.specs.Buffer.{rule_of_bead, accepting_of, next_of, buffer_of}
use Rattle.pattern_store.proofs.BufferLaws.{buffer_holds}

module _ (k : Known) where
  pub length_buffer : length (buffer_of k) ≡ pattern_length
  length_buffer = (buffer_holds k).size

  pub rule_place : (j : ℕ) → j < most_beads → at (buffer_of k) (rule_at j) ≡ rule_of_bead k.rows (j + 1)
  rule_place j h = (buffer_holds k).rules j h

  pub states_place : (j : ℕ) → j < most_beads → at (buffer_of k) (states_at j) ≡ states_of k.rows (j + 1)
  states_place j h = (buffer_holds k).states j h

  pub accepting_place : (j : ℕ) → j < most_beads → at (buffer_of k) (accepting_at j) ≡ set_of most_states (accepting_of k.rows (j + 1))
  accepting_place j h = (buffer_holds k).finals j h

  pub next_place : (j q a : ℕ) → j < most_beads → q < most_states → a < most_labels → at (buffer_of k) (next_at j q a) ≡ next_of k.rows (j + 1) q a
  next_place j q a h l m =
      let i : ℕ = sets_a_bead * j + sets_a_state * q + a in
      let e : next_at j q a ≡ sets_begin + i = omega arith in
      let d : i / sets_a_bead ≡ j = omega arith in
      let s : i / sets_a_state % most_states ≡ q = omega arith in
      let c : i % sets_a_state ≡ a = omega arith in
      ap (at (buffer_of k)) e ∙ (buffer_holds k).nexts i (omega arith) ∙ rw (d, s, c)
