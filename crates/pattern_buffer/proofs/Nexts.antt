-- The next states of a bead's automaton: a next set of the buffer, and none past the states and labels that it has places for.
use Prim.Native.Nat.{ℕ, ◌<◌}
use mathlib.Core.Path.{◌≡◌, refl}
use mathlib.Core.Bool.{Bool, true, false}
use mathlib.Core.List.{List}
use borrow.Author.Tests.{lt-ltb, ltb-true}
use lib.Dec.{ltb}
use Rattle.lists.specs.Places.{at}
use Rattle.sets.specs.Sets.{◌∈◌, members}
use Rattle.layout.specs.Layout.{most_labels, most_states, next_at}
use Rattle.pattern_buffer.specs.Meaning.{automaton_of}

module _ (b : List ℕ) (j q a : ℕ) where
  pub next_read : q < most_states → a < most_labels → (automaton_of b j).next q a ≡ members most_states (at b (next_at j q a))
  next_read h k = rw (lt-ltb q most_states h, lt-ltb a most_labels k) refl

  -- what has a next state stands inside
  pub next_inside : (r : ℕ) → r ∈ (automaton_of b j).next q a → (q < most_states) × (a < most_labels) × (r ∈ members most_states (at b (next_at j q a)))
  next_inside r m = go (ltb q most_states) refl (ltb a most_labels) refl
    where
      go : (s : Bool) → ltb q most_states ≡ s → (t : Bool) → ltb a most_labels ≡ t
          → (q < most_states) × (a < most_labels) × (r ∈ members most_states (at b (next_at j q a)))
      go true e true d = (ltb-true q most_states e, ltb-true a most_labels d, rw (e, d) at m)
      go true e false d = absurd (rw (e, d) at m)
      go false e t d = absurd (rw e at m)
