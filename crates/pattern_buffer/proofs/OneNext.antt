-- The count of ones tells whether an automaton is complete and deterministic: the theorem `one_next`.
use Prim.Native.Nat.{ℕ, ◌^◌, ◌≤◌, ◌<◌}
use mathlib.Core.Path.{◌≡◌, refl, sym, ap, ◌∙◌, subst}
use mathlib.Core.Logic.{◌↔◌, inl}
use mathlib.Core.List.{List, [], ◌∷◌}
use native.Mathlib.Omega.{arith}
use lib.Dec.{T, eqb→eq, eqb_refl}
use lib.Count.{ones}
use lib.ListN.{length}
use lib.Pow.{pow_mono}
use Rattle.lists.specs.Places.{at}
use Rattle.sets.specs.Sets.{members, single}
use Rattle.sets.proofs.Laws.{single_count, single_members, members_out, below_within}
use Rattle.necklace.specs.Automaton.{OneNext}
use Rattle.layout.specs.Layout.{most_labels, most_states, states_at, next_at}
use Rattle.pattern_buffer.specs.Meaning.{labels_in, beads_in, automaton_of}
use Rattle.pattern_buffer.specs.Valid.{is_pattern}
use Rattle.pattern_buffer.proofs.Places.{passes_out, bead_there, next_there}
use Rattle.pattern_buffer.proofs.Nexts.{next_read}

-- ---- a set of states

-- One bit is set if and only if the set's list has one member, which is a state.
one_state : (n s : ℕ) → n ≤ most_states → s < 2 ^ n → ones s ≡ 1 → (r : ℕ) × (r < n) × (members most_states s ≡ r ∷ [])
one_state n s h w e =
    let wide : 2 ^ n ≤ 2 ^ most_states = pow_mono h in
    let o : T (single most_states s) = subst T (single_count most_states s (omega arith)) (rw e (eqb_refl 1)) in
    let m = single_members most_states s o in
    let t = members_out most_states s m.0 (rw m.1 (inl refl)) in
    (m.0, below_within n s w m.0 t.1, m.1)

state_one : (n s r : ℕ) → n ≤ most_states → s < 2 ^ n → members most_states s ≡ r ∷ [] → ones s ≡ 1
state_one n s r h w e =
    let wide : 2 ^ n ≤ 2 ^ most_states = pow_mono h in
    eqb→eq (ones s) 1 (subst T (sym (single_count most_states s (omega arith))) (rw (ap length e) (eqb_refl 1)))

-- ---- a bead

-- Every next set of the bead at place j has one bit set.
abbrev pub AllOne : List ℕ → ℕ → Type 0
AllOne b j = (q a : ℕ) → q < at b (states_at j) → a < labels_in b → ones (at b (next_at j q a)) ≡ 1

-- Under no more than that the buffer has places for the labels, and the next sets only states of the bead.
pub one_next_within : (b : List ℕ) (j : ℕ) → 0 < at b (states_at j) → at b (states_at j) ≤ most_states → labels_in b ≤ most_labels
    → ((q a : ℕ) → q < at b (states_at j) → a < labels_in b → at b (next_at j q a) < 2 ^ at b (states_at j))
    → AllOne b j ↔ OneNext (labels_in b) (automaton_of b j)
one_next_within b j some most few inside = (forth, back)
  where
    read : (q a : ℕ) → q < at b (states_at j) → a < labels_in b → (automaton_of b j).next q a ≡ members most_states (at b (next_at j q a))
    read q a h k = next_read b j q a (omega arith) (omega arith)

    forth : AllOne b j → OneNext (labels_in b) (automaton_of b j)
    forth f = record {
      initial = some;
      one = λ q a h k.
          let r = one_state (at b (states_at j)) (at b (next_at j q a)) most (inside q a h k) (f q a h k) in
          (r.0, r.1, read q a h k ∙ r.2);
    }

    back : OneNext (labels_in b) (automaton_of b j) → AllOne b j
    back o q a h k =
        let r = o.one q a h k in
        state_one (at b (states_at j)) (at b (next_at j q a)) r.0 most (inside q a h k) (sym (read q a h k) ∙ r.2)

-- The count of ones is 1 for every next set of a bead if and only if its automaton is complete and deterministic.
pub one_next : (b : List ℕ) → T (is_pattern b) → (j : ℕ) → j < beads_in b → AllOne b j ↔ OneNext (labels_in b) (automaton_of b j)
one_next b t j h =
    let p = passes_out b t in
    let g = bead_there b p j h in
    one_next_within b j g.some_state g.states_most p.labels_most (λ q a k l. (next_there b p j q a h k l).inside)
