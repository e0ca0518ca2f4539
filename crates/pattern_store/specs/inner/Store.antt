-- What storing a row does to a pattern buffer.
use Rattle.std.specs.Prelude.{ℕ, ◌+◌, ◌-◌, ◌≤◌, ◌<◌, cond, List, ◌++◌, eqb, get_or, take, drop, set, Result, Ok, Err}
use Rattle.sets.specs.Sets.{singleton, union}
use Rattle.layout.specs.Layout.{rule_at, states_at, accepting_at, next_at, most_beads, most_states, sets_a_state}
use Rattle.pattern_line.specs.declared.refusals.Refusal.{Refusal}
use Rattle.pattern_row.specs.inner.Answers.{next_sets}
use Rattle.pattern_order.specs.declared.LineValues.{LineValues}

-- The limits of 13, which a row that passed it keeps.
pub record Storable (v : LineValues) : Type 0 where
  pub bead_low : 1 ≤ v.bead
  pub bead_high : v.bead ≤ most_beads
  pub state_high : v.state < most_states

-- A final set with the state that the values speak of, if they call it final.
abbrev pub accepting_with : ℕ → LineValues → ℕ
accepting_with s v = cond (eqb v.accepting 1) (union most_states s (singleton v.state)) s

-- The bead's place.
abbrev pub bead_at : LineValues → ℕ
bead_at v = v.bead - 1

-- The numbers of the values but the next sets: rows come in order, so the bead and the state tell the counts.
unfoldable pub stored_values : List ℕ → LineValues → List ℕ
stored_values b v =
    set (set (set (set b 1 v.bead) (rule_at (bead_at v)) v.rule) (states_at (bead_at v)) (v.state + 1))
    (accepting_at (bead_at v)) (accepting_with (get_or b (accepting_at (bead_at v)) 0) v)

-- Then the next sets, from their place on.
unfoldable pub stored : List ℕ → LineValues → List ℕ → List ℕ
stored b v next =
    take (next_at (bead_at v) v.state 0) (stored_values b v) ++ (next ++ drop (next_at (bead_at v) v.state 0 + sets_a_state) (stored_values b v))

-- What a line's answer leaves: the row stored with its next sets, or all as it was.
abbrev pub row_stored : List ℕ → Result LineValues Refusal → List (List ℕ) → List ℕ
row_stored b (Ok v) fs = stored b v (next_sets fs)
row_stored b (Err r) fs = b
