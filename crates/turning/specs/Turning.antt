-- The turn of a step in sixteen forward passes: what arrives there, and what begins there.
use Rattle.std.specs.Prelude.{ℕ, ◌<◌, ◌≡◌, ◌&&◌, ◌||◌, List, eqb, get_or}
use Rattle.sets.specs.Sets.{member, some_below}
use Rattle.necklace.specs.Dag.{Dag}
use Rattle.necklace.specs.Automaton.{Automaton}
use Rattle.necklace.specs.inner.Forward.{reached, arrives}
use Rattle.layout.specs.Layout.{most_states, most_lanes}
use Rattle.lanes.specs.Lanes.{work_at, lane_in}

-- For each state the lanes that entering a step with these labels brings there, from the states below n.
pub record EnteredTo (A : Automaton) (labels : List ℕ) (n : ℕ) (here next : List ℕ) : Type 0 where
  pub lanes : (i r : ℕ) → i < most_lanes → r < most_states → member i (get_or next r 0)
      ≡ some_below n (λ q. member i (get_or here q 0) && reached A labels q r)

-- For each state the lanes that arrive at x.
pub record Arrived (G : Dag) (A : Automaton) (work : List ℕ) (first x : ℕ) (here : List ℕ) : Type 0 where
  pub lanes : (i r : ℕ) → i < most_lanes → r < most_states → member i (get_or here r 0) ≡ arrives G A (lane_in work first i) x r

-- After the turn of x: the lanes that arrive there; those that begin there are in state 0 besides.
pub record Turned (G : Dag) (A : Automaton) (first begin x : ℕ) (old new : List ℕ) : Type 0 where
  pub own : (i r : ℕ) → i < most_lanes → r < most_states → member i (get_or new (work_at x r) 0)
      ≡ ((member i begin && eqb r 0) || arrives G A (lane_in old first i) x r)
  pub others : (w q : ℕ) → q < most_states → (w ≡ x → ⊥) → get_or new (work_at w q) 0 ≡ get_or old (work_at w q) 0
