-- The lanes that are, at a step, in states of a set.
use Rattle.std.specs.Prelude.{ℕ, Bool, cond, not, ◌&&◌, List, eqb, get_or}
use Rattle.lists.specs.Places.{at}
use Rattle.sets.specs.Sets.{member, complement, some_below}
use Rattle.layout.specs.Layout.{rule_at, states_at, most_states}
use Rattle.lanes.specs.Lanes.{work_at}

-- The lane is in some state of the set at x.
unfoldable pub lane_with : List ℕ → ℕ → ℕ → ℕ → Bool
lane_with work x states i = some_below most_states (λ q. member q states && member i (get_or work (work_at x q) 0))

-- The same and, under ALL, in no other state of the bead.
unfoldable pub lane_holds : List ℕ → ℕ → ℕ → List ℕ → ℕ → ℕ → Bool
lane_holds pattern k set work x i =
    cond (eqb (at pattern (rule_at k)) 2) (lane_with work x set i && not (lane_with work x (complement (at pattern (states_at k)) set) i)) (lane_with work x set i)
