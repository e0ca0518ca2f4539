-- The refusals of the next sets, which look at all rows.
use Rattle.std.specs.Prelude.{ℕ, ◌+◌, Bool, not, cond, ◌&&◌, List, [], ◌∷◌, eqb}
use Rattle.std.specs.List.{list_all}
use Rattle.layout.specs.Layout.{most_states}
use Rattle.sets.specs.Sets.{within, single}
use Rattle.rules.specs.Rules.{needs_one_next}
use Rattle.pattern_order.specs.StateLine.{StateLine}

-- How many states a bead has: as many as rows speak of it.
unfoldable pub states_of : List StateLine → ℕ → ℕ
states_of [] b = 0
states_of (r ∷ rs) b = cond (eqb r.bead b) 1 0 + states_of rs b

unfoldable pub all_within : ℕ → List ℕ → Bool
all_within n ss = list_all (within n) ss

unfoldable pub all_single : List ℕ → Bool
all_single ss = list_all (single most_states) ss

-- 15: a next set with a state that the bead lacks.
abbrev pub strays : List StateLine → StateLine → Bool
strays rows r = not (all_within (states_of rows r.bead) r.next)

-- 16: in a bead whose rule needs just one next state, a next set without exactly one state.
abbrev pub ambiguous : StateLine → Bool
ambiguous r = needs_one_next r.rule && not (all_single r.next)
