-- The states of a bead from which an accepting state can be reached.
use Rattle.std.specs.Prelude.{ℕ, ◌≤◌, ◌<◌, Bool, List, T, length, get_or}
use Rattle.lists.specs.Places.{at}
use Rattle.sets.specs.Sets.{member, set_of, some_below, overlaps}
use Rattle.necklace.specs.inner.Forward.{Hopeful}
use Rattle.layout.specs.Layout.{most_beads, next_at, pattern_length, most_labels, most_states}
use Rattle.pattern_buffer.specs.Meaning.{automaton_of, beads_in}
use Rattle.entering.specs.Entering.{BeadIn}

-- A set of states of the bead j that has every hopeful one.
pub record HopefulSet (pattern : List ℕ) (j set : ℕ) : Type 0 where
  pub states : Hopeful (automaton_of pattern j) (λ q. member q set)

-- The same for each bead of a pattern.
pub record Hopes (pattern hopes : List ℕ) : Type 0 where
  pub sets : (j : ℕ) → j < beads_in pattern → HopefulSet pattern j (get_or hopes j 0)

-- A pattern buffer that has each of its beads.
pub record AllBeads (pattern : List ℕ) : Type 0 where
  pub long : pattern_length ≤ length pattern
  pub few : beads_in pattern ≤ most_beads
  pub beads : (j : ℕ) → j < beads_in pattern → BeadIn pattern j

-- ---- how they are found

-- Some label below n leads from the state q to r.
unfoldable pub leads_by : List ℕ → ℕ → ℕ → ℕ → ℕ → Bool
leads_by pattern j q n r = some_below n (λ a. member r (at pattern (next_at j q a)))

-- All next states of q.
unfoldable pub onward_from : List ℕ → ℕ → ℕ → ℕ
onward_from pattern j q = set_of most_states (leads_by pattern j q most_labels)

-- The state q has a next state in the set. `onwards`: the next states of each state.
abbrev pub leads_into : List ℕ → ℕ → ℕ → Bool
leads_into onwards set q = overlaps most_states (get_or onwards q 0) set

-- Every state of s is in t.
pub record Has (s t : ℕ) : Type 0 where
  pub states : (q : ℕ) → q < most_states → T (member q s) → T (member q t)

-- A set with all states of s, and with each state that has a next state in it.
pub record Closed (onwards : List ℕ) (s set : ℕ) : Type 0 where
  pub first : Has s set
  pub before : (q r : ℕ) → q < most_states → r < most_states → T (member r (get_or onwards q 0)) → T (member r set) → T (member q set)
