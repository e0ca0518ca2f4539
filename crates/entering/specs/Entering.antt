-- A bead of a pattern buffer, and what entering a step does to its states.
use Rattle.std.specs.Prelude.{ℕ, ◌+◌, ◌≤◌, ◌<◌, ◌≡◌, Bool, cond, ◌&&◌, List, ltb, length, get_or}
use Rattle.lists.specs.Places.{at}
use Rattle.sets.specs.Sets.{member, union, some_below}
use Rattle.layout.specs.Layout.{most_beads, most_states, states_at, pattern_length, set_width}

-- A bead that a pattern buffer has.
pub record BeadIn (pattern : List ℕ) (j : ℕ) : Type 0 where
  pub long : pattern_length ≤ length pattern
  pub place : j < most_beads
  pub states : at pattern (states_at j) ≤ most_states

-- The members of some sets of a list: of those whose place from `from` on is a member of the set.
unfoldable pub union_over : ℕ → List ℕ → ℕ → ℕ → Bool
union_over set list from r = some_below set_width (λ q. member q set && member r (get_or list (from + q) 0))

-- What the places of a list get: a set, those that are members of another, and the empty set the others.
unfoldable pub spread_over : ℕ → ℕ → ℕ → ℕ
spread_over set more r = cond (member r set) more 0

-- The first n sets of a list have grown by f 0, f 1, .., f (n - 1), and the others are as they were.
pub record Grown (n : ℕ) (f : ℕ → ℕ) (old new : List ℕ) : Type 0 where
  pub numbers : (r : ℕ) → get_or new r 0 ≡ cond (ltb r n) (union set_width (get_or old r 0) (f r)) (get_or old r 0)
