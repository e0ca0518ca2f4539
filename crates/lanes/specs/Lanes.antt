-- Sixteen forward passes at once, a lane each: for each step and state the set of the lanes that are in that state there.
use Rattle.std.specs.Prelude.{ℕ, ◌+◌, ◌*◌, ◌<◌, ◌≡◌, Bool, ◌&&◌, ◌||◌, List, leb, get_or}
use Rattle.sets.specs.Sets.{member}
use Rattle.necklace.specs.Compute.{some_of}
use Rattle.layout.specs.Layout.{most_states, most_lanes}

-- The work buffer (document 01, "Lent rooms": the work room): for each step as many numbers as there are states.
abbrev pub work_at : ℕ → ℕ → ℕ
work_at x q = most_states * x + q

-- The lane i is in the state q at the step w. The buffer holds the steps from the first one on; before it no lane has begun.
unfoldable pub lane_in : List ℕ → ℕ → ℕ → ℕ → ℕ → Bool
lane_in work first i w q = leb first w && member i (get_or work (work_at w q) 0)

-- The lanes of w in a state.
unfoldable pub lanes_at : List ℕ → ℕ → ℕ → ℕ
lanes_at work w q = get_or work (work_at w q) 0

-- For each state the lanes of the listed steps.
pub record Gathered (work : List ℕ) (first : ℕ) (links here : List ℕ) : Type 0 where
  pub lanes : (i q : ℕ) → i < most_lanes → q < most_states → member i (get_or here q 0) ≡ some_of (λ w. lane_in work first i w q) links

-- The first n places of x have the numbers of a list, and those of other steps are as they were.
pub record PutTo (n x : ℕ) (here old new : List ℕ) : Type 0 where
  pub own : (q : ℕ) → q < n → get_or new (work_at x q) 0 ≡ get_or here q 0
  pub others : (w q : ℕ) → q < most_states → (w ≡ x → ⊥) → get_or new (work_at w q) 0 ≡ get_or old (work_at w q) 0

-- The lanes that begin at x are added to its state 0, and nothing else is.
pub record BegunAt (x begin : ℕ) (old new : List ℕ) : Type 0 where
  pub own : (i : ℕ) → i < most_lanes → member i (get_or new (most_states * x) 0) ≡ (member i (get_or old (most_states * x) 0) || member i begin)
  pub others : (y : ℕ) → (y ≡ most_states * x → ⊥) → get_or new y 0 ≡ get_or old y 0
