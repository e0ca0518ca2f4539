-- Sixteen forward passes, step after step: where their lanes begin, which lanes are in which states, which of them reach a step, and how
-- far to go.
use Rattle.std.specs.Prelude.{ℕ, ◌+◌, ◌≤◌, ◌<◌, ◌≡◌, Bool, cond, ◌&&◌, List, T, ltb, leb, get_or}
use Rattle.sets.specs.Sets.{member, set_of}
use Rattle.necklace.specs.inner.Forward.{forward, among?, reaches?}
use Rattle.layout.specs.Layout.{most_states, most_lanes}
use Rattle.pattern_buffer.specs.Meaning.{automaton_of, pattern_of}
use Rattle.log_buffer.specs.Meaning.{steps_in, log_of}
use Rattle.lanes.specs.Lanes.{work_at}

-- The steps at which the lane i begins: of those from `first` on and below `until`.
unfoldable pub starts_in : List ℕ → ℕ → ℕ → ℕ → ℕ → Bool
starts_in seeds first until i u = leb first u && (ltb u until && member i (get_or seeds u 0))

-- The bead k + 1 reaches v from the starting vertices.
unfoldable pub bead_reaches : List ℕ → List ℕ → List ℕ → ℕ → (ℕ → Bool) → ℕ → Bool
bead_reaches pattern log labels k starts v = reaches? ((pattern_of pattern).bead k).modality (log_of log labels) (automaton_of pattern k) starts v

-- The lanes that reach v.
unfoldable pub lane_reaches : List ℕ → List ℕ → List ℕ → ℕ → List ℕ → ℕ → ℕ → ℕ → ℕ → Bool
lane_reaches pattern log labels k seeds first until v i = bead_reaches pattern log labels k (starts_in seeds first until i) v

-- The lanes that are at v in a state of the set and, under ALL, in no other of the bead's.
unfoldable pub lane_among : List ℕ → List ℕ → List ℕ → ℕ → ℕ → List ℕ → ℕ → ℕ → ℕ → ℕ → Bool
lane_among pattern log labels k set seeds first until v i =
    among? ((pattern_of pattern).bead k).modality (log_of log labels) (automaton_of pattern k) (λ q. member q set) (starts_in seeds first until i) v

-- ---- step after step

-- The lanes that begin at x.
unfoldable pub beginning_at : List ℕ → ℕ → ℕ → ℕ
beginning_at seeds until x = cond (ltb x until) (get_or seeds x 0) 0

-- The lanes of the steps from `first` on and below x are those of the forward passes.
pub record Held (pattern log labels : List ℕ) (k : ℕ) (seeds : List ℕ) (first until x : ℕ) (work : List ℕ) : Type 0 where
  pub begun : first ≤ x
  pub lanes : (i w r : ℕ) → i < most_lanes → r < most_states → first ≤ w → w < x
      → member i (get_or work (work_at w r) 0) ≡ forward (log_of log labels) (automaton_of pattern k) (starts_in seeds first until i) w r

-- For each step below x the lanes that reach it are found, and none yet for the others.
pub record FoundTo (pattern log labels : List ℕ) (k : ℕ) (seeds : List ℕ) (first until x : ℕ) (found : List ℕ) : Type 0 where
  pub lanes : (v : ℕ) → v < x → get_or found v 0 ≡ set_of most_lanes (lane_reaches pattern log labels k seeds first until v)
  pub rest : (v : ℕ) → x ≤ v → ◌≡◌ {A = ℕ} (get_or found v 0) 0

-- A lane is alive at a step if it is in a hopeful state there and, under ALL, in no state of the bead beyond hope. No link leads past
-- `reach` from a step below x at which a lane is alive; nor does a lane begin past it.
pub record Bounded (pattern log labels : List ℕ) (k hopeful : ℕ) (seeds : List ℕ) (first until : ℕ) (last : List ℕ) (x reach : ℕ) : Type 0 where
  pub inside : reach < steps_in log
  pub starts : until ≤ reach + 1
  pub far : (i w : ℕ) → i < most_lanes → w < x → T (lane_among pattern log labels k hopeful seeds first until w i) → get_or last w 0 ≤ reach
