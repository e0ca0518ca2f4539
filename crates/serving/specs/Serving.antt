-- Which steps serve as the pivot before which, as a pass from candidates finds it out.
use Rattle.std.specs.Prelude.{ℕ, suc, ◌≤◌, ◌<◌, min, ◌≡◌, Bool, ◌&&◌, List, leb, get_or}
use Rattle.lists.specs.Places.{at}
use Rattle.sets.specs.Sets.{overlaps, some_below}
use Rattle.necklace.specs.Dag.{Dag}
use Rattle.necklace.specs.Necklace.{Pattern}
use Rattle.necklace.specs.Compute.{serves?}
use Rattle.layout.specs.Layout.{rule_at, most_lanes}
use Rattle.pattern_buffer.specs.Meaning.{beads_in, pattern_of}
use Rattle.log_buffer.specs.Meaning.{steps_in, log_of}
use Rattle.passes.specs.Passes.{PassOf}
use Rattle.starts.specs.Starts.{Earlier}
use Rattle.starts.specs.declared.Lanes.{Lanes}
use Rattle.starts.specs.declared.Lanes.TheVariants.{Own}
use Rattle.marking.specs.Marking.{found_at}

-- What is asked: candidates from a step on, for the bead k + 1. The marks of the earlier beads are there.
pub record Asked (pattern log labels : List ℕ) (n k from : ℕ) (prefixes : List ℕ) : Type 0 where
  pub pass : PassOf pattern log labels k
  pub bead : k < beads_in pattern
  pub steps_are : n ≡ steps_in log
  pub begin : from < n
  pub earlier : Earlier (log_of log labels) (pattern_of pattern) k (steps_in log) prefixes

-- How starting steps are given lanes: an ALL bead asks each by itself.
pub record LanesFor (pattern : List ℕ) (k : ℕ) (lanes : Lanes) : Type 0 where
  pub all : at pattern (rule_at k) ≡ 2 → lanes ≡ Own

-- Some candidate from `from` on and below `to` serves as the pivot before v.
unfoldable pub serves_in : Dag → Pattern → ℕ → ℕ → ℕ → ℕ → Bool
serves_in G P k from to v = some_below (min to (suc v)) (λ u. leb from u && serves? G P k v u)

-- The steps that are found are those before which some candidate serves.
pub record FoundIn (pattern log labels : List ℕ) (n k from to : ℕ) (found : List ℕ) : Type 0 where
  pub some : from < to
  pub inside : to ≤ n
  pub served : (v : ℕ) → v < n → found_at found v ≡ serves_in (log_of log labels) (pattern_of pattern) k from to v

-- A candidate u serves before p if and only if a lane that begins at u reaches p.
pub record Served (pattern log labels : List ℕ) (n k from to : ℕ) (seeds found : List ℕ) : Type 0 where
  pub some : from < to
  pub inside : to ≤ n
  pub serves : (u p : ℕ) → from ≤ u → u < to → p < n
      → overlaps most_lanes (get_or seeds u 0) (get_or found p 0) ≡ serves? (log_of log labels) (pattern_of pattern) k p u

-- The same, if each candidate has a lane of its own.
pub record ServedIf (lanes : Lanes) (pattern log labels : List ℕ) (n k from to : ℕ) (seeds found : List ℕ) : Type 0 where
  pub each : lanes ≡ Own → Served pattern log labels n k from to seeds found
