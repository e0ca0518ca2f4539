-- What the judge's first phase has done after a while: bead by bead and, for each bead, candidates upwards.
use Rattle.std.specs.Prelude.{ℕ, suc, ◌-◌, ◌*◌, ◌≤◌, ◌<◌, min, ◌≡◌, List, T, get_or}
use Rattle.sets.specs.Sets.{member, some_below}
use Rattle.necklace.specs.Dag.{Dag}
use Rattle.necklace.specs.Necklace.{Pattern}
use Rattle.necklace.specs.Compute.{serves?, prefixes}
use Rattle.layout.specs.Layout.{set_width}
use Rattle.pattern_buffer.specs.Meaning.{labels_in, pattern_of}
use Rattle.pattern_buffer.specs.Valid.{is_pattern}
use Rattle.log_buffer.specs.Meaning.{log_of, label_sets}
use Rattle.log_buffer.specs.Valid.{is_log}
use Rattle.marking.specs.Marking.{Added}
use Rattle.serving.specs.Serving.{serves_in}

-- Both buffers passed their tests, and the label sets are the log buffer's own.
pub record Tested (pattern log labels : List ℕ) : Type 0 where
  pub pattern_passes : T (is_pattern pattern)
  pub log_passes : T (is_log (labels_in pattern) log)
  pub labels_are : labels ≡ label_sets log

-- No prefix is marked.
pub record Unmarked (prefixes : List ℕ) : Type 0 where
  pub none : (v : ℕ) → ◌≡◌ {A = ℕ} (get_or prefixes v 0) 0

-- The prefixes, upwards: at the turn i = k * n + u, the candidates below u having been looked at for the bead k + 1, and all for the beads
-- before it, a vertex v has the bead in its set if one that was looked at, up to v, serves as the pivot before v.
pub record MarkedUpTo (G : Dag) (P : Pattern) (n i : ℕ) (prefixes : List ℕ) : Type 0 where
  pub few : (v : ℕ) → get_or prefixes v 0 < 65536
  pub marks : (k v : ℕ) → k < set_width → v < n → member k (get_or prefixes v 0) ≡ some_below (min (i - k * n) (suc v)) (serves? G P k v)

-- What a turn has done: candidates from `from` on and below `to` have been looked at, and the bead is marked where one of them serves.
pub record TurnMade (pattern log labels : List ℕ) (n k from to : ℕ) (old new : List ℕ) : Type 0 where
  pub some : from < to
  pub inside : to ≤ n
  pub added : Added (serves_in (log_of log labels) (pattern_of pattern) k from to) k from n old new

-- After all turns: the set of prefixes of each vertex.
pub record PrefixesMarked (G : Dag) (P : Pattern) (n : ℕ) (sets : List ℕ) : Type 0 where
  pub marked : (v : ℕ) → v < n → get_or sets v 0 ≡ prefixes G P v
