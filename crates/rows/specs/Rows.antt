-- A row as it is put together from the judge's arrays: the set of prefixes of a vertex, and the pivots, 1,024 places a bead.
use Rattle.std.specs.Prelude.{ℕ, zero, suc, ◌+◌, ◌-◌, ◌*◌, Bool, cond, ◌&&◌, List, [], ◌++◌, leb, get_or}
use Rattle.lists.specs.Tables.{table}
use Rattle.sets.specs.Sets.{member}
use Rattle.layout.specs.Layout.{most_steps, row_length}

-- The place of the pivot of the first k beads of the vertex v.
abbrev pub pivot_at : ℕ → ℕ → ℕ
pivot_at k v = most_steps * k + v

-- The numbers of a row: the set of prefixes; then, where the last bead's bit is in it, the pivots p 0 to p beads; else zeros.
abbrev pub pivot_or : ℕ → Bool → ℕ → ℕ → List ℕ → ℕ
pivot_or beads whole k v pivots = cond (whole && leb k beads) (get_or pivots (pivot_at k v) 0) 0

abbrev pub row_place : ℕ → ℕ → ℕ → List ℕ → ℕ → ℕ
row_place beads v prefixes pivots zero = prefixes
row_place beads v prefixes pivots (suc k) = pivot_or beads (member (beads - 1) prefixes) k v pivots

abbrev pub row_from : ℕ → ℕ → ℕ → List ℕ → List ℕ
row_from beads v prefixes pivots = table (row_place beads v prefixes pivots) row_length

-- The rows of the vertices below n.
unfoldable pub rows_from : ℕ → List ℕ → List ℕ → ℕ → List ℕ
rows_from beads prefixes pivots zero = []
rows_from beads prefixes pivots (suc v) = rows_from beads prefixes pivots v ++ row_from beads v (get_or prefixes v 0) pivots

-- How many of them have the last bead's bit.
unfoldable pub whole_from : ℕ → List ℕ → ℕ → ℕ
whole_from beads prefixes zero = 0
whole_from beads prefixes (suc v) = whole_from beads prefixes v + cond (member (beads - 1) (get_or prefixes v 0)) 1 0
