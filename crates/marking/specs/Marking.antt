-- What is marked of the steps that are found.
use Rattle.std.specs.Prelude.{ℕ, ◌≤◌, ◌<◌, ◌≡◌, Bool, true, cond, not, ◌&&◌, ◌||◌, List, eqb, ltb, leb, get_or, set}
use Rattle.sets.specs.Sets.{member, singleton, union}
use Rattle.layout.specs.Layout.{set_width}

-- Some lane is in the set of v.
unfoldable pub found_at : List ℕ → ℕ → Bool
found_at found v = not (eqb (get_or found v 0) 0)

-- The bead k is added to the set of the vertex v, if so.
unfoldable pub marked_if : Bool → ℕ → ℕ → List ℕ → List ℕ
marked_if b k v prefixes = cond b (set prefixes v (union set_width (get_or prefixes v 0) (singleton k))) prefixes

-- The bead k is added to the set of each vertex from u on and below m that passes a test, and nothing else is.
pub record Added (f : ℕ → Bool) (k u m : ℕ) (old new : List ℕ) : Type 0 where
  pub few : ((v : ℕ) → get_or old v 0 < 65536) → (v : ℕ) → get_or new v 0 < 65536
  pub sets : (j v : ℕ) → j < set_width → member j (get_or new v 0) ≡ (member j (get_or old v 0) || (eqb j k && (leb u v && (ltb v m && f v))))

-- If so, each vertex from u on and below m has the bead k in its set.
pub record AllMarked (k u m : ℕ) (prefixes : List ℕ) (r : Bool) : Type 0 where
  pub marked : r ≡ true → (v : ℕ) → u ≤ v → v < m → member k (get_or prefixes v 0) ≡ true
