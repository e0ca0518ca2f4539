-- Which vertices still search for their pivot, by what stands at their places.
use Rattle.std.specs.Prelude.{ℕ, ◌-◌, ◌≤◌, ◌<◌, ◌≡◌, Bool, true, false, List, get_or, Option, Some, None}
use Rattle.layout.specs.Layout.{most_steps}
use Rattle.rows.specs.Rows.{pivot_at}

-- If so, no vertex from `from` on searches for its pivot.
pub record NoneSearch (k from n : ℕ) (pivots : List ℕ) (r : Bool) : Type 0 where
  pub found : r ≡ true → (v : ℕ) → from ≤ v → v < n → get_or pivots (pivot_at k v) 0 ≡ n → ⊥

-- The pivots picked last are steps.
pub record LastsIn (left n : ℕ) (pivots : List ℕ) : Type 0 where
  pub inside : (v : ℕ) → v < n → get_or pivots (pivot_at left v) 0 < most_steps

-- The pivot of v picked last is p.
pub record LastAt (left : ℕ) (pivots : List ℕ) (v p : ℕ) : Type 0 where
  pub is : p ≡ get_or pivots (pivot_at left v) 0
  pub small : p < most_steps

-- If not, the vertex v does not search, or no lane reaches its pivot picked last. If so, it searches.
pub record ServedAt (left n : ℕ) (found pivots : List ℕ) (v : ℕ) (r : Bool) : Type 0 where
  pub no : r ≡ false → get_or pivots (pivot_at (left - 1) v) 0 ≡ n → ◌≡◌ {A = ℕ} (get_or found (get_or pivots (pivot_at left v) 0) 0) 0
  pub yes : r ≡ true → get_or pivots (pivot_at (left - 1) v) 0 ≡ n

-- The vertices from v on and below w have nothing to look for.
pub record NoneLook (left n : ℕ) (found pivots : List ℕ) (v w : ℕ) : Type 0 where
  pub none : (x : ℕ) → v ≤ x → x < w → get_or pivots (pivot_at (left - 1) x) 0 ≡ n → ◌≡◌ {A = ℕ} (get_or found (get_or pivots (pivot_at left x) 0) 0) 0

-- The vertex w is one from v on that searches, and those before it have nothing to look for.
pub record NextAt (left n : ℕ) (found pivots : List ℕ) (v w : ℕ) : Type 0 where
  pub low : v ≤ w
  pub inside : w < n
  pub before : NoneLook left n found pivots v w
  pub search : get_or pivots (pivot_at (left - 1) w) 0 ≡ n

-- The next vertex from v on that has something to look for; where there is none, all of them have nothing.
pub record NextStep (left n : ℕ) (found pivots : List ℕ) (v : ℕ) (r : Option ℕ) : Type 0 where
  pub some : (w : ℕ) → r ≡ Some w → NextAt left n found pivots v w
  pub none : r ≡ None → NoneLook left n found pivots v n
