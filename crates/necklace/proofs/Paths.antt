-- Paths, routes and readings: a path rises, paths are joined, and every path has a reading.
use Prim.Native.Nat.{ℕ, ◌≤◌, ◌<◌}
use mathlib.Core.Path.{◌≡◌, refl}
use mathlib.Core.Logic.{inl}
use mathlib.Core.List.{List, [], ◌∷◌, ◌++◌}
use native.Mathlib.Omega.{arith}
use Rattle.sets.specs.Sets.{◌∈◌}
use Rattle.necklace.specs.Dag.{Dag, WellFormed, DagPath, here, edge, Route, entered, Reading, done, silent, letter}
use Rattle.necklace.specs.Automaton.{Run, stay}

module _ {c : ℕ} {G : Dag} (g : WellFormed c G) where
  pub path_le : {u v : ℕ} {xs : List ℕ} → DagPath G u xs v → u ≤ v
  path_le here = omega arith
  path_le (edge {u = u} {x = x} m p) = let h = g.rising u x m in let k = path_le p in omega arith

  -- a route never falls
  pub route_le : {u v : ℕ} → Route G u v → u ≤ v
  route_le r = path_le r.path

  -- the one route from a vertex to itself enters nothing
  pub nothing_entered : {u : ℕ} (r : Route G u u) → entered r ≡ []
  nothing_entered {u} r = go r.path (omega arith)
    where
      go : {x v : ℕ} {xs : List ℕ} → DagPath G x xs v → v ≤ x → xs ≡ []
      go here l = refl
      go (edge {u = y} {x = x} m p) l = let h = g.rising y x m in let k = path_le p in absurd (omega arith)

  pub path_inside : {u v : ℕ} {xs : List ℕ} → u < G.size → DagPath G u xs v → v < G.size
  path_inside h here = h
  path_inside h (edge {u = u} {x = x} m p) = path_inside (g.edges_inside u x m) p

  -- a route from a vertex of the dag ends at one
  pub route_inside : {u v : ℕ} → u < G.size → Route G u v → v < G.size
  route_inside h r = path_inside h r.path

-- a path, a reading and a run of nothing
pub nothing : {G : Dag} {δ : ℕ → ℕ → List ℕ} {u v q r : ℕ} {w : List ℕ} → DagPath G u [] v → Reading G [] w → Run δ q w r → (u ≡ v) × (q ≡ r)
nothing here done stay = (refl, refl)

pub path_join : {G : Dag} {x y z : ℕ} {xs ys : List ℕ} → DagPath G x xs y → DagPath G y ys z → DagPath G x (xs ++ ys) z
path_join here q = q
path_join (edge m p) q = edge m (path_join p q)

pub route_join : {G : Dag} {x y z : ℕ} → Route G x y → Route G y z → Route G x z
route_join r s = record { after = r.after ++ s.after; path = path_join r.path s.path }

pub one_edge : {G : Dag} {x y : ℕ} → x ∈ G.preds y → Route G x y
one_edge {y = y} m = record { after = y ∷ []; path = edge m here }

-- every vertex has a route to itself
abbrev pub no_edge : {G : Dag} {u : ℕ} → Route G u u
no_edge = record { after = []; path = here }

-- every list of vertices has a reading
pub some_reading : (G : Dag) (xs : List ℕ) → (w : List ℕ) × Reading G xs w
some_reading G [] = ([], done)
some_reading G (x ∷ xs) = go (G.labels x) refl (some_reading G xs)
  where
    go : (ls : List ℕ) → G.labels x ≡ ls → (w : List ℕ) × Reading G xs w → (w : List ℕ) × Reading G (x ∷ xs) w
    go [] e r = (r.0, silent e r.1)
    go (a ∷ ls) e r = (a ∷ r.0, letter {x = x} {a = a} (rw e (inl refl)) r.1)
