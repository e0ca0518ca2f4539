-- Paths and readings carried from one dag to another by a map of vertices that carries edges and labels. Dags alike in a past and dags that
-- only add are instances.
-- Assumes nothing.
use Prim.Native.Nat.{ℕ}
use mathlib.Core.Path.{◌≡◌}
use mathlib.Core.List.{List, [], ◌∷◌, map}
use Rattle.sets.specs.Sets.{◌∈◌}
use Rattle.necklace.specs.Dag.{Dag, DagPath, here, edge, Route, Reading, done, silent, letter}
use Rattle.necklace.specs.Automaton.{Automaton}
use Rattle.necklace.specs.Necklace.{Some}

-- With a vertex its predecessors are in `In`, and the edges into it are carried; so are its labels, and a bare vertex stays bare.
pub record Carries (π : ℕ → ℕ) (In : ℕ → Type 0) (G H : Dag) : Type 0 where
  pub onward : (u x : ℕ) → In x → u ∈ G.preds x → In u
  pub edges : (u x : ℕ) → In x → u ∈ G.preds x → π u ∈ H.preds (π x)
  pub labels : (x a : ℕ) → In x → a ∈ G.labels x → a ∈ H.labels (π x)
  pub bare : (x : ℕ) → In x → G.labels x ≡ [] → H.labels (π x) ≡ []

module _ {π : ℕ → ℕ} {In : ℕ → Type 0} {G H : Dag} (c : Carries π In G H) where
  path_in : {u v : ℕ} {xs : List ℕ} → In v → DagPath G u xs v → In u
  path_in i here = i
  path_in i (edge {u = u} {x = x} m p) = c.onward u x (path_in i p) m

  pub carry_path : {u v : ℕ} {xs : List ℕ} → In v → DagPath G u xs v → DagPath H (π u) (map π xs) (π v)
  carry_path i here = here
  carry_path i (edge {u = u} {x = x} m p) = edge (c.edges u x (path_in i p) m) (carry_path i p)

  abbrev pub carry_route : {u v : ℕ} → In v → Route G u v → Route H (π u) (π v)
  carry_route i r = record { after = map π r.after; path = carry_path i r.path }

  pub carry_reading : {u v : ℕ} {xs w : List ℕ} → In v → DagPath G u xs v → Reading G xs w → Reading H (map π xs) w
  carry_reading i here done = done
  carry_reading i (edge {x = x} m p) (silent b r) = silent (c.bare x (path_in i p) b) (carry_reading i p r)
  carry_reading i (edge {x = x} m p) (letter {a = a} l r) = letter (c.labels x a (path_in i p) l) (carry_reading i p r)

  pub carry_some : (A : Automaton) (u v : ℕ) → In v → Some G A u v → Some H A (π u) (π v)
  carry_some A u v i s = record {
    route = carry_route i s.route;
    word = s.word;
    reading = carry_reading i s.route.path s.reading;
    accepts = s.accepts;
  }
