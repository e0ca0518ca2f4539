-- Labelled dags, their paths, and what a path reads (RR-2838, section 2.1; labels stand on vertices, as its footnote has it).
use Rattle.std.specs.Prelude.{ℕ, ◌<◌, ◌≡◌, ◌≢◌, List, [], ◌∷◌}
use Rattle.sets.specs.Sets.{◌∈◌}

-- A labelled dag (document 01: a log). Vertices (steps) are 0 to size - 1; vertex 0 is the fictitious start.
-- The labels of a vertex, and its predecessors: the vertices from which edges (links) lead into it.
pub record Dag : Type 0 where
  pub size : ℕ
  pub labels : ℕ → List ℕ
  pub preds : ℕ → List ℕ

-- A dag over c labels is well formed: vertex 0 is there and has neither labels nor predecessors; every other vertex has a
-- predecessor, and each is a smaller number; labels are below c; a number past the vertices has no labels and no predecessors.
pub record WellFormed (c : ℕ) (G : Dag) : Type 0 where
  pub started : 0 < G.size
  pub start_bare : G.labels 0 ≡ []
  pub start_first : G.preds 0 ≡ []
  pub linked : (v : ℕ) → v < G.size → v ≢ 0 → (u : ℕ) × (u ∈ G.preds v)
  pub rising : (u v : ℕ) → u ∈ G.preds v → u < v
  pub known : (v a : ℕ) → a ∈ G.labels v → a < c
  pub edges_inside : (u v : ℕ) → u ∈ G.preds v → v < G.size
  pub labels_inside : (v a : ℕ) → a ∈ G.labels v → v < G.size

-- A path from u to v, given by the vertices after u.
pub data DagPath (G : Dag) : ℕ → List ℕ → ℕ → Type 0 where
  here : {u : ℕ} → DagPath G u [] u
  edge : {u x v : ℕ} {xs : List ℕ} → u ∈ G.preds x → DagPath G x xs v → DagPath G u (x ∷ xs) v

-- A path of any length (document 01: a route). A vertex has one route to itself, with no edge (document 02, ask 3).
pub record Route (G : Dag) (u v : ℕ) : Type 0 where
  pub after : List ℕ
  pub path : DagPath G u after v

-- The vertices of a route after its first: those whose labels are read.
abbrev pub entered : {G : Dag} {u v : ℕ} → Route G u v → List ℕ
entered r = r.after

-- A reading of vertices (RR-2838: a labelling of a path): exactly one label from each that has labels, and from a vertex
-- without labels nothing, the empty letter.
pub data Reading (G : Dag) : List ℕ → List ℕ → Type 0 where
  done : Reading G [] []
  silent : {x : ℕ} {xs w : List ℕ} → G.labels x ≡ [] → Reading G xs w → Reading G (x ∷ xs) w
  letter : {x a : ℕ} {xs w : List ℕ} → a ∈ G.labels x → Reading G xs w → Reading G (x ∷ xs) (a ∷ w)
