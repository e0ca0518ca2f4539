-- The past of a vertex, logs alike in it, and logs that only add (document 01, "Words, routes, necklaces").
use Rattle.std.specs.Prelude.{ℕ, ◌<◌, ◌≡◌, ◌⊎◌, ◌↔◌, List, []}
use Rattle.sets.specs.Sets.{◌∈◌}
use Rattle.necklace.specs.Dag.{Dag, Route}

-- The past of v: v and every vertex with a route to v.
abbrev pub Past : Dag → ℕ → ℕ → Type 0
Past G v x = (x ≡ v) ⊎ Route G x v

-- Two lists with the same members.
abbrev pub SameMembers : List ℕ → List ℕ → Type 0
SameMembers xs ys = (x : ℕ) → (x ∈ xs) ↔ (x ∈ ys)

-- Two dags are alike in the past of v: both have v, and its past is the same in both, with the edges into it and its labels.
pub record Alike (G H : Dag) (v : ℕ) : Type 0 where
  pub left : v < G.size
  pub right : v < H.size
  pub vertices : (x : ℕ) → Past G v x ↔ Past H v x
  pub edges : (x : ℕ) → Past G v x → SameMembers (G.preds x) (H.preds x)
  pub labels : (x : ℕ) → Past G v x → SameMembers (G.labels x) (H.labels x)

-- H only adds to G: as many vertices, every edge and every label of G, and a vertex without labels in G has none in H.
pub record OnlyAdds (G H : Dag) : Type 0 where
  pub size : H.size ≡ G.size
  pub edges : (u x : ℕ) → u ∈ G.preds x → u ∈ H.preds x
  pub labels : (x a : ℕ) → a ∈ G.labels x → a ∈ H.labels x
  pub bare_stays : (x : ℕ) → G.labels x ≡ [] → H.labels x ≡ []
