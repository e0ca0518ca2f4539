-- Every vertex has a route from vertex 0.
use Prim.Native.Nat.{ℕ, zero, suc, ◌≤◌, ◌<◌}
use mathlib.Core.Path.{◌≡◌, sym, subst}
use native.Mathlib.Decide.{ℕ_discrete}
use native.Mathlib.Omega.{arith}
use Rattle.necklace.specs.Dag.{Dag, WellFormed, Route}
use Rattle.necklace.proofs.Paths.{route_join, one_edge, no_edge}

module _ {c : ℕ} {G : Dag} (g : WellFormed c G) where
  rooted_to : (d v : ℕ) → v ≤ d → v < G.size → Route G 0 v
  rooted_to zero v l h = let e : 0 ≡ v = omega arith in subst (Route G 0) e no_edge
  rooted_to (suc d) v l h = go (ℕ_discrete v 0) (λ u k i. rooted_to d u k i)
    where
      go : Dec (v ≡ 0) → ((u : ℕ) → u ≤ d → u < G.size → Route G 0 u) → Route G 0 v
      go (yes e) before = subst (Route G 0) (sym e) no_edge
      go (no z) before =
          let p = g.linked v h z in
          let j = g.rising p.0 v p.1 in
          route_join (before p.0 (omega arith) (omega arith)) (one_edge p.1)

  pub rooted : (v : ℕ) → v < G.size → Route G 0 v
  rooted v h = rooted_to v v (omega arith) h
