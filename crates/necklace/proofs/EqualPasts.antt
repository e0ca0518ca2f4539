-- The row of a vertex depends on its past alone: two dags alike in the past of v have the same row at v, under any pattern.
use Prim.Native.Nat.{ℕ, zero, suc}
use mathlib.Core.Path.{◌≡◌, refl, sym, ap, ◌∙◌, subst, fun_ext}
use mathlib.Core.Logic.{inl, inr, ◌↔◌}
use mathlib.Core.Bool.{Bool, true, false}
use mathlib.Core.List.{List, [], ◌∷◌, ◌++◌}
use lib.Dec.{T}
use Rattle.sets.proofs.Agree.{no_members}
use Rattle.sets.specs.Sets.{◌∈◌, set_of}
use Rattle.sets.proofs.Truth.{and_i, and_l, and_r, same}
use Rattle.sets.proofs.Laws.{some_below_out, some_below_in}
use Rattle.necklace.specs.Dag.{Dag, WellFormed, here, edge, Route}
use Rattle.necklace.specs.Automaton.{Automaton, exchange}
use Rattle.necklace.specs.Necklace.{Some, Modality, SOME, ALL, Pattern}
use Rattle.necklace.specs.Past.{Past, Alike}
use Rattle.necklace.specs.Compute.{some?, all?, satisfies_by?, satisfies?, holds?, serves?, seek, before, pivots, prefixes, row}
use Rattle.necklace.proofs.Paths.{route_join}
use Rattle.necklace.proofs.Carry.{Carries, carry_route, carry_some}
use Rattle.necklace.proofs.Modalities.{some_agrees, satisfies?-route}
use Rattle.necklace.proofs.Prefixes.{before_first, before_holds}

-- Every vertex of the past of v in G has the same predecessors and labels in H.
record Half (G H : Dag) (v : ℕ) : Type 0 where
  edges : (x u : ℕ) → Past G v x → (u ∈ G.preds x) ↔ (u ∈ H.preds x)
  labels : (x a : ℕ) → Past G v x → (a ∈ G.labels x) ↔ (a ∈ H.labels x)

abbrev Halves : Dag → Dag → ℕ → Type 0
Halves G H v = Half G H v × Half H G v

turn : {G H : Dag} {v : ℕ} → Halves G H v → Halves H G v
turn h = (h.1, h.0)

halves : {G H : Dag} {v : ℕ} → Alike G H v → Halves G H v
halves a = (
  record { edges = λ x u p. a.edges x p u; labels = λ x l p. a.labels x p l },
  record {
    edges = λ x u p. let e = a.edges x ((a.vertices x).1 p) u in (e.1, e.0);
    labels = λ x l p. let e = a.labels x ((a.vertices x).1 p) l in (e.1, e.0);
  },
)

-- the past of a vertex of the past
past_trans : {G : Dag} {x y z : ℕ} → Past G y x → Past G z y → Past G z x
past_trans {G} {x} {y} {z} (inl e) q = rw e q
past_trans {G} {x} {y} {z} (inr r) (inl e) = rw (← e) (inr r)
past_trans {G} {x} {y} {z} (inr r) (inr s) = inr (route_join r s)

narrow : {G H : Dag} {u v : ℕ} → Past G v u → Half G H v → Half G H u
narrow p h = record { edges = λ x u q. h.edges x u (past_trans q p); labels = λ x a q. h.labels x a (past_trans q p) }

-- with a vertex its predecessors are in the past
past_onward : {G : Dag} (v u x : ℕ) → Past G v x → u ∈ G.preds x → Past G v u
past_onward {G} v u x (inl e) m = inr (subst (λ (y : ℕ). Route G u y) e (record { after = x ∷ []; path = edge m here }))
past_onward {G} v u x (inr r) m = inr (record { after = x ∷ r.after; path = edge m r.path })

-- each vertex of the past is carried to itself
carried : {G H : Dag} {v : ℕ} → Half G H v → Carries (λ x. x) (Past G v) G H
carried {G} {H} {v} h = record {
  onward = past_onward v;
  edges = λ u x p m. (h.edges x u p).0 m;
  labels = λ x a p m. (h.labels x a p).0 m;
  bare = λ x p b. no_members (H.labels x) (λ a n. subst (λ (l : List ℕ). a ∈ l) b ((h.labels x a p).1 n));
}

move_route : {G H : Dag} {u v : ℕ} → Half G H v → Route G u v → Route H u v
move_route h r = carry_route (carried h) (inl refl) r

move_some : {G H : Dag} (A : Automaton) (u v : ℕ) → Half G H v → Some G A u v → Some H A u v
move_some A u v h s = carry_some (carried h) A u v (inl refl) s

module _ {c d : ℕ} {G H : Dag} (g : WellFormed c G) (k : WellFormed d H) where
  some_same : (A : Automaton) (u v : ℕ) → Halves G H v → some? G A u v ≡ some? H A u v
  some_same A u v h = same (some? G A u v) (some? H A u v)
      (λ t. (some_agrees k A u v).1 (move_some A u v h.0 ((some_agrees g A u v).0 t)))
      (λ t. (some_agrees g A u v).1 (move_some A u v h.1 ((some_agrees k A u v).0 t)))

  satisfies_same : (m : Modality) (A : Automaton) (u v : ℕ) → Halves G H v → satisfies_by? m G A u v ≡ satisfies_by? m H A u v
  unfolding all?
  satisfies_same SOME A u v h = some_same A u v h
  satisfies_same ALL A u v h = rw (some_same A u v h, some_same (exchange A) u v h)

  module _ (P : Pattern) where
    -- the dags are alike in the past of u too, where a bead leads from u to v
    within : (j u v : ℕ) → Halves G H v → T (satisfies? G (P.bead j) u v) → Halves G H u
    within j u v h t =
        let r = satisfies?-route g (P.bead j) u v t in
        (narrow (inr r) h.0, narrow (inr (move_route h.0 r)) h.1)

    serves_goes : (j v u : ℕ) → Halves G H v → (Halves G H u → T (holds? G P j u) → T (holds? H P j u)) → T (serves? G P j v u) → T (serves? H P j v u)
    serves_goes j v u h f t =
        let s = and_r (holds? G P j u) (satisfies? G (P.bead j) u v) t in
        and_i (holds? H P j u) (satisfies? H (P.bead j) u v)
        (f (within j u v h s) (and_l (holds? G P j u) (satisfies? G (P.bead j) u v) t))
        (subst T (satisfies_same (P.bead j).modality (P.bead j).automaton u v h) s)

    holds_goes : (j v : ℕ) → Halves G H v → T (holds? G P j v) → T (holds? H P j v)
    unfolding holds?
    holds_goes zero v h t = t
    holds_goes (suc j) v h t =
        let b = some_below_out (suc v) (serves? G P j v) t in
        let u : ℕ = b.0 in
        some_below_in (suc v) (serves? H P j v) u b.1 (serves_goes j v u h (holds_goes j u) b.2)

module _ {c d : ℕ} {G H : Dag} (g : WellFormed c G) (k : WellFormed d H) (P : Pattern) where
  holds_same : (j v : ℕ) → Halves G H v → holds? G P j v ≡ holds? H P j v
  holds_same j v h = same (holds? G P j v) (holds? H P j v) (holds_goes g k P j v h) (holds_goes k g P j v (turn h))

  before_same : (j v : ℕ) → Halves G H v → before G P j v ≡ before H P j v
  unfolding before
  before_same j v h = ap (λ (f : ℕ → Bool). seek f (suc v) 0)
      (fun_ext (λ u. same (serves? G P j v u) (serves? H P j v u)
      (serves_goes g k P j v u h (holds_goes g k P j u)) (serves_goes k g P j v u (turn h) (holds_goes k g P j u))))

  prefixes_same : (v : ℕ) → Halves G H v → prefixes G P v ≡ prefixes H P v
  unfolding prefixes
  prefixes_same v h = ap (λ (f : ℕ → Bool). set_of P.count f) (fun_ext (λ j. holds_same (suc j) v h))

  pivots_same : (j v : ℕ) → Halves G H v → T (holds? G P j v) → pivots G P j v ≡ pivots H P j v
  unfolding pivots
  pivots_same zero v h t = refl
  pivots_same (suc j) v h t =
      let u : ℕ = before G P j v in
      let s = and_r (holds? G P j u) (satisfies? G (P.bead j) u v) (before_first G P j v t).passes in
      let e = pivots_same j u (within g k P j u v h s) (before_holds G P j v t) in
      ap (λ (l : List ℕ). l ++ (v ∷ [])) (e ∙ ap (pivots H P j) (before_same j v h))

  pub equal_pasts : (v : ℕ) → Alike G H v → row G P v ≡ row H P v
  unfolding row
  equal_pasts v a = go (holds? G P P.count v) refl
    where
      h : Halves G H v
      h = halves a

      go : (b : Bool) → holds? G P P.count v ≡ b → row G P v ≡ row H P v
      go true e = rw (prefixes_same v h, sym (holds_same P.count v h), e, pivots_same P.count v h (rw e tt))
      go false e = rw (prefixes_same v h, sym (holds_same P.count v h), e)
