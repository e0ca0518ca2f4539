-- A second log that only adds to a first loses no SOME and wins no ALL.
use Prim.Native.Nat.{ℕ, zero, suc}
use mathlib.Core.Path.{◌≡◌, refl}
use mathlib.Core.Bool.{true}
use mathlib.Core.List.{[], ◌∷◌}
use native.Mathlib.Omega.{arith}
use lib.Dec.{T}
use lib.ListN.{get_or, replicate}
use Rattle.sets.specs.Sets.{◌∈◌, member, set_of, some_below}
use Rattle.necklace.specs.Dag.{Dag, WellFormed, Route}
use Rattle.necklace.specs.Automaton.{Automaton}
use Rattle.necklace.specs.Necklace.{Some, All, SOME, ALL, Pattern, WellFormedPattern}
use Rattle.necklace.specs.Past.{OnlyAdds}
use Rattle.necklace.specs.Compute.{row, prefixes, pivots, before, seek, holds?, some?, backward, pass}
use Rattle.necklace.specs.Listed.{listed_dag, listed_automaton, bead, listed_pattern}
use Rattle.necklace.proofs.Paths.{route_inside}
use Rattle.necklace.proofs.Carry.{Carries, carry_route, carry_reading, carry_some}
use Rattle.necklace.proofs.RowMeaning.{first_bit}
use Rattle.necklace.proofs.Rooted.{rooted}

-- each vertex is carried to itself
carried : {G H : Dag} → OnlyAdds G H → Carries (λ x. x) (λ x. T true) G H
carried a = record { onward = λ u x i m. tt; edges = λ u x i m. a.edges u x m; labels = λ x l i m. a.labels x l m; bare = λ x i b. a.bare_stays x b }

module _ {G H : Dag} (a : OnlyAdds G H) where
  pub some_stays : (A : Automaton) (u v : ℕ) → Some G A u v → Some H A u v
  some_stays A u v s = carry_some (carried a) A u v tt s

  pub all_came : (A : Automaton) (u v : ℕ) → Route G u v → All H A u v → All G A u v
  all_came A u v r h = record { route = r; accepts = λ s w rs. h.accepts (carry_route (carried a) tt s) w (carry_reading (carried a) tt s.path rs) }

-- About bit 0 of the row, the first bead: with one bead, the rule. A SOME that held in G holds in H; an ALL that failed in G fails in H.
module _ {c : ℕ} {G H : Dag} (g : WellFormed c G) (h : WellFormed c H) {P : Pattern} (p : WellFormedPattern c P) (a : OnlyAdds G H) (v : ℕ) where
  pub only_adds : ((P.bead 0).modality ≡ SOME → T (member 0 (get_or (row G P v) 0 0)) → T (member 0 (get_or (row H P v) 0 0)))
      × ((P.bead 0).modality ≡ ALL → (T (member 0 (get_or (row G P v) 0 0)) → ⊥) → T (member 0 (get_or (row H P v) 0 0)) → ⊥)
  only_adds = (some, all)
    where
      A : Automaton
      A = (P.bead 0).automaton

      some : (P.bead 0).modality ≡ SOME → T (member 0 (get_or (row G P v) 0 0)) → T (member 0 (get_or (row H P v) 0 0))
      some e t = (first_bit h p v).1 (rw e (some_stays a A 0 v (rw e at ((first_bit g p v).0 t))))

      all : (P.bead 0).modality ≡ ALL → (T (member 0 (get_or (row G P v) 0 0)) → ⊥) → T (member 0 (get_or (row H P v) 0 0)) → ⊥
      all e f t =
          let s : All H A 0 v = rw e at ((first_bit h p v).0 t) in
          let i = route_inside h h.started s.route in
          let z = a.size in
          f ((first_bit g p v).1 (rw e (all_came a A 0 v (rooted g v (omega arith)) s)))

-- A first label on a bare vertex takes the empty letter away, and a SOME is lost: every edge and label of `bare` stands in `labelled`.
abbrev pub bare : Dag
bare = listed_dag (([], []) ∷ ([], 0 ∷ []) ∷ [])

abbrev pub labelled : Dag
labelled = listed_dag (([], []) ∷ (0 ∷ [], 0 ∷ []) ∷ [])

-- state 0 accepts, and every letter leads to state 1, which does not
abbrev pub no_letter : Pattern
no_letter = listed_pattern (bead SOME (listed_automaton (((1 ∷ []) ∷ []) ∷ ((1 ∷ []) ∷ []) ∷ []) (0 ∷ [])) ∷ [])

pub first_label_loses : (row bare no_letter 1 ≡ 1 ∷ 0 ∷ 1 ∷ replicate 7 0) × (row labelled no_letter 1 ≡ replicate 10 0)
unfolding row prefixes pivots before seek holds? some? backward pass set_of some_below
first_label_loses = (refl, refl)

pub first_label_adds : (labelled.size ≡ bare.size) × ((u x : ℕ) → u ∈ bare.preds x → u ∈ labelled.preds x)
    × ((x a : ℕ) → a ∈ bare.labels x → a ∈ labelled.labels x)
first_label_adds = (refl, λ u x m. edges u x m, λ x a m. labels x a m)
  where
    edges : (u x : ℕ) → u ∈ bare.preds x → u ∈ labelled.preds x
    edges u zero m = m
    edges u (suc zero) m = m
    edges u (suc (suc x)) m = m

    labels : (x a : ℕ) → a ∈ bare.labels x → a ∈ labelled.labels x
    labels zero a m = m
    labels (suc zero) a m = absurd m
    labels (suc (suc x)) a m = m
