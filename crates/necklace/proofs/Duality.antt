-- The dual property of the 1996 article: SOME is the denial of ALL with accepting and other states exchanged.
use Prim.Native.Nat.{ℕ, ◌<◌}
use mathlib.Core.Path.{◌≡◌}
use mathlib.Core.Logic.{◌⊎◌, inl, inr, ◌↔◌}
use mathlib.Core.Bool.{not}
use mathlib.Core.List.{List}
use lib.Dec.{T, T_not}
use lib.ListN.{get_or}
use Rattle.sets.specs.Sets.{member}
use Rattle.sets.proofs.Truth.{decide}
use Rattle.necklace.specs.Dag.{Dag, WellFormed, Route, entered, Reading}
use Rattle.necklace.specs.Automaton.{Automaton, Accepts, OneNext, exchange}
use Rattle.necklace.specs.Necklace.{Some, All, SOME, ALL, Pattern, WellFormedPattern, Satisfies}
use Rattle.necklace.specs.Compute.{some?, row}
use Rattle.necklace.proofs.Modalities.{some_agrees, one_accepts, not_both}
use Rattle.necklace.proofs.RowMeaning.{first_bit}
use Rattle.necklace.proofs.Rooted.{rooted}

module _ {c : ℕ} {G : Dag} (g : WellFormed c G) where
  -- wherever a route exists
  pub dual_on_route : {A : Automaton} → OneNext c A → (u v : ℕ) → Route G u v → Some G A u v ↔ (All G (exchange A) u v → ⊥)
  dual_on_route {A} d u v r = (forth, λ f. back f (decide (some? G A u v)))
    where
      forth : Some G A u v → All G (exchange A) u v → ⊥
      forth s a = not_both g d (entered s.route) s.word s.reading s.accepts (a.accepts s.route s.word s.reading)

      back : (All G (exchange A) u v → ⊥) → T (some? G A u v) ⊎ T (not (some? G A u v)) → Some G A u v
      back f (inl t) = (some_agrees g A u v).0 t
      back f (inr t) = absurd (f (record { route = r; accepts = λ s w rs. pick s w rs (one_accepts g d (entered s) w rs) }))
        where
          pick : (s : Route G u v) (w : List ℕ) → Reading G (entered s) w → Accepts A w ⊎ Accepts (exchange A) w → Accepts (exchange A) w
          pick s w rs (inl k) = absurd (T_not (some? G A u v) t ((some_agrees g A u v).1 (record { route = s; word = w; reading = rs; accepts = k })))
          pick s w rs (inr k) = k

  -- at every vertex
  pub dual : {A : Automaton} → OneNext c A → (v : ℕ) → v < G.size → Some G A 0 v ↔ (All G (exchange A) 0 v → ⊥)
  dual d v l = dual_on_route d 0 v (rooted g v l)

  -- The same about bit 0 of the rows of two patterns, the first a SOME bead with the automaton A, the second an ALL bead with the other.
  pub dual_rows : {P Q : Pattern} → WellFormedPattern c P → WellFormedPattern c Q → OneNext c (P.bead 0).automaton
      → (P.bead 0).modality ≡ SOME → (Q.bead 0).modality ≡ ALL → (Q.bead 0).automaton ≡ exchange (P.bead 0).automaton → (v : ℕ) → v < G.size
      → T (member 0 (get_or (row G P v) 0 0)) ↔ (T (member 0 (get_or (row G Q v) 0 0)) → ⊥)
  dual_rows {P} {Q} p q d s a e v l = (
    λ t k. it.0 (rw s at (one.0 t)) (rw (a, e) at (two.0 k)),
    λ f. one.1 (rw s (it.1 (λ k. f (two.1 (rw (a, e) k))))),
  )
    where
      it : Some G (P.bead 0).automaton 0 v ↔ (All G (exchange (P.bead 0).automaton) 0 v → ⊥)
      it = dual d v l

      one : T (member 0 (get_or (row G P v) 0 0)) ↔ Satisfies G (P.bead 0) 0 v
      one = first_bit g p v

      two : T (member 0 (get_or (row G Q v) 0 0)) ↔ Satisfies G (Q.bead 0) 0 v
      two = first_bit g q v
