-- Hopeful states: a set without one leads to no accepting state; and after a set with another state ALL cannot hold any more.
use Prim.Native.Nat.{ℕ, zero, suc, ◌≤◌, ◌<◌}
use mathlib.Core.Path.{◌≡◌, refl, subst}
use mathlib.Core.Logic.{◌⊎◌, inl, inr}
use mathlib.Core.Bool.{Bool, true, false, not, ◌&&◌}
use mathlib.Core.List.{List, [], ◌∷◌, map}
use native.Mathlib.Omega.{arith}
use lib.Dec.{T, eqb, ltb, eqb→eq, eqb_refl, ltb→lt, lt→ltb, T_not, not_T}
use Rattle.sets.specs.Sets.{◌∈◌, some_below, all_below}
use Rattle.sets.proofs.Truth.{or_cases, and_i, and_l, and_r, false_no}
use Rattle.sets.proofs.Laws.{some_below_out, some_below_in}
use Rattle.necklace.specs.Dag.{Dag, WellFormed}
use Rattle.necklace.specs.Automaton.{Automaton, OneNext}
use Rattle.necklace.specs.Necklace.{Modality, SOME, ALL}
use Rattle.necklace.specs.Compute.{elem}
use Rattle.necklace.specs.Listed.{listed_dag, listed_automaton}
use Rattle.necklace.specs.Tests.{one_next?}
use Rattle.necklace.proofs.Lists.{some_of_out, some_of_in, elem_out, elem_in}
use Rattle.necklace.proofs.Tests.{one_next_agrees}
use Rattle.necklace.specs.inner.Forward.{reached, arrives, ahead, forward, among?, reaches?, Hopeful}
use Rattle.necklace.proofs.Forward.{forward_turn, forward_step, arrives_out}

-- a state from which a hopeful one is reached is hopeful
hope_back : (A : Automaton) (H : ℕ → Bool) → Hopeful A H → (ls : List ℕ) (q r : ℕ) → q < 16 → T (reached A ls q r) → T (H r) → T (H q)
hope_back A H hope [] q r few t k = subst (λ (z : ℕ). T (H z)) (eqb→eq r q t) k
hope_back A H hope (a ∷ ls) q r few t k =
    let b = some_of_out (λ b. elem r (A.next q b)) (a ∷ ls) t in
    hope.before q b.0 r few (elem_out r (A.next q b.0) b.2) k

-- some state of H is there, SOME or ALL
pub among_some : (G : Dag) (A : Automaton) (starts H : ℕ → Bool) (m : Modality) (v : ℕ) → T (among? m G A H starts v) → T (some_below 16 (λ r. H r && forward G A starts v r))
among_some G A starts H SOME v t = t
among_some G A starts H ALL v t =
    and_l (some_below 16 (λ r. H r && forward G A starts v r)) (not (some_below 16 (λ r. (ltb r A.states && not (H r)) && forward G A starts v r))) t

-- Under ALL a state beyond hope has a next state, and that is beyond hope too.
lost_on : {c : ℕ} (A : Automaton) (H : ℕ → Bool) → Hopeful A H → OneNext c A → A.states ≤ 16 → (ls : List ℕ) → ((a : ℕ) → a ∈ ls → a < c)
    → (q : ℕ) → q < A.states → (T (H q) → ⊥) → (r : ℕ) × (r < A.states) × (T (H r) → ⊥) × T (reached A ls q r)
lost_on A H hope complete few_states [] known q l lost = (q, l, lost, eqb_refl q)
lost_on A H hope complete few_states (a ∷ ls) known q l lost =
    let b = known a (inl refl) in
    let r = complete.one q a l b in
    let m : r.0 ∈ A.next q a = rw r.2 (inl refl) in (
      r.0,
      r.1,
      (λ k. lost (hope.before q a r.0 (omega arith) m k)),
      some_of_in (λ b. elem r.0 (A.next q b)) (a ∷ ls) a (inl refl) (elem_in r.0 (A.next q a) m),
    )

module _ (G : Dag) (A : Automaton) (starts H : ℕ → Bool) (hope : Hopeful A H) where
  -- the set of v has a hopeful state
  abbrev hopes : ℕ → Bool
  hopes v = some_below 16 (λ r. H r && forward G A starts v r)

  -- it has a state of the automaton that is beyond hope
  abbrev loses : ℕ → Bool
  loses v = some_below 16 (λ r. (ltb r A.states && not (H r)) && forward G A starts v r)

  abbrev accepts : ℕ → Bool
  accepts v = some_below 16 (λ r. A.accepting r && forward G A starts v r)

  abbrev refuses : ℕ → Bool
  refuses v = some_below 16 (λ r. (ltb r A.states && not (A.accepting r)) && forward G A starts v r)

  -- ---- one turn

  module _ {c : ℕ} (g : WellFormed c G) (x : ℕ) where
    hopes_before : starts x ≡ false → T (hopes x) → (w : ℕ) × (w ∈ G.preds x) × T (hopes w)
    hopes_before fresh t =
        let r = some_below_out 16 (λ r. H r && forward G A starts x r) t in
        let there = and_r (H r.0) (forward G A starts x r.0) r.2 in
        go r.0 (and_l (H r.0) (forward G A starts x r.0) r.2)
        (or_cases (starts x && eqb r.0 0) (arrives G A (forward G A starts) x r.0) (subst T (forward_turn g A starts x r.0) there))
      where
        go : (r : ℕ) → T (H r) → T (starts x && eqb r 0) ⊎ T (arrives G A (forward G A starts) x r) → (w : ℕ) × (w ∈ G.preds x) × T (hopes w)
        go r k (inl s) = absurd (false_no (starts x) fresh (and_l (starts x) (eqb r 0) s))
        go r k (inr s) =
            let a = arrives_out G A (forward G A starts) x r s in
            let h = hope_back A H hope (G.labels x) a.2 r a.3 a.5 k in
            (a.0, a.1, some_below_in 16 (λ r. H r && forward G A starts a.0 r) a.2 a.3 (and_i (H a.2) (forward G A starts a.0 a.2) h a.4))

    loses_after : OneNext c A → A.states ≤ 16 → (w : ℕ) → w ∈ G.preds x → T (loses w) → T (loses x)
    loses_after complete few_states w m t =
        let q = some_below_out 16 (λ r. (ltb r A.states && not (H r)) && forward G A starts w r) t in
        let out = and_l (ltb q.0 A.states && not (H q.0)) (forward G A starts w q.0) q.2 in
        let there = and_r (ltb q.0 A.states && not (H q.0)) (forward G A starts w q.0) q.2 in
        let r = lost_on A H hope complete few_states (G.labels x) (g.known x) q.0
        (ltb→lt q.0 A.states (and_l (ltb q.0 A.states) (not (H q.0)) out))
        (T_not (H q.0) (and_r (ltb q.0 A.states) (not (H q.0)) out)) in
        let l = r.1 in
        some_below_in 16 (λ r. (ltb r A.states && not (H r)) && forward G A starts x r) r.0 (omega arith)
        (and_i (ltb r.0 A.states && not (H r.0)) (forward G A starts x r.0)
        (and_i (ltb r.0 A.states) (not (H r.0)) (lt→ltb r.0 A.states l) (not_T (H r.0) r.2))
        (forward_step g A starts x r.0 w q.0 m q.1 there r.3))

    -- A set with hopeful states, and under ALL with no others, has a predecessor's set that is such, unless its vertex is a starting one.
    pub alive_turn : (m : Modality) → (m ≡ ALL → OneNext c A) → A.states ≤ 16 → starts x ≡ false
        → ((w : ℕ) → w ∈ G.preds x → T (among? m G A H starts w) → ⊥) → T (among? m G A H starts x) → ⊥
    alive_turn SOME complete few_states fresh none t = let w = hopes_before fresh t in none w.0 w.1 w.2
    alive_turn ALL complete few_states fresh none t =
        let w = hopes_before fresh (and_l (hopes x) (not (loses x)) t) in
        none w.0 w.1
        (and_i (hopes w.0) (not (loses w.0)) w.2
        (not_T (loses w.0) (λ s. T_not (loses x) (and_r (hopes x) (not (loses x)) t) (loses_after (complete refl) few_states w.0 w.1 s))))

  -- ---- what is reached

  accepts_hopes : (v : ℕ) → T (accepts v) → T (hopes v)
  accepts_hopes v t =
      let r = some_below_out 16 (λ r. A.accepting r && forward G A starts v r) t in
      some_below_in 16 (λ r. H r && forward G A starts v r) r.0 r.1
      (and_i (H r.0) (forward G A starts v r.0) (hope.accepting r.0 r.1 (and_l (A.accepting r.0) (forward G A starts v r.0) r.2))
      (and_r (A.accepting r.0) (forward G A starts v r.0) r.2))

  loses_refuses : (v : ℕ) → T (loses v) → T (refuses v)
  loses_refuses v t =
      let r = some_below_out 16 (λ r. (ltb r A.states && not (H r)) && forward G A starts v r) t in
      let out = and_l (ltb r.0 A.states && not (H r.0)) (forward G A starts v r.0) r.2 in
      some_below_in 16 (λ r. (ltb r A.states && not (A.accepting r)) && forward G A starts v r) r.0 r.1
      (and_i (ltb r.0 A.states && not (A.accepting r.0)) (forward G A starts v r.0)
      (and_i (ltb r.0 A.states) (not (A.accepting r.0)) (and_l (ltb r.0 A.states) (not (H r.0)) out)
      (not_T (A.accepting r.0) (λ k. T_not (H r.0) (and_r (ltb r.0 A.states) (not (H r.0)) out) (hope.accepting r.0 r.1 k))))
      (and_r (ltb r.0 A.states && not (H r.0)) (forward G A starts v r.0) r.2))

  -- Where an accepting state is there, a hopeful one is; and where none but accepting ones are there, none is beyond hope.
  pub reaches_alive : (m : Modality) (v : ℕ) → T (reaches? m G A starts v) → T (among? m G A H starts v)
  reaches_alive SOME v t = accepts_hopes v t
  reaches_alive ALL v t =
      and_i (hopes v) (not (loses v)) (accepts_hopes v (and_l (accepts v) (not (refuses v)) t))
      (not_T (loses v) (λ s. T_not (refuses v) (and_r (accepts v) (not (refuses v)) t) (loses_refuses v s)))

-- all states are hopeful
pub hopeful_all : (A : Automaton) → Hopeful A (λ q. true)
hopeful_all A = record { accepting = λ q few t. tt; before = λ q a r few m t. tt }

-- ---- the hopeful states of an automaton

-- the word of label 0 and then label 1; state 3 leads to no accepting state
abbrev pub zero_then_one : Automaton
zero_then_one =
    listed_automaton
    (((1 ∷ []) ∷ (3 ∷ []) ∷ [])
    ∷ ((3 ∷ []) ∷ (2 ∷ []) ∷ [])
    ∷ ((3 ∷ []) ∷ (3 ∷ []) ∷ [])
    ∷ ((3 ∷ []) ∷ (3 ∷ []) ∷ [])
    ∷ []) (2 ∷ [])

-- 0, 1 and 2 are hopeful states
pub hopeful_case : Hopeful zero_then_one (λ q. elem q (0 ∷ 1 ∷ 2 ∷ []))
hopeful_case = record { accepting = last; before = back }
  where
    last : (q : ℕ) → q < 16 → T (elem q (2 ∷ [])) → T (elem q (0 ∷ 1 ∷ 2 ∷ []))
    last q few t = elem_in q (0 ∷ 1 ∷ 2 ∷ []) (inr (inr (elem_out q (2 ∷ []) t)))

    lost : (r : ℕ) → r ∈ (3 ∷ []) → T (elem r (0 ∷ 1 ∷ 2 ∷ [])) → ⊥
    lost r (inl e) t = subst (λ (z : ℕ). T (elem z (0 ∷ 1 ∷ 2 ∷ []))) e t
    lost r (inr x'') t = elim x'' [ ]

    back : (q a r : ℕ) → q < 16 → r ∈ zero_then_one.next q a → T (elem r (0 ∷ 1 ∷ 2 ∷ [])) → T (elem q (0 ∷ 1 ∷ 2 ∷ []))
    back zero a r few m t = tt
    back (suc zero) a r few m t = tt
    back (suc (suc zero)) a r few m t = tt
    back (suc (suc (suc zero))) zero r few m t = absurd (lost r m t)
    back (suc (suc (suc zero))) (suc zero) r few m t = absurd (lost r m t)
    back (suc (suc (suc zero))) (suc (suc a)) r few m t = absurd m
    back (suc (suc (suc (suc q)))) a r few m t = absurd m

-- 0 and 2 alone are not: 1 leads to 2; nor are 0 and 1: 2 accepts
pub not_hopeful_before : Hopeful zero_then_one (λ q. elem q (0 ∷ 2 ∷ [])) → ⊥
not_hopeful_before h = h.before 1 1 2 (omega arith) (inl refl) tt

pub not_hopeful_accepting : Hopeful zero_then_one (λ q. elem q (0 ∷ 1 ∷ [])) → ⊥
not_hopeful_accepting h = h.accepting 2 (omega arith) tt

-- it has exactly one next state everywhere
pub complete_case : OneNext 2 zero_then_one
unfolding one_next? all_below
complete_case = (one_next_agrees 2 zero_then_one).0 tt

-- Vertex 1 of the dag 0-1-2-3 has both labels, so besides 1 there is 3 in its set: SOME has hope as far as vertex 2, ALL at vertex 0 alone.
abbrev pub both_labels : Dag
both_labels = listed_dag (([], []) ∷ (0 ∷ 1 ∷ [], 0 ∷ []) ∷ (1 ∷ [], 1 ∷ []) ∷ (0 ∷ [], 2 ∷ []) ∷ [])

abbrev pub alive_at : Modality → List Bool
alive_at m = map (among? m both_labels zero_then_one (λ q. elem q (0 ∷ 1 ∷ 2 ∷ [])) (λ u. eqb u 0)) (0 ∷ 1 ∷ 2 ∷ 3 ∷ [])

pub some_alive : alive_at SOME ≡ true ∷ true ∷ true ∷ false ∷ []
unfolding some_below ahead forward
some_alive = refl

pub all_alive : alive_at ALL ≡ true ∷ false ∷ false ∷ false ∷ []
unfolding some_below ahead forward
all_alive = refl
