-- What the forward sets say: the state r is in the set of v if and only if some reading of some route from a starting vertex to v runs from
-- state 0 to r. So the forward pass agrees with the backward pass from v, whatever the set F of states.
-- What leads from a state of a forward set to v and into F is led to from a starting vertex and state 0, vertex by vertex back along the pass;
-- and a path from a starting vertex, with a reading and a run of it, goes from forward set to forward set, edge by edge. So neither needs a
-- path grown at its end.
use Prim.Native.Nat.{ℕ, zero, suc, ◌≤◌, ◌<◌}
use mathlib.Core.Path.{◌≡◌, refl, sym, ap, ap₂, ◌∙◌, subst}
use mathlib.Core.Logic.{◌⊎◌, inl, inr, ◌↔◌}
use mathlib.Core.Bool.{Bool, false, not, ◌&&◌, ◌||◌}
use mathlib.Core.List.{List, [], ◌∷◌}
use native.Mathlib.Omega.{arith}
use lib.Dec.{T, eqb, eqb→eq, eqb_refl, T_not}
use Rattle.sets.specs.Sets.{◌∈◌, some_below}
use Rattle.sets.proofs.Agree.{some_below_ext}
use Rattle.sets.proofs.Truth.{same, or_cases, and_i, and_l, and_r, decide, no_false, false_no}
use Rattle.sets.proofs.Laws.{some_below_out, some_below_in}
use Rattle.necklace.specs.Dag.{Dag, WellFormed, DagPath, here, edge, Reading, done, silent, letter}
use Rattle.necklace.specs.Automaton.{Automaton, Run, stay, move, exchange}
use Rattle.necklace.specs.Necklace.{Modality, SOME, ALL}
use Rattle.necklace.specs.Compute.{some_of, elem, backward, some?, all?, satisfies_by?}
use Rattle.necklace.proofs.Lists.{some_of_out, some_of_in, elem_out, elem_in}
use Rattle.necklace.proofs.Paths.{path_le}
use Rattle.necklace.proofs.Backward.{Leads, backward_sound, backward_complete, leads_bare, leads_letter}
use Rattle.necklace.specs.inner.Forward.{reached, arrives, ahead, forward, EndsIn, reaches?}
use Rattle.necklace.proofs.Forward.{arrives_at, arrives_out, forward_starts, forward_step, forward_below}

-- ---- what a forward set says

module _ (G : Dag) (A : Automaton) (starts : ℕ → Bool) where
  -- Soundness: what leads to v from a state of a set leads there from a starting vertex and state 0, and a turn of the pass keeps this.
  module _ (F : ℕ → Bool) (v : ℕ) where
    abbrev Begun : Type 0
    Begun = (u : ℕ) × T (starts u) × Leads G A F v u 0

    abbrev Sound : (ℕ → ℕ → Bool) → Type 0
    Sound sets = (w q : ℕ) → T (sets w q) → Leads G A F v w q → Begun

    step_back : (x w q r : ℕ) (ls : List ℕ) → G.labels x ≡ ls → w ∈ G.preds x → T (reached A ls q r) → Leads G A F v x r → Leads G A F v w q
    step_back x w q r [] e m t k =
        leads_bare G A F v x w q e m (subst (Leads G A F v x) (eqb→eq r q t) k)
    step_back x w q r (a ∷ ls) e m t k =
        let b = some_of_out (λ b. elem r (A.next q b)) (a ∷ ls) t in
        leads_letter G A F v x w q r b.0 (rw e b.1) m (elem_out r (A.next q b.0) b.2) k

    arrives_sound : (sets : ℕ → ℕ → Bool) → Sound sets → (x r : ℕ) → T (arrives G A sets x r) → Leads G A F v x r → Begun
    arrives_sound sets h x r t k =
        let a = arrives_out G A sets x r t in
        h a.0 a.2 a.4 (step_back x a.0 a.2 r (G.labels x) refl a.1 a.5 k)

    ahead_sound : (d : ℕ) → Sound (ahead G A starts d)
    unfolding ahead
    ahead_sound zero w q t k = absurd t
    ahead_sound (suc d) w q t k =
        go (or_cases (ahead G A starts d w q) (eqb w d && ((starts w && eqb q 0) || arrives G A (ahead G A starts d) w q)) t) (ahead_sound d)
      where
        turn : T (starts w && eqb q 0) ⊎ T (arrives G A (ahead G A starts d) w q) → Sound (ahead G A starts d) → Begun
        turn (inl s) h = (w, and_l (starts w) (eqb q 0) s, subst (Leads G A F v w) (eqb→eq q 0 (and_r (starts w) (eqb q 0) s)) k)
        turn (inr s) h = arrives_sound (ahead G A starts d) h w q s k

        go : T (ahead G A starts d w q) ⊎ T (eqb w d && ((starts w && eqb q 0) || arrives G A (ahead G A starts d) w q)) → Sound (ahead G A starts d) → Begun
        go (inl s) h = h w q s k
        go (inr s) h =
            turn (or_cases (starts w && eqb q 0) (arrives G A (ahead G A starts d) w q)
            (and_r (eqb w d) ((starts w && eqb q 0) || arrives G A (ahead G A starts d) w q) s)) h

    forward_sound : (r : ℕ) → T (F r) → T (forward G A starts v r) → Begun
    unfolding forward
    forward_sound r f t = ahead_sound (suc v) v r t ([], record { path = here; word = []; reading = done; last = r; run = stay; inside = f })

  -- Completeness: a path, a reading and a run from a state of a forward set end in a state of the forward set of v.
  module _ {c : ℕ} (g : WellFormed c G) (closed : (q a r : ℕ) → r ∈ A.next q a → r < 16) where
    entered_by : (ls : List ℕ) (s a r : ℕ) → a ∈ ls → r ∈ A.next s a → T (reached A ls s r)
    entered_by [] s a r m n = absurd m
    entered_by (l ∷ ls) s a r m n = some_of_in (λ b. elem r (A.next s b)) (l ∷ ls) a m (elem_in r (A.next s a) n)

    stayed : (ls : List ℕ) (s : ℕ) → ls ≡ [] → T (reached A ls s s)
    stayed ls s e = rw e (eqb_refl s)

    runs_on : (y v s last : ℕ) (xs word : List ℕ) → s < 16 → T (forward G A starts y s) → DagPath G y xs v → Reading G xs word
        → Run A.next s word last → (last < 16) × T (forward G A starts v last)
    runs_on y v s last xs word few t here done stay = (few, t)
    runs_on y v s last xs word few t (edge {x = z} {xs = ys} m p) (silent b rs) run =
        runs_on z v s last ys word few (forward_step g A starts z s y s m few t (stayed (G.labels z) s b)) p rs run
    runs_on y v s last xs word few t (edge {x = z} {xs = ys} m p) (letter {a = a} {w = rest} l rs) (move {r = r} n run) =
        runs_on z v r last ys rest (closed s a r n) (forward_step g A starts z r y s m few t (entered_by (G.labels z) s a r l n)) p rs run

-- ---- the laws for readers

module _ {c : ℕ} {G : Dag} (g : WellFormed c G) (A : Automaton) (closed : (q a r : ℕ) → r ∈ A.next q a → r < 16) (starts : ℕ → Bool) where
  -- The state r is in the set of v if and only if some starting vertex has a reading of a route to v that ends in it.
  pub forward_means : (v r : ℕ) → T (forward G A starts v r) ↔ EndsIn G A starts v r
  forward_means v r = (forth, back)
    where
      forth : T (forward G A starts v r) → EndsIn G A starts v r
      forth t =
          let k = forward_sound G A starts (eqb r) v r (eqb_refl r) t in
          let l = k.2.1 in
          record {
            from = k.0;
            starting = k.1;
            route = record { after = k.2.0; path = l.path };
            word = l.word;
            reading = l.reading;
            run = subst (Run A.next 0 l.word) (sym (eqb→eq r l.last l.inside)) l.run;
          }

      back : EndsIn G A starts v r → T (forward G A starts v r)
      back e =
          (runs_on G A starts g closed e.from v 0 r e.route.after e.word (omega arith) (forward_starts g A starts e.from e.starting)
          e.route.path e.reading e.run).1

  -- from a starting vertex into F, by the set of v
  into : (F : ℕ → Bool) (v u : ℕ) → T (starts u) → T (backward G A F v u 0) → T (some_below 16 (λ r. F r && forward G A starts v r))
  into F v u s t =
      let k = backward_sound G A F v u 0 t in
      let l = k.1 in
      let e = runs_on G A starts g closed u v 0 l.last k.0 l.word (omega arith) (forward_starts g A starts u s) l.path l.reading l.run in
      some_below_in 16 (λ r. F r && forward G A starts v r) l.last e.0 (and_i (F l.last) (forward G A starts v l.last) l.inside e.1)

  -- from the set of v to a starting vertex
  out : (F : ℕ → Bool) (v : ℕ) → T (some_below 16 (λ r. F r && forward G A starts v r)) → (u : ℕ) × (u ≤ v) × T (starts u) × T (backward G A F v u 0)
  out F v t =
      let r = some_below_out 16 (λ r. F r && forward G A starts v r) t in
      let k = forward_sound G A starts F v r.0 (and_l (F r.0) (forward G A starts v r.0) r.2) (and_r (F r.0) (forward G A starts v r.0) r.2) in
      (k.0, path_le g k.2.1.path, k.1, backward_complete G A F v g k.0 0 k.2)

  -- Some state of F is in the set of v if and only if some reading of some path from a starting vertex to v runs from state 0 into F.
  pub forward_agrees : (F : ℕ → Bool) (v : ℕ)
      → some_below 16 (λ r. F r && forward G A starts v r) ≡ some_below (suc v) (λ u. starts u && backward G A F v u 0)
  forward_agrees F v = same (some_below 16 (λ r. F r && forward G A starts v r)) (some_below (suc v) (λ u. starts u && backward G A F v u 0)) forth back
    where
      forth : T (some_below 16 (λ r. F r && forward G A starts v r)) → T (some_below (suc v) (λ u. starts u && backward G A F v u 0))
      forth t =
          let k = out F v t in
          let l = k.1 in
          some_below_in (suc v) (λ u. starts u && backward G A F v u 0) k.0 (omega arith) (and_i (starts k.0) (backward G A F v k.0 0) k.2 k.3)

      back : T (some_below (suc v) (λ u. starts u && backward G A F v u 0)) → T (some_below 16 (λ r. F r && forward G A starts v r))
      back t =
          let k = some_below_out (suc v) (λ u. starts u && backward G A F v u 0) t in
          into F v k.0 (and_l (starts k.0) (backward G A F v k.0 0) k.2) (and_r (starts k.0) (backward G A F v k.0 0) k.2)

  -- where u is the only starting vertex
  pub forward_only : (F : ℕ → Bool) (u v : ℕ) → T (starts u) → ((w : ℕ) → T (starts w) → w ≡ u)
      → some_below 16 (λ r. F r && forward G A starts v r) ≡ backward G A F v u 0
  forward_only F u v s one =
      same (some_below 16 (λ r. F r && forward G A starts v r)) (backward G A F v u 0)
      (λ t. let k = out F v t in subst (λ (w : ℕ). T (backward G A F v w 0)) (one k.0 k.2) k.3) (into F v u s)

-- The pass from one vertex.
pub forward_agrees_one : {c : ℕ} {G : Dag} (g : WellFormed c G) (A : Automaton) (closed : (q a r : ℕ) → r ∈ A.next q a → r < 16) (F : ℕ → Bool) (u v : ℕ)
    → backward G A F v u 0 ≡ some_below 16 (λ r. F r && forward G A (λ w. eqb w u) v r)
forward_agrees_one g A closed F u v = sym (forward_only g A closed (λ w. eqb w u) F u v (eqb_refl u) (λ w t. eqb→eq w u t))

-- ---- SOME and ALL by forward sets

-- the pass is by the next states alone
exchange_reached : (A : Automaton) (ls : List ℕ) (q r : ℕ) → reached (exchange A) ls q r ≡ reached A ls q r
exchange_reached A [] q r = refl
exchange_reached A (a ∷ ls) q r = refl

exchange_arrives : (G : Dag) (A : Automaton) (f g : ℕ → ℕ → Bool) → ((w q : ℕ) → f w q ≡ g w q) → (x r : ℕ) → arrives G (exchange A) f x r ≡ arrives G A g x r
exchange_arrives G A f g h x r =
    some_below_ext 16 (λ q. some_of (λ w. f w q) (G.preds x) && reached (exchange A) (G.labels x) q r)
    (λ q. some_of (λ w. f w q) (G.preds x) && reached A (G.labels x) q r)
    (λ q l. ap (λ (b : Bool). some_of (λ w. f w q) (G.preds x) && b) (exchange_reached A (G.labels x) q r))
    ∙ arrives_at G A f g x r (λ w q m l. h w q)

exchange_ahead : (G : Dag) (A : Automaton) (starts : ℕ → Bool) (d x r : ℕ) → ahead G (exchange A) starts d x r ≡ ahead G A starts d x r
unfolding ahead
exchange_ahead G A starts zero x r = refl
exchange_ahead G A starts (suc d) x r =
    ap₂ (λ (a b : Bool). a || (eqb x d && ((starts x && eqb r 0) || b))) (exchange_ahead G A starts d x r)
    (exchange_arrives G A (ahead G (exchange A) starts d) (ahead G A starts d) (λ w q. exchange_ahead G A starts d w q) x r)

pub exchange_forward : (G : Dag) (A : Automaton) (starts : ℕ → Bool) (x r : ℕ) → forward G (exchange A) starts x r ≡ forward G A starts x r
unfolding forward
exchange_forward G A starts x r = exchange_ahead G A starts (suc x) x r

module _ {c : ℕ} {G : Dag} (g : WellFormed c G) (A : Automaton) (closed : (q a r : ℕ) → r ∈ A.next q a → r < 16) (starts : ℕ → Bool) where
  -- SOME reaches v if and only if it holds from a starting vertex to v.
  pub reaches_some : (v : ℕ) → reaches? SOME G A starts v ≡ some_below (suc v) (λ u. starts u && some? G A u v)
  unfolding some?
  reaches_some v = forward_agrees g A closed starts A.accepting v

  -- Where u is the only starting vertex, SOME or ALL reaches v if and only if it holds from u to v.
  pub reaches_one : (m : Modality) (u v : ℕ) → T (starts u) → ((w : ℕ) → T (starts w) → w ≡ u) → reaches? m G A starts v ≡ satisfies_by? m G A u v
  unfolding some? all?
  reaches_one SOME u v s one = forward_only g A closed starts A.accepting u v s one
  reaches_one ALL u v s one =
      ap₂ (λ (a b : Bool). a && not b) (forward_only g A closed starts A.accepting u v s one)
      (sym (some_below_ext 16 (λ r. (exchange A).accepting r && forward G (exchange A) starts v r) (λ r. (exchange A).accepting r && forward G A starts v r)
      (λ r l. ap (λ (b : Bool). (exchange A).accepting r && b) (exchange_forward G A starts v r)))
      ∙ forward_only g (exchange A) closed starts (exchange A).accepting u v s one)

-- What reaches v does so from a starting vertex up to v.
pub reaches_from : (G : Dag) (A : Automaton) (starts : ℕ → Bool) (m : Modality) (v : ℕ) → T (reaches? m G A starts v) → (u : ℕ) × (u ≤ v) × T (starts u)
reaches_from G A starts m v t = go (decide (some_below (suc v) starts))
  where
    some : (m : Modality) → T (reaches? m G A starts v) → T (some_below 16 (λ r. A.accepting r && forward G A starts v r))
    some SOME t = t
    some ALL t = and_l (some_below 16 (λ r. A.accepting r && forward G A starts v r)) (not (some_below 16 (λ r. (exchange A).accepting r && forward G A starts v r))) t

    none : ((u : ℕ) → u ≤ v → starts u ≡ false) → ⊥
    none h =
        let r = some_below_out 16 (λ r. A.accepting r && forward G A starts v r) (some m t) in
        false_no (forward G A starts v r.0) (forward_below G A starts v r.0 h) (and_r (A.accepting r.0) (forward G A starts v r.0) r.2)

    go : T (some_below (suc v) starts) ⊎ T (not (some_below (suc v) starts)) → (u : ℕ) × (u ≤ v) × T (starts u)
    go (inl s) = let k = some_below_out (suc v) starts s in let l = k.1 in (k.0, omega arith, k.2)
    go (inr s) = absurd (none (λ u l. no_false (starts u) (λ k. T_not (some_below (suc v) starts) s (some_below_in (suc v) starts u (omega arith) k))))
