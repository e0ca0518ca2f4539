-- SOME and ALL of a pair of vertices: the tests say what the definitions say.
use Prim.Native.Nat.{ℕ, ◌<◌}
use mathlib.Core.Path.{◌≡◌, refl}
use mathlib.Core.Logic.{◌⊎◌, inl, inr, ◌↔◌}
use mathlib.Core.Bool.{not, ◌&&◌}
use mathlib.Core.List.{List}
use lib.Dec.{T, ltb, lt→ltb, T_not, not_T}
use Rattle.sets.proofs.Truth.{and_i, and_l, and_r, decide}
use Rattle.necklace.specs.Dag.{Dag, WellFormed, Route, entered, Reading, done, silent, letter}
use Rattle.necklace.specs.Automaton.{Automaton, Run, stay, move, Accepts, OneNext, exchange}
use Rattle.necklace.specs.Necklace.{Some, All, Modality, SOME, ALL, Primitive, SatisfiesBy, Satisfies}
use Rattle.necklace.specs.Compute.{backward, some?, all?, satisfies_by?, satisfies?}
use Rattle.necklace.proofs.Lists.{only}
use Rattle.necklace.proofs.Paths.{some_reading}
use Rattle.necklace.proofs.Backward.{Leads, backward_sound, backward_complete}

module _ {c : ℕ} {G : Dag} (g : WellFormed c G) (A : Automaton) (u v : ℕ) where
  pub some_agrees : T (some? G A u v) ↔ Some G A u v
  unfolding some?
  some_agrees = (out, into)
    where
      out : T (backward G A A.accepting v u 0) → Some G A u v
      out t = go (backward_sound G A A.accepting v u 0 t)
        where
          go : Leads G A A.accepting v u 0 → Some G A u v
          go k = record {
            route = record { after = k.0; path = k.1.path };
            word = k.1.word;
            reading = k.1.reading;
            accepts = record { last = k.1.last; run = k.1.run; accepted = k.1.inside };
          }

      into : Some G A u v → T (backward G A A.accepting v u 0)
      into s =
          backward_complete G A A.accepting v g u 0 (
            entered s.route,
            record {
              path = s.route.path;
              word = s.word;
              reading = s.reading;
              last = s.accepts.last;
              run = s.accepts.run;
              inside = s.accepts.accepted;
            },
          )

-- A complete and deterministic automaton has exactly one run over a reading, and it stays among the automaton's states.
module _ {c : ℕ} {G : Dag} (g : WellFormed c G) {A : Automaton} (d : OneNext c A) where
  pub run_exists : (xs w : List ℕ) → Reading G xs w → (q : ℕ) → q < A.states → (r : ℕ) × (r < A.states) × Run A.next q w r
  run_exists xs w done q l = (q, l, stay)
  run_exists xs w (silent {xs = ys} b rs) q l = run_exists ys w rs q l
  run_exists xs w (letter {x = x} {a = a} {xs = ys} {w = v} m rs) q l =
      let s = d.one q a l (g.known x a m) in
      let k = run_exists ys v rs s.0 s.1 in
      (k.0, k.1, move {q = q} {r = s.0} {a = a} (rw s.2 (inl refl)) k.2)

  pub run_unique : (xs w : List ℕ) → Reading G xs w → (q r s : ℕ) → q < A.states → Run A.next q w r → Run A.next q w s → r ≡ s
  run_unique xs w done q r s l stay stay = refl
  run_unique xs w (silent {xs = ys} b rs) q r s l R S = run_unique ys w rs q r s l R S
  run_unique xs w (letter {x = x} {a = a} {xs = ys} {w = v} m rs) q r s l (move {r = r1} i R) (move {r = r2} j S) =
      let k = d.one q a l (g.known x a m) in
      let e1 : r1 ≡ k.0 = only r1 k.0 (A.next q a) k.2 i in
      let e2 : r2 ≡ k.0 = only r2 k.0 (A.next q a) k.2 j in
      run_unique ys v rs k.0 r s k.1 (rw e1 at R) (rw e2 at S)

  -- a reading is a word of the automaton, or of the one with accepting and other states exchanged
  pub one_accepts : (xs w : List ℕ) → Reading G xs w → Accepts A w ⊎ Accepts (exchange A) w
  one_accepts xs w rs = go (run_exists xs w rs 0 d.initial)
    where
      go : (r : ℕ) × (r < A.states) × Run A.next 0 w r → Accepts A w ⊎ Accepts (exchange A) w
      go k = pick (decide (A.accepting k.0))
        where
          pick : T (A.accepting k.0) ⊎ T (not (A.accepting k.0)) → Accepts A w ⊎ Accepts (exchange A) w
          pick (inl t) = inl (record { last = k.0; run = k.2; accepted = t })
          pick (inr t) = inr (record {
            last = k.0;
            run = k.2;
            accepted = and_i (ltb k.0 A.states) (not (A.accepting k.0)) (lt→ltb k.0 A.states k.1) t;
          })

  -- and never of both
  pub not_both : (xs w : List ℕ) → Reading G xs w → Accepts A w → Accepts (exchange A) w → ⊥
  not_both xs w rs a b =
      let e = run_unique xs w rs 0 a.last b.last d.initial a.run b.run in
      T_not (A.accepting b.last) (and_r (ltb b.last A.states) (not (A.accepting b.last)) b.accepted) (rw e at a.accepted)

  module _ (u v : ℕ) where
    -- ALL is SOME, and not SOME for the other states
    pub all_by_some : All G A u v ↔ (Some G A u v × (Some G (exchange A) u v → ⊥))
    all_by_some = (out, into)
      where
        out : All G A u v → Some G A u v × (Some G (exchange A) u v → ⊥)
        out a =
            let k = some_reading G (entered a.route) in (
              record { route = a.route; word = k.0; reading = k.1; accepts = a.accepts a.route k.0 k.1 },
              λ s. not_both (entered s.route) s.word s.reading (a.accepts s.route s.word s.reading) s.accepts,
            )

        into : Some G A u v × (Some G (exchange A) u v → ⊥) → All G A u v
        into s = record { route = s.0.route; accepts = λ r w rs. pick r w rs (one_accepts (entered r) w rs) }
          where
            pick : (r : Route G u v) (w : List ℕ) → Reading G (entered r) w → Accepts A w ⊎ Accepts (exchange A) w → Accepts A w
            pick r w rs (inl a) = a
            pick r w rs (inr b) = absurd (s.1 (record { route = r; word = w; reading = rs; accepts = b }))

    pub all_agrees : T (all? G A u v) ↔ All G A u v
    unfolding all?
    all_agrees = (out, into)
      where
        out : T (some? G A u v && not (some? G (exchange A) u v)) → All G A u v
        out t = all_by_some.1 (
          (some_agrees g A u v).0 (and_l (some? G A u v) (not (some? G (exchange A) u v)) t),
          λ s. T_not (some? G (exchange A) u v) (and_r (some? G A u v) (not (some? G (exchange A) u v)) t) ((some_agrees g (exchange A) u v).1 s),
        )

        into : All G A u v → T (some? G A u v && not (some? G (exchange A) u v))
        into a =
            let s = all_by_some.0 a in
            and_i (some? G A u v) (not (some? G (exchange A) u v)) ((some_agrees g A u v).1 s.0)
            (not_T (some? G (exchange A) u v) (λ t. s.1 ((some_agrees g (exchange A) u v).0 t)))

module _ {c : ℕ} {G : Dag} (g : WellFormed c G) where
  by_modality : (m : Modality) (A : Automaton) → (m ≡ ALL → OneNext c A) → (u v : ℕ) → T (satisfies_by? m G A u v) ↔ SatisfiesBy m G A u v
  by_modality SOME A d u v = some_agrees g A u v
  by_modality ALL A d u v = all_agrees g (d refl) u v

  pub satisfies_agrees : (b : Primitive) → (b.modality ≡ ALL → OneNext c b.automaton) → (u v : ℕ) → T (satisfies? G b u v) ↔ Satisfies G b u v
  satisfies_agrees b d u v = by_modality b.modality b.automaton d u v

  route_by : (m : Modality) (A : Automaton) (u v : ℕ) → SatisfiesBy m G A u v → Route G u v
  route_by SOME A u v s = s.route
  route_by ALL A u v s = s.route

  -- a route joins what satisfies a primitive pattern
  pub satisfies_route : (b : Primitive) (u v : ℕ) → Satisfies G b u v → Route G u v
  satisfies_route b u v s = route_by b.modality b.automaton u v s

  route_by? : (m : Modality) (A : Automaton) (u v : ℕ) → T (satisfies_by? m G A u v) → Route G u v
  unfolding all?
  route_by? SOME A u v t = ((some_agrees g A u v).0 t).route
  route_by? ALL A u v t = ((some_agrees g A u v).0 (and_l (some? G A u v) (not (some? G (exchange A) u v)) t)).route

  -- and what passes the test, whatever the automaton
  pub satisfies?-route : (b : Primitive) (u v : ℕ) → T (satisfies? G b u v) → Route G u v
  satisfies?-route b u v t = route_by? b.modality b.automaton u v t
