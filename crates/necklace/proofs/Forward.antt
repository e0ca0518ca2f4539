-- The sets of the forward pass, turn by turn. Edges rise, so the sets of the predecessors are settled before the turn of a vertex.
use Prim.Native.Nat.{ℕ, zero, suc, ◌≤◌, ◌<◌}
use mathlib.Core.Path.{◌≡◌, refl, sym, ap, ap₂, ◌∙◌, subst}
use mathlib.Core.Bool.{Bool, false, ◌&&◌, ◌||◌, or-false, and-false}
use native.Mathlib.Decide.{ℕ_discrete}
use native.Mathlib.Omega.{arith}
use borrow.Author.Tests.{eq-eqb, ne_eqb}
use lib.Dec.{T, eqb, eqb_refl}
use Rattle.sets.specs.Sets.{◌∈◌}
use Rattle.sets.proofs.Agree.{some_below_ext}
use Rattle.sets.proofs.Truth.{or_l, or_r, and_i, and_l, and_r, no_false, false_no}
use Rattle.sets.proofs.Laws.{some_below_out, some_below_in}
use Rattle.necklace.specs.Dag.{Dag, WellFormed}
use Rattle.necklace.specs.Automaton.{Automaton}
use Rattle.necklace.specs.Compute.{some_of}
use Rattle.necklace.proofs.Lists.{some_of_out, some_of_in, some_of_ext}
use Rattle.necklace.specs.inner.Forward.{reached, arrives, ahead, forward}

-- ---- what arrives at a vertex

module _ (G : Dag) (A : Automaton) where
  -- what arrives at x is by the sets of its predecessors alone, and by their states below 16
  pub arrives_at : (f g : ℕ → ℕ → Bool) (x r : ℕ) → ((w q : ℕ) → w ∈ G.preds x → q < 16 → f w q ≡ g w q) → arrives G A f x r ≡ arrives G A g x r
  arrives_at f g x r h =
      some_below_ext 16 (λ q. some_of (λ w. f w q) (G.preds x) && reached A (G.labels x) q r) (λ q. some_of (λ w. g w q) (G.preds x) && reached A (G.labels x) q r)
      (λ q l. ap (λ (b : Bool). b && reached A (G.labels x) q r) (some_of_ext (λ w. f w q) (λ w. g w q) (G.preds x) (λ w m. h w q m l)))

  -- a state of a predecessor's set, from which entering x reaches r
  abbrev pub Arrives : (ℕ → ℕ → Bool) → ℕ → ℕ → Type 0
  Arrives sets x r = (w : ℕ) × (w ∈ G.preds x) × (q : ℕ) × (q < 16) × T (sets w q) × T (reached A (G.labels x) q r)

  pub arrives_out : (sets : ℕ → ℕ → Bool) (x r : ℕ) → T (arrives G A sets x r) → Arrives sets x r
  arrives_out sets x r t =
      let q = some_below_out 16 (λ q. some_of (λ w. sets w q) (G.preds x) && reached A (G.labels x) q r) t in
      let there = and_l (some_of (λ w. sets w q.0) (G.preds x)) (reached A (G.labels x) q.0 r) q.2 in
      let on = and_r (some_of (λ w. sets w q.0) (G.preds x)) (reached A (G.labels x) q.0 r) q.2 in
      let w = some_of_out (λ w. sets w q.0) (G.preds x) there in
      (w.0, w.1, q.0, q.1, w.2, on)

  pub arrives_in : (sets : ℕ → ℕ → Bool) (x r w q : ℕ) → w ∈ G.preds x → q < 16 → T (sets w q) → T (reached A (G.labels x) q r) → T (arrives G A sets x r)
  arrives_in sets x r w q m few t on =
      some_below_in 16 (λ q. some_of (λ w. sets w q) (G.preds x) && reached A (G.labels x) q r) q few
      (and_i (some_of (λ w. sets w q) (G.preds x)) (reached A (G.labels x) q r) (some_of_in (λ w. sets w q) (G.preds x) w m t) on)

  -- nothing arrives from empty sets
  arrives_none : (sets : ℕ → ℕ → Bool) (x r : ℕ) → ((w q : ℕ) → sets w q ≡ false) → arrives G A sets x r ≡ false
  arrives_none sets x r h =
      no_false (arrives G A sets x r) (λ t. let k = arrives_out sets x r t in false_no (sets k.0 k.2) (h k.0 k.2) k.4)

-- ---- the turns

module _ (G : Dag) (A : Automaton) (starts : ℕ → Bool) where
  ahead_first : (x r : ℕ) → ahead G A starts 0 x r ≡ false
  unfolding ahead
  ahead_first x r = refl

  -- a turn gives its vertex a set, and leaves the others alone
  ahead_other : (d x r : ℕ) → (x ≡ d → ⊥) → ahead G A starts (suc d) x r ≡ ahead G A starts d x r
  unfolding ahead
  ahead_other d x r n = rw (ne_eqb x d n) (or-false (ahead G A starts d x r))

  -- a vertex whose turn is still to come has the empty set
  ahead_none : (d x r : ℕ) → d ≤ x → ahead G A starts d x r ≡ false
  ahead_none zero x r h = ahead_first x r
  ahead_none (suc d) x r h = ahead_other d x r (λ e. absurd (omega arith)) ∙ ahead_none d x r (omega arith)

  ahead_turn : (x r : ℕ) → forward G A starts x r ≡ ((starts x && eqb r 0) || arrives G A (ahead G A starts x) x r)
  unfolding forward ahead
  ahead_turn x r = rw (eq-eqb x x refl, ahead_none x x r (omega arith))

  -- later turns leave a set alone
  settled : (d x r : ℕ) → x < d → ahead G A starts d x r ≡ forward G A starts x r
  unfolding forward
  settled zero x r h = absurd (omega arith)
  settled (suc d) x r h = go (ℕ_discrete x d) (λ l. settled d x r l)
    where
      go : Dec (x ≡ d) → (x < d → ahead G A starts d x r ≡ ahead G A starts (suc x) x r) → ahead G A starts (suc d) x r ≡ ahead G A starts (suc x) x r
      go (yes e) before = rw e
      go (no n) before = ahead_other d x r n ∙ before (omega arith)

module _ {c : ℕ} {G : Dag} (g : WellFormed c G) (A : Automaton) (starts : ℕ → Bool) where
  -- The set of a vertex: {0} if it is a starting vertex, and what arrives from the sets of its predecessors.
  pub forward_turn : (x r : ℕ) → forward G A starts x r ≡ ((starts x && eqb r 0) || arrives G A (forward G A starts) x r)
  forward_turn x r =
      ahead_turn G A starts x r
      ∙ ap (λ (b : Bool). (starts x && eqb r 0) || b)
      (arrives_at G A (ahead G A starts x) (forward G A starts) x r (λ w q m l. settled G A starts x w q (g.rising w x m)))

  -- a starting vertex has state 0
  pub forward_starts : (u : ℕ) → T (starts u) → T (forward G A starts u 0)
  forward_starts u s =
      subst T (sym (forward_turn u 0))
      (or_l (starts u && eqb 0 0) (arrives G A (forward G A starts) u 0) (and_i (starts u) (eqb 0 0) s (eqb_refl 0)))

  -- an edge, with a label of the vertex it enters, goes on from set to set
  pub forward_step : (x r w q : ℕ) → w ∈ G.preds x → q < 16 → T (forward G A starts w q) → T (reached A (G.labels x) q r) → T (forward G A starts x r)
  forward_step x r w q m few t on =
      subst T (sym (forward_turn x r))
      (or_r (starts x && eqb r 0) (arrives G A (forward G A starts) x r) (arrives_in G A (forward G A starts) x r w q m few t on))

-- ---- only the starting vertices up to a vertex count for its set

module _ (G : Dag) (A : Automaton) (s t : ℕ → Bool) where
  ahead_ext : (d : ℕ) → ((u : ℕ) → u < d → s u ≡ t u) → (x r : ℕ) → ahead G A s d x r ≡ ahead G A t d x r
  unfolding ahead
  ahead_ext zero h x r = refl
  ahead_ext (suc d) h x r = go (ℕ_discrete x d) (ahead_ext d (λ u l. h u (omega arith)))
    where
      go : Dec (x ≡ d) → ((w q : ℕ) → ahead G A s d w q ≡ ahead G A t d w q) → ahead G A s (suc d) x r ≡ ahead G A t (suc d) x r
      go (yes e) before =
          ap₂ (λ (a b : Bool). a || (eqb x d && b)) (before x r)
          (ap₂ (λ (a b : Bool). (a && eqb r 0) || b) (h x (omega arith))
          (arrives_at G A (ahead G A s d) (ahead G A t d) x r (λ w q m l. before w q)))
      go (no n) before = ahead_other G A s d x r n ∙ before x r ∙ sym (ahead_other G A t d x r n)

  pub forward_ext : (x r : ℕ) → ((u : ℕ) → u ≤ x → s u ≡ t u) → forward G A s x r ≡ forward G A t x r
  unfolding forward
  forward_ext x r h = ahead_ext (suc x) (λ u l. h u (omega arith)) x r

module _ (G : Dag) (A : Automaton) where
  ahead_nowhere : (d x r : ℕ) → ahead G A (λ u. false) d x r ≡ false
  unfolding ahead
  ahead_nowhere zero x r = refl
  ahead_nowhere (suc d) x r =
      ap₂ (λ (a b : Bool). a || (eqb x d && b)) (ahead_nowhere d x r)
      (arrives_none G A (ahead G A (λ u. false) d) x r (λ w q. ahead_nowhere d w q))
      ∙ and-false (eqb x d)

  -- below every starting vertex the sets are empty
  pub forward_below : (starts : ℕ → Bool) (x r : ℕ) → ((u : ℕ) → u ≤ x → starts u ≡ false) → forward G A starts x r ≡ false
  unfolding forward
  forward_below starts x r h = forward_ext G A starts (λ u. false) x r h ∙ ahead_nowhere (suc x) x r
