-- After the turn of a step its lanes are those of the forward passes.
use Prim.Native.Nat.{ℕ, ◌+◌, ◌<◌, ◌≤◌}
use mathlib.Core.Path.{◌≡◌, sym, ap, ap₂, ◌∙◌}
use mathlib.Core.Bool.{Bool, false, ◌&&◌, ◌||◌}
use mathlib.Core.List.{List}
use native.Mathlib.Decide.{ℕ_discrete, dec_lt}
use native.Mathlib.Omega.{arith}
use borrow.Author.Tests.{le-leb, lt-leb}
use lib.Dec.{eqb, leb}
use lib.ListN.{get_or}
use Rattle.sets.specs.Sets.{◌∈◌, member}
use Rattle.necklace.specs.Dag.{Dag, WellFormed}
use Rattle.necklace.specs.Automaton.{Automaton}
use Rattle.pattern_buffer.specs.Meaning.{labels_in, automaton_of}
use Rattle.log_buffer.specs.Meaning.{log_of}
use Rattle.necklace.specs.inner.Forward.{forward}
use Rattle.necklace.proofs.Forward.{forward_turn, arrives_at, forward_below}
use Rattle.layout.specs.Layout.{most_states, most_lanes}
use Rattle.lanes.specs.Lanes.{work_at, lane_in}
use Rattle.turning.specs.Turning.{Turned}
use Rattle.pass_steps.specs.PassSteps.{starts_in, beginning_at, Held}
use Rattle.pass_steps.proofs.BeginLaws.{starts_before, starts_is}

module _ (pattern log labels : List ℕ) (k : ℕ) (seeds : List ℕ) (first until : ℕ) where
  abbrev G : Dag
  G = log_of log labels

  abbrev A : Automaton
  A = automaton_of pattern k

  abbrev S : ℕ → ℕ → Bool
  S i = starts_in seeds first until i

  -- no lane is anywhere before its pass begins
  pub none_before : (i w r : ℕ) → w < first → forward G A (S i) w r ≡ false
  none_before i w r h = forward_below G A (S i) w r (λ u l. starts_before seeds first until i u (omega arith))

  module _ (g : WellFormed (labels_in pattern) (log_of log labels)) (x : ℕ) (old : List ℕ) (inv : Held pattern log labels k seeds first until x old) (begin : ℕ) (eb : begin ≡ beginning_at seeds until x) (new : List ℕ)
      (t : Turned (log_of log labels) (automaton_of pattern k) first begin x old new) where
    came : (i : ℕ) → i < most_lanes → (w q : ℕ) → w ∈ G.preds x → q < most_states → lane_in old first i w q ≡ forward G A (S i) w q
    unfolding lane_in
    came i l w q m k' = go (dec_lt w first)
      where
        up : w < x
        up = g.rising w x m

        go : Dec (w < first) → (leb first w && member i (get_or old (work_at w q) 0)) ≡ forward G A (S i) w q
        go (yes h) = rw (lt-leb first w h) (sym (none_before i w q h))
        go (no h) = rw (le-leb first w (omega arith)) (inv.lanes i w q l k' (omega arith) up)

    own : (i r : ℕ) → i < most_lanes → r < most_states → member i (get_or new (work_at x r) 0) ≡ forward G A (S i) x r
    own i r l k' =
        t.own i r l k'
        ∙ ap₂ (λ (a b : Bool). (a && eqb r 0) || b) (ap (member i) eb ∙ starts_is seeds first until i x inv.begun)
        (arrives_at G A (lane_in old first i) (forward G A (S i)) x r (came i l))
        ∙ sym (forward_turn g A (S i) x r)

    pub held_more : Held pattern log labels k seeds first until (x + 1) new
    held_more = record { begun = let b = inv.begun in omega arith; lanes = λ i w r l m b c. go i w r l m b (ℕ_discrete w x) c }
      where
        go : (i w r : ℕ) → i < most_lanes → r < most_states → first ≤ w → Dec (w ≡ x) → w < x + 1 → member i (get_or new (work_at w r) 0) ≡ forward G A (S i) w r
        go i w r l m b (yes e) c = rw e (own i r l m)
        go i w r l m b (no e) c = ap (member i) (t.others w r m e) ∙ inv.lanes i w r l m b (omega arith)
