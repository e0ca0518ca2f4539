-- The turn of a step: what arrives there, and what begins there.
use Prim.Native.Nat.{ℕ, ◌+◌, ◌*◌, ◌<◌}
use mathlib.Core.Path.{◌≡◌, refl, sym, ap, ap₂, ◌∙◌}
use mathlib.Core.Bool.{Bool, true, false, ◌&&◌, ◌||◌, and-false}
use mathlib.Core.List.{List}
use native.Mathlib.Decide.{ℕ_discrete}
use native.Mathlib.Omega.{arith}
use borrow.Author.Tests.{eq-eqb, ne_eqb}
use lib.Dec.{eqb}
use lib.ListN.{get_or}
use Rattle.sets.specs.Sets.{member, some_below, members}
use Rattle.sets.proofs.Agree.{some_below_ext, some_below_is}
use Rattle.necklace.specs.Dag.{Dag}
use Rattle.necklace.specs.Automaton.{Automaton}
use Rattle.necklace.specs.Compute.{some_of}
use Rattle.log_buffer.specs.Meaning.{steps_in, links_into, log_of}
use Rattle.log_buffer.proofs.Meaning.{labels_are, preds_are}
use Rattle.layout.specs.Layout.{most_labels, most_states, most_lanes}
use Rattle.lists.specs.Places.{at}
use Rattle.log_links.specs.Links.{BareIf}
use Rattle.necklace.specs.inner.Forward.{reached, arrives}
use Rattle.lanes.specs.Lanes.{work_at, lane_in, Gathered, PutTo, BegunAt}
use Rattle.turning.specs.Turning.{EnteredTo, Arrived, Turned}

-- ---- arriving

module _ (log labels : List ℕ) (A : Automaton) (work : List ℕ) (first x : ℕ) (inside : x < steps_in log) (here : List ℕ) (g : Gathered work first (links_into log x) here) where
  come : (i q : ℕ) → i < most_lanes → q < most_states → member i (get_or here q 0) ≡ some_of (λ w. lane_in work first i w q) ((log_of log labels).preds x)
  come i q l k = g.lanes i q l k ∙ ap (some_of (λ w. lane_in work first i w q)) (sym (preds_are log labels x inside))

  pub arrived_bare : (t : Bool) → BareIf log labels x t → t ≡ true → Arrived (log_of log labels) A work first x here
  arrived_bare t bare e = record {
    lanes = λ i r l k.
        come i r l k ∙ sym (some_below_is most_states (λ q. some_of (λ w. lane_in work first i w q) ((log_of log labels).preds x)) r k)
        ∙ sym (ap (λ (ls : List ℕ). some_below most_states (λ q. some_of (λ w. lane_in work first i w q) ((log_of log labels).preds x) && reached A ls q r)) (bare.none e));
  }

  pub arrived : (set : ℕ) (next : List ℕ) → set ≡ at labels x → EnteredTo A (members most_labels set) most_states here next → Arrived (log_of log labels) A work first x next
  arrived set next e d' = record {
    lanes = λ i r l k.
        d.lanes i r l k
        ∙ some_below_ext most_states (λ q. member i (get_or here q 0) && reached A (members most_labels (get_or labels x 0)) q r)
        (λ q. some_of (λ w. lane_in work first i w q) ((log_of log labels).preds x) && reached A ((log_of log labels).labels x) q r)
        (λ q m. ap₂ ◌&&◌ (come i q l m) (ap (λ (ls : List ℕ). reached A ls q r) (sym (labels_are log labels x inside))));
  }
    where
      d : EnteredTo A (members most_labels (get_or labels x 0)) most_states here next
      d = rw e at d'

pub ruleset arriving_kit = (arrived_bare, arrived)

-- ---- the turn

pub turned : (G : Dag) (A : Automaton) (first begin x : ℕ) (here old mid new : List ℕ) → Arrived G A old first x here → PutTo most_states x here old mid → BegunAt x begin mid new
    → Turned G A first begin x old new
turned G A first begin x here old mid new a p b = record {
  own = λ i r l k. go i r l k (ℕ_discrete r 0);
  others = λ w q k n. b.others (work_at w q) (λ z. n (omega arith)) ∙ p.others w q k n;
}
  where
    there : (i r : ℕ) → i < most_lanes → r < most_states → member i (get_or mid (work_at x r) 0) ≡ arrives G A (lane_in old first i) x r
    there i r l k = ap (member i) (p.own r k) ∙ a.lanes i r l k

    swap : (a b : Bool) → (a || b) ≡ ((b && true) || a)
    swap true true = refl
    swap true false = refl
    swap false true = refl
    swap false false = refl

    go : (i r : ℕ) → i < most_lanes → r < most_states → Dec (r ≡ 0) → member i (get_or new (work_at x r) 0) ≡ ((member i begin && eqb r 0) || arrives G A (lane_in old first i) x r)
    go i r l k (yes z) =
        let q : work_at x r ≡ most_states * x = omega arith in
        ap (λ (y : ℕ). member i (get_or new y 0)) q ∙ b.own i l
        ∙ ap (λ (c : Bool). c || member i begin) (ap (λ (y : ℕ). member i (get_or mid y 0)) (sym q) ∙ there i r l k)
        ∙ swap (arrives G A (lane_in old first i) x r) (member i begin)
        ∙ ap (λ (c : Bool). (member i begin && c) || arrives G A (lane_in old first i) x r) (sym (eq-eqb r 0 z))
    go i r l k (no n) =
        ap (member i) (b.others (work_at x r) (λ z. n (omega arith))) ∙ there i r l k
        ∙ sym (ap (λ (c : Bool). (member i begin && c) || arrives G A (lane_in old first i) x r) (ne_eqb r 0 n) ∙ ap (λ (c : Bool). c || arrives G A (lane_in old first i) x r) (and-false (member i begin)))
