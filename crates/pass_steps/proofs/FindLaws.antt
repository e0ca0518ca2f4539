-- The lanes of a step, once its turn is made: which of them reach it, and how far the pass has to go.
use Prim.Native.Nat.{ℕ, ◌+◌, ◌≤◌, ◌<◌}
use mathlib.Core.Path.{◌≡◌, refl, sym, ap, ap₂, ◌∙◌, subst}
use mathlib.Core.Bool.{Bool, true, false, cond, not, ◌&&◌}
use mathlib.Core.List.{List}
use native.Mathlib.Decide.{ℕ_discrete, dec_lt}
use native.Mathlib.Omega.{arith}
use borrow.Author.Tests.{lt-ltb, le-ltb}
use lib.Dec.{T, eqb, ltb}
use lib.ListN.{length, get_or, set}
use lib.Seq.{get_or-set_same, get_or-set_other}
use Rattle.pattern_buffer.proofs.Meaning.{by_all}
use Rattle.lists.specs.Places.{at}
use Rattle.sets.specs.Sets.{member, set_of, complement, some_below}
use Rattle.sets.proofs.Agree.{set_of_ext, some_below_ext}
use Rattle.sets.proofs.Bits.{member_empty}
use Rattle.sets.proofs.Laws.{member-set_of, member_complement, set_of_above}
use Rattle.sets.proofs.Truth.{no_false, false_no}
use Rattle.necklace.specs.Dag.{Dag}
use Rattle.necklace.specs.Automaton.{Automaton}
use Rattle.necklace.specs.Necklace.{SOME, ALL, Modality}
use Rattle.layout.specs.Layout.{rule_at, accepting_at, most_states, most_lanes, most_steps}
use Rattle.pattern_buffer.specs.Meaning.{automaton_of, pattern_of}
use Rattle.log_buffer.specs.Meaning.{steps_in, log_of}
use Rattle.log_links.specs.Links.{LastTo}
use Rattle.necklace.specs.inner.Forward.{forward, among?}
use Rattle.lanes.specs.Lanes.{work_at}
use Rattle.lane_sets.specs.LaneSets.{lane_with, lane_holds}
use Rattle.pass_steps.specs.PassSteps.{starts_in, bead_reaches, lane_reaches, lane_among, Held, FoundTo, Bounded}

-- the states outside a set
pub member_others : (n s r : ℕ) → (ltb r n && not (member r s)) ≡ member r (complement n s)
member_others n s r = go (dec_lt r n)
  where
    go : Dec (r < n) → (ltb r n && not (member r s)) ≡ member r (complement n s)
    go (yes h) = rw (lt-ltb r n h) (sym (member_complement n s r h))
    go (no h) = rw (le-ltb r n (omega arith)) (sym (no_false (member r (complement n s)) (set_of_above n (λ i. not (member i s)) r (omega arith))))

module _ (pattern log labels : List ℕ) (k hopeful : ℕ) (seeds : List ℕ) (first until : ℕ) (last : List ℕ) where
  abbrev G : Dag
  G = log_of log labels

  abbrev A : Automaton
  A = automaton_of pattern k

  abbrev S : ℕ → ℕ → Bool
  S i = starts_in seeds first until i

  module _ (x reach : ℕ) (inv : Bounded pattern log labels k hopeful seeds first until last x reach) where
    farther : (r : ℕ) → reach ≤ r → r < steps_in log → ((i : ℕ) → i < most_lanes → T (lane_among pattern log labels k hopeful seeds first until x i) → get_or last x 0 ≤ r)
        → Bounded pattern log labels k hopeful seeds first until last (x + 1) r
    farther r up in' follow = record {
      inside = in';
      starts = let b = inv.starts in omega arith;
      far = λ i w l h t. go i w l (ℕ_discrete w x) h t;
    }
      where
        go : (i w : ℕ) → i < most_lanes → Dec (w ≡ x) → w < x + 1 → T (lane_among pattern log labels k hopeful seeds first until w i) → get_or last w 0 ≤ r
        go i w l (yes e) h t = rw e (follow i l (subst (λ (z : ℕ). T (lane_among pattern log labels k hopeful seeds first until z i)) e t))
        go i w l (no e) h t = let d = inv.far i w l (omega arith) t in omega arith

    pub bounded_near : (w : ℕ) → w ≡ get_or last x 0 → w ≤ reach → Bounded pattern log labels k hopeful seeds first until last (x + 1) reach
    bounded_near w e h = farther reach (omega arith) inv.inside (λ i l t. omega arith)

    pub bounded_far : (w : ℕ) → w ≡ get_or last x 0 → reach < w → LastTo log (steps_in log) last → Bounded pattern log labels k hopeful seeds first until last (x + 1) w
    bounded_far w e h d = farther w (omega arith) (let b = d.inside x in omega arith) (λ i l t. omega arith)

  module _ (x : ℕ) (work : List ℕ) (held : Held pattern log labels k seeds first until (x + 1) work) (begun : first ≤ x) where
    own_is : (i r : ℕ) → i < most_lanes → r < most_states → member i (get_or work (work_at x r) 0) ≡ forward G A (S i) x r
    own_is i r l m = held.lanes i x r l m begun (omega arith)

    with_own : (F : ℕ → Bool) (s i : ℕ) → i < most_lanes → ((r : ℕ) → member r s ≡ F r) → lane_with work x s i ≡ some_below most_states (λ r. F r && forward G A (S i) x r)
    unfolding lane_with
    with_own F s i l e =
        some_below_ext most_states (λ q. member q s && member i (get_or work (work_at x q) 0)) (λ r. F r && forward G A (S i) x r) (λ q m. ap₂ (λ (a b : Bool). a && b) (e q) (own_is i q l m))

    holds_is : (set i : ℕ) → i < most_lanes → lane_holds pattern k set work x i ≡ lane_among pattern log labels k set seeds first until x i
    unfolding lane_holds lane_among pattern_of
    holds_is set i l =
        go (eqb (at pattern (rule_at k)) 2)
        ∙ sym (ap (λ (m : Modality). among? m G A (λ q. member q set) (S i) x) (by_all (at pattern (rule_at k))))
      where
        inside : lane_with work x set i ≡ some_below most_states (λ r. member r set && forward G A (S i) x r)
        inside = with_own (λ r. member r set) set i l (λ r. refl)

        others : lane_with work x (complement A.states set) i ≡ some_below most_states (λ r. (ltb r A.states && not (member r set)) && forward G A (S i) x r)
        others = with_own (λ r. ltb r A.states && not (member r set)) (complement A.states set) i l (λ r. sym (member_others A.states set r))

        go : (b : Bool) → cond b (lane_with work x set i && not (lane_with work x (complement A.states set) i)) (lane_with work x set i)
            ≡ among? (cond b ALL SOME) G A (λ q. member q set) (S i) x
        go true = ap₂ (λ (a b : Bool). a && not b) inside others
        go false = inside

    reaches_is : (i : ℕ) → i < most_lanes → lane_holds pattern k (at pattern (accepting_at k)) work x i ≡ lane_reaches pattern log labels k seeds first until x i
    unfolding lane_among lane_reaches bead_reaches
    reaches_is i l = holds_is (at pattern (accepting_at k)) i l

    pub found_more : (found : List ℕ) (f : ℕ) → FoundTo pattern log labels k seeds first until x found → f ≡ set_of most_lanes (lane_holds pattern k (at pattern (accepting_at k)) work x) → x < most_steps → most_steps ≤ length found
        → FoundTo pattern log labels k seeds first until (x + 1) (set found x f)
    found_more found f inv ef few long = record {
      lanes = λ v h. go v (ℕ_discrete v x) h;
      rest = λ v h. get_or-set_other found x v f 0 (λ e. absurd (omega arith)) ∙ inv.rest v (omega arith);
    }
      where
        go : (v : ℕ) → Dec (v ≡ x) → v < x + 1 → get_or (set found x f) v 0 ≡ set_of most_lanes (lane_reaches pattern log labels k seeds first until v)
        go v (yes e) h = rw e (get_or-set_same found x f 0 (omega arith) ∙ ef ∙ set_of_ext most_lanes (lane_holds pattern k (at pattern (accepting_at k)) work x) (lane_reaches pattern log labels k seeds first until x) reaches_is)
        go v (no e) h = get_or-set_other found x v f 0 e ∙ inv.lanes v (omega arith)

    module _ (reach alive : ℕ) (inv : Bounded pattern log labels k hopeful seeds first until last x reach) (ea : alive ≡ set_of most_lanes (lane_holds pattern k hopeful work x)) where
      lives : (i : ℕ) → i < most_lanes → T (lane_among pattern log labels k hopeful seeds first until x i) → alive ≡ 0 → ⊥
      lives i l t z =
          false_no (lane_among pattern log labels k hopeful seeds first until x i)
          (sym (ap (member i) ea ∙ member-set_of most_lanes (lane_holds pattern k hopeful work x) i l ∙ holds_is hopeful i l) ∙ ap (member i) z ∙ member_empty i) t

      pub bounded_stay : alive ≡ 0 → Bounded pattern log labels k hopeful seeds first until last (x + 1) reach
      bounded_stay z = farther x reach inv reach (omega arith) inv.inside (λ i l t. absurd (lives i l t z))

pub ruleset reach_kit = (bounded_near, bounded_far)
