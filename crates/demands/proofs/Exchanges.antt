-- Every pattern of one bead with one next state for each state and label has a partner: `exchanged_buffer` gives it, accepted, with
-- `Exchanged` between the two. So the dual property speaks of every such pattern.
-- Assumes nothing.
use Prim.Native.Nat.{ℕ, zero, suc, ◌-◌, ◌^◌, ◌≤◌, ◌<◌}
use mathlib.Core.Path.{◌≡◌, refl, sym, ap, ap₂, ◌∙◌, subst}
use mathlib.Core.Logic.{◌⊎◌, inl, inr, ◌↔◌, ◌≢◌}
use mathlib.Core.Bool.{Bool, true, false, cond, not, ◌||◌, not-not}
use mathlib.Core.List.{List}
use native.Mathlib.Omega.{arith}
use native.Mathlib.Decide.{ℕ_discrete}
use borrow.Author.Tests.{eqb-true}
use lib.Dec.{T, eqb, eqb_refl, T_not}
use lib.ListN.{length, set, take, length-set}
use lib.Pow.{pow_mono}
use lib.Seq.{get_or-set_same, get_or-set_other, get_or-take, take-set-lt}
use Rattle.std.specs.List.{list_all}
use Rattle.rules.proofs.RuleLaws.{every}
use Rattle.rules.specs.Rules.{Rule, rules, is_rule_in, one_next_in, is_rule, needs_one_next}
use Rattle.lists.specs.Places.{at}
use Rattle.sets.specs.Sets.{member, complement, single}
use Rattle.sets.proofs.Laws.{ext, complement_below, member_complement, single_count}
use Rattle.sets.proofs.Truth.{decide, true_yes}
use Rattle.necklace.specs.Automaton.{OneNext}
use Rattle.layout.specs.Layout.{most_beads, most_states, most_labels, rule_at, states_at, accepting_at, next_at, pattern_length}
use Rattle.pattern_buffer.specs.Meaning.{labels_in, beads_in, automaton_of}
use Rattle.pattern_buffer.specs.Valid.{is_pattern}
use Rattle.pattern_buffer.proofs.Places.{Bead, Unused, Next, Passes, passes_out, passes_in, bead_there, next_there, unused_out, bead_in, next_in, next_unused}
use Rattle.pattern_buffer.proofs.OneNext.{one_next}
use Rattle.judging.specs.Judge.{log_in, accepts, result_after}
use Rattle.demands.specs.Demands.{rule_holds, Exchanged, exchanged_buffer}
use Rattle.judging.proofs.Calls.{Accepted, passed_all, accepted_call}
use Rattle.demands.proofs.Demands.{dual}

-- The other states of the other states.
complement_twice : (n s : ℕ) → s < 2 ^ n → complement n (complement n s) ≡ s
complement_twice n s h =
    ext n (complement n (complement n s)) s (complement_below n (complement n s)) h
    (λ i l. member_complement n (complement n s) i l ∙ ap not (member_complement n s i l) ∙ not-not (member i s))

-- ---- the places of the exchanged buffer

module _ (b : List ℕ) where
  abbrev ruled : List ℕ
  ruled = set b (rule_at 0) (3 - at b (rule_at 0))

  abbrev others : ℕ
  others = complement (at b (states_at 0)) (at b (accepting_at 0))

  exchanged_length : length (exchanged_buffer b) ≡ length b
  unfolding exchanged_buffer
  exchanged_length = length-set ruled (accepting_at 0) others ∙ length-set b (rule_at 0) (3 - at b (rule_at 0))

  exchanged_other : (i : ℕ) → i ≢ rule_at 0 → i ≢ accepting_at 0 → at (exchanged_buffer b) i ≡ at b i
  unfolding exchanged_buffer
  exchanged_other i n m = get_or-set_other ruled (accepting_at 0) i others 0 m ∙ get_or-set_other b (rule_at 0) i (3 - at b (rule_at 0)) 0 n

  module _ (long : pattern_length ≤ length b) where
    exchanged_rule : at (exchanged_buffer b) (rule_at 0) ≡ 3 - at b (rule_at 0)
    unfolding exchanged_buffer
    exchanged_rule =
        get_or-set_other ruled (accepting_at 0) (rule_at 0) others 0 (λ e. omega arith)
        ∙ get_or-set_same b (rule_at 0) (3 - at b (rule_at 0)) 0 (omega arith)

    exchanged_accepting : at (exchanged_buffer b) (accepting_at 0) ≡ others
    unfolding exchanged_buffer
    exchanged_accepting =
        get_or-set_same ruled (accepting_at 0) others 0 (let e = length-set b (rule_at 0) (3 - at b (rule_at 0)) in omega arith)

  -- only the documented length of a longer buffer is looked at
  exchanged_front : take pattern_length (exchanged_buffer b) ≡ exchanged_buffer (take pattern_length b)
  unfolding exchanged_buffer
  exchanged_front =
      rw (
        get_or-take pattern_length b (rule_at 0) 0 (omega arith),
        get_or-take pattern_length b (states_at 0) 0 (omega arith),
        get_or-take pattern_length b (accepting_at 0) 0 (omega arith),
      )
      (take-set-lt pattern_length ruled (accepting_at 0) others (omega arith)
      ∙ ap (λ (l : List ℕ). set l (accepting_at 0) others) (take-set-lt pattern_length b (rule_at 0) (3 - at b (rule_at 0)) (omega arith)))

-- ---- the two rules

-- The other of two rules is one.
other_rules : list_all (λ (r : Rule). is_rule (3 - r.number)) rules ≡ true
unfolding rules is_rule_in
other_rules = refl

needs_two : (n : ℕ) → T (needs_one_next n) → n ≡ 2
unfolding rules one_next_in
needs_two n t = go (eqb n 1) (eqb n 2) refl t
  where
    go : (a b : Bool) → eqb n 2 ≡ b → T (cond a false (cond b true false)) → n ≡ 2
    go true b e t = absurd t
    go false true e t = eqb-true n 2 e
    go false false e t = absurd t

not_one : (n : ℕ) → T (is_rule n) → (n ≡ 1 → ⊥) → n ≡ 2
unfolding rules is_rule_in
not_one n t f = go (eqb n 1) refl (eqb n 2) refl t
  where
    go : (a : Bool) → eqb n 1 ≡ a → (b : Bool) → eqb n 2 ≡ b → T (a || (b || false)) → n ≡ 2
    go true d b e t = absurd (f (eqb-true n 1 d))
    go false d true e t = eqb-true n 2 e
    go false d false e t = absurd t

-- ---- it is accepted

module _ (b : List ℕ) (t : T (is_pattern b)) (one : beads_in b ≡ 1) where
  p : Passes b
  p = passes_out b t

  there : Bead b 0
  there = bead_there b p 0 (omega arith)

  same : (i : ℕ) → i ≢ rule_at 0 → i ≢ accepting_at 0 → at (exchanged_buffer b) i ≡ at b i
  same i n m = exchanged_other b i n m

  same_labels : labels_in (exchanged_buffer b) ≡ labels_in b
  same_labels = same 0 (λ z. omega arith) (λ z. omega arith)

  same_beads : beads_in (exchanged_buffer b) ≡ 1
  same_beads = same 1 (λ z. omega arith) (λ z. omega arith) ∙ one

  same_states : (j : ℕ) → j < most_beads → at (exchanged_buffer b) (states_at j) ≡ at b (states_at j)
  same_states j h = same (states_at j) (λ z. omega arith) (λ z. omega arith)

  same_next : (j q a : ℕ) → at (exchanged_buffer b) (next_at j q a) ≡ at b (next_at j q a)
  same_next j q a = same (next_at j q a) (λ z. omega arith) (λ z. omega arith)

  bead : (j : ℕ) → j < beads_in (exchanged_buffer b) → Bead (exchanged_buffer b) j
  bead j h =
      let c = same_beads in
      let z : 0 ≡ j = omega arith in
      let r = exchanged_rule b p.long in
      let s = same_states 0 (omega arith) in
      let some = there.some_state in
      let most = there.states_most in
      subst (Bead (exchanged_buffer b)) z (record {
        rule = rw r (true_yes (is_rule (3 - at b (rule_at 0))) (every (λ n. is_rule (3 - n)) other_rules (at b (rule_at 0)) there.rule));
        turn = λ l. absurd (omega arith);
        some_state = omega arith;
        states_most = omega arith;
        accepting = rw (exchanged_accepting b p.long, s) (complement_below (at b (states_at 0)) (at b (accepting_at 0)));
      })

  left_over : (j : ℕ) → j < most_beads → 1 ≤ j → Unused b j
  left_over j l h = unused_out b j (omega arith) (p.beads j l)

  unused : (j : ℕ) → j < most_beads → beads_in (exchanged_buffer b) ≤ j → Unused (exchanged_buffer b) j
  unused j l h =
      let c = same_beads in
      let u = left_over j l (omega arith) in
      record {
        rule = same (rule_at j) (λ z. omega arith) (λ z. omega arith) ∙ u.rule;
        states = same_states j l ∙ u.states;
        accepting = same (accepting_at j) (λ z. omega arith) (λ z. omega arith) ∙ u.accepting;
      }

  module _ (table : at b (rule_at 0) ≡ 1 → OneNext (labels_in b) (automaton_of b 0)) where
    -- the exchanged bead is an ALL bead only where the given one is a SOME bead
    single_next : at (exchanged_buffer b) (rule_at 0) ≡ 2 → (q a : ℕ) → q < at b (states_at 0) → a < labels_in b → T (single most_states (at b (next_at 0 q a)))
    single_next r q a k l =
        let e = exchanged_rule b p.long in
        let inside = (next_there b p 0 q a (omega arith) k l).inside in
        let wide : 2 ^ at b (states_at 0) ≤ 2 ^ most_states = pow_mono there.states_most in
        subst T (single_count most_states (at b (next_at 0 q a)) (omega arith))
        (rw ((one_next b t 0 (omega arith)).1 (table (omega arith)) q a k l) (eqb_refl 1))

    next : (j q a : ℕ) → j < most_beads → q < at (exchanged_buffer b) (states_at j) → a < labels_in (exchanged_buffer b) → Next (exchanged_buffer b) j q a
    next zero q a h k l =
        let s = same_states 0 h in
        let c = same_labels in
        record {
          inside = rw (same_next 0 q a, s) (next_there b p 0 q a (omega arith) (omega arith) (omega arith)).inside;
          one = λ r. rw (same_next 0 q a) (single_next (needs_two (at (exchanged_buffer b) (rule_at 0)) r) q a (omega arith) (omega arith));
        }
    next (suc j) q a h k l =
        let s = same_states (suc j) h in
        let z = (left_over (suc j) h (omega arith)).states in
        absurd (omega arith)

    none : (j q a : ℕ) → j < most_beads → q < most_states → a < most_labels
        → (at (exchanged_buffer b) (states_at j) ≤ q) ⊎ (labels_in (exchanged_buffer b) ≤ a) → at (exchanged_buffer b) (next_at j q a) ≡ 0
    none j q a h k l o = same_next j q a ∙ next_unused b j q a (rw (same_states j h, same_labels) at o) (p.nexts j q a h k l)

    exchanged_passes : T (is_pattern (exchanged_buffer b))
    exchanged_passes =
        passes_in (exchanged_buffer b) (record {
          long = rw (exchanged_length b) p.long;
          some_label = rw same_labels p.some_label;
          labels_most = rw same_labels p.labels_most;
          some_bead = let c = same_beads in omega arith;
          beads_most = let c = same_beads in omega arith;
          beads = λ j h. bead_in (exchanged_buffer b) j (bead j) (unused j h);
          nexts = λ j q a h k l. next_in (exchanged_buffer b) j q a (next j q a h) (none j q a h k l);
        })

  some_exchanged : at b (rule_at 0) ≡ 1 → Exchanged b (exchanged_buffer b)
  some_exchanged r = record {
    one = one;
    other_one = same_beads;
    labels = same_labels;
    some_rule = r;
    all_rule = let e = exchanged_rule b p.long in omega arith;
    states = same_states 0 (omega arith);
    next = λ i h. same i (λ z. omega arith) (λ z. omega arith);
    accepting = exchanged_accepting b p.long;
  }

  all_exchanged : at b (rule_at 0) ≡ 2 → Exchanged (exchanged_buffer b) b
  all_exchanged r = record {
    one = same_beads;
    other_one = one;
    labels = sym same_labels;
    some_rule = let e = exchanged_rule b p.long in omega arith;
    all_rule = r;
    states = sym (same_states 0 (omega arith));
    next = λ i h. sym (same i (λ z. omega arith) (λ z. omega arith));
    accepting =
        sym (ap₂ complement (same_states 0 (omega arith)) (exchanged_accepting b p.long)
        ∙ complement_twice (at b (states_at 0)) (at b (accepting_at 0)) there.accepting);
  }

-- From SOME to ALL: where the table has one next state for each state and label, the exchanged buffer is accepted, and `Exchanged` holds.
pub from_some : (b : List ℕ) → T (is_pattern b) → beads_in b ≡ 1 → at b (rule_at 0) ≡ 1 → OneNext (labels_in b) (automaton_of b 0)
    → T (is_pattern (exchanged_buffer b)) × Exchanged b (exchanged_buffer b)
from_some b t one r table = (exchanged_passes b t one (λ e. table), some_exchanged b t one r)

-- From ALL to SOME: always, since the table of an ALL bead is like that.
pub from_all : (b : List ℕ) → T (is_pattern b) → beads_in b ≡ 1 → at b (rule_at 0) ≡ 2
    → T (is_pattern (exchanged_buffer b)) × Exchanged (exchanged_buffer b) b
from_all b t one r = (exchanged_passes b t one (λ e. absurd (omega arith)), all_exchanged b t one r)

-- ---- calls

-- The dual property of every accepted call with a pattern of one bead, an ALL bead or a SOME bead whose table has one next state for
-- each state and label: the call with the exchanged buffer is accepted too, and at every step the rule of the one holds if and
-- only if that of the other fails.
module _ (pattern log result work : List ℕ) (t : T (accepts pattern log result work)) (one : beads_in (take pattern_length pattern) ≡ 1)
    (table : at (take pattern_length pattern) (rule_at 0) ≡ 1 → OneNext (labels_in (take pattern_length pattern)) (automaton_of (take pattern_length pattern) 0)) where
  a : Accepted pattern log result work
  a = passed_all pattern log result work t

  pub exchanged_accepts : T (accepts (exchanged_buffer pattern) log result work)
  exchanged_accepts =
      accepted_call (exchanged_buffer pattern) log result work (record {
        log_long = a.log_long;
        pattern_long = rw (exchanged_length pattern) a.pattern_long;
        result_long = a.result_long;
        work_long = a.work_long;
        pattern_passes = rw (exchanged_front pattern) (exchanged_passes (take pattern_length pattern) a.pattern_passes one table);
        log_passes = rw (exchanged_front pattern, same_labels (take pattern_length pattern) a.pattern_passes one) a.log_passes;
      })

  pub dual_every : (v : ℕ) → v < (log_in log).size
      → T (rule_holds (result_after pattern log result work) v) ↔ (T (rule_holds (result_after (exchanged_buffer pattern) log result work) v) → ⊥)
  dual_every v h = go (ℕ_discrete (at (take pattern_length pattern) (rule_at 0)) 1)
    where
      go : Dec (at (take pattern_length pattern) (rule_at 0) ≡ 1)
          → T (rule_holds (result_after pattern log result work) v) ↔ (T (rule_holds (result_after (exchanged_buffer pattern) log result work) v) → ⊥)
      go (yes r) =
          dual pattern (exchanged_buffer pattern) log result work
          (rw (exchanged_front pattern) (some_exchanged (take pattern_length pattern) a.pattern_passes one r)) t exchanged_accepts v h
      go (no n) =
          let g = there (take pattern_length pattern) a.pattern_passes one in
          let two = not_one (at (take pattern_length pattern) (rule_at 0)) g.rule n in
          let d = dual (exchanged_buffer pattern) pattern log result work
          (rw (exchanged_front pattern) (all_exchanged (take pattern_length pattern) a.pattern_passes one two)) exchanged_accepts t v h
          in
          (λ y f. d.0 f y, λ f. whole (decide (rule_holds (result_after pattern log result work) v)) (λ m. f (d.1 m)))
        where
          whole : T (rule_holds (result_after pattern log result work) v) ⊎ T (not (rule_holds (result_after pattern log result work) v))
              → ((T (rule_holds (result_after pattern log result work) v) → ⊥) → ⊥) → T (rule_holds (result_after pattern log result work) v)
          whole (inl y) f = y
          whole (inr m) f = absurd (f (T_not (rule_holds (result_after pattern log result work) v) m))
