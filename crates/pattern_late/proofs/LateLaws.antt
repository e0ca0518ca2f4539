-- The turns of the loops that look for 15 and 16 over a buffer.
-- Assumes nothing.
use mathlib.Core.Path.{◌≡◌, refl, sym, ap, ◌∙◌}
use mathlib.Core.Bool.{Bool, true, false, not}
use mathlib.Core.List.{List}
use Prim.Native.Nat.{ℕ, suc, ◌+◌, ◌-◌, ◌/◌, ◌%◌, ◌≤◌, ◌<◌}
use native.Mathlib.Omega.{arith}
use borrow.Author.Tests.{lt-ltb, le-ltb, not-true, not-false}
use lib.ListN.{length, get_or, take, drop}
use Rattle.std.specs.Prelude.{Result, Ok, Err}
use Rattle.rules.specs.Rules.{needs_one_next}
use Rattle.layout.specs.Layout.{most_states, all_states, rule_at, states_at}
use Rattle.text.proofs.WalkLaws.{walk_nil, walk_cons}
use Rattle.sets.specs.Sets.{cons_if}
use Rattle.text.specs.Walk.{Judged, refused, passed, Outcome, accepted, faulty, proceed, walk}
use Rattle.pattern_store.specs.Next.{all_within, all_single}
use Rattle.pattern_line.specs.Answers.{refusal_number}
use Rattle.pattern_late.specs.Late.{Bounded, sets_at, judge_slot, has_state, slots_from, late_faults, slot_said, slot_at}
use Rattle.pattern_line.specs.declared.refusals.Refusal.{Refusal}
use Rattle.text.specs.inner.Faults.{in_line}
use Rattle.text.specs.declared.faults.Fault.{Fault}

-- ---- a slot

module _ (b : List ℕ) (f : Bounded b) (i : ℕ) (h : i < all_states) where
  pub states_bound : get_or b (states_at (i / most_states)) 0 ≤ most_states
  states_bound = f.states (i / most_states) (omega arith)

  module _ (w : ℕ) (count : w ≡ get_or b 0 0) where
    pub sets_end : slot_at i + w ≤ length b
    sets_end = let s = f.size in let l = f.labels in omega arith

    lent : take (slot_at i + w - (slot_at i)) (drop (slot_at i) b) ≡ sets_at b i
    lent = let n : slot_at i + w - (slot_at i) ≡ get_or b 0 0 = omega arith in ap (λ (k : ℕ). take k (drop (slot_at i) b)) n

    module _ (t : Bool) (g : t ≡ all_within (get_or b (states_at (i / most_states)) 0) (take (slot_at i + w - (slot_at i)) (drop (slot_at i) b))) where
      in_states : t ≡ all_within (get_or b (states_at (i / most_states)) 0) (sets_at b i)
      in_states = g ∙ ap (all_within (get_or b (states_at (i / most_states)) 0)) lent

      pub slot_strays : not t ≡ true → refused 15 ≡ judge_slot b tt 0 i
      unfolding judge_slot
      slot_strays e = sym (rw (sym in_states ∙ not-true t e) refl)

      module _ (e : not t ≡ false) where
        module _ (one : Bool) (ruled : one ≡ needs_one_next (get_or b (rule_at (i / most_states)) 0)) where
          pub slot_free : one ≡ false → passed tt ≡ judge_slot b tt 0 i
          unfolding judge_slot
          slot_free n = sym (rw (sym in_states ∙ not-false t e, sym ruled ∙ n) refl)

          module _ (needs : one ≡ true) (u : Bool) (k : u ≡ all_single (take (slot_at i + w - (slot_at i)) (drop (slot_at i) b))) where
            pub slot_fine : not u ≡ false → passed tt ≡ judge_slot b tt 0 i
            unfolding judge_slot
            slot_fine m = sym (rw (sym in_states ∙ not-false t e, sym ruled ∙ needs, sym (k ∙ ap all_single lent) ∙ not-false u m) refl)

            pub slot_ambiguous : not u ≡ true → refused 16 ≡ judge_slot b tt 0 i
            unfolding judge_slot
            slot_ambiguous m = sym (rw (sym in_states ∙ not-false t e, sym ruled ∙ needs, sym (k ∙ ap all_single lent) ∙ not-true u m) refl)

pub ruleset slot_kit = (states_bound, sets_end, slot_strays, slot_free, slot_fine, slot_ambiguous)

-- ---- the slots

-- The faults of the slots from i on, where the first of them has this line.
pub late_from : List ℕ → ℕ → ℕ → Outcome (Unit {0})
late_from b line i = walk (judge_slot b) tt line (slots_from b (all_states - i) i)

pub late_start : (b : List ℕ) → late_faults b ≡ late_from b 2 0
unfolding late_from
late_start b = refl

module _ (b : List ℕ) (line i : ℕ) (inv : late_faults b ≡ late_from b line i) where
  pub late_end : i ≤ all_states → all_states ≤ i → accepted tt ≡ late_faults b
  unfolding late_from slots_from
  late_end h k = let e : i ≡ all_states = omega arith in sym (inv ∙ rw e (walk_nil (judge_slot b) tt line))

  module _ (h : i < all_states) (w : ℕ) (count : w ≡ get_or b (states_at (i / most_states)) 0) where
    next : slots_from b (all_states - i) i ≡ cons_if (has_state b i) i (slots_from b (all_states - (i + 1)) (i + 1))
    unfolding slots_from
    next = let e : all_states - i ≡ suc (all_states - (i + 1)) = omega arith in rw e refl

    pub late_skip : w ≤ i % most_states → late_faults b ≡ late_from b line (i + 1)
    unfolding late_from
    late_skip k =
        inv ∙ ap (walk (judge_slot b) tt line) (next ∙ ap (λ (t : Bool). cons_if t i (slots_from b (all_states - (i + 1)) (i + 1))) (le-ltb (i % most_states) (get_or b (states_at (i / most_states)) 0) (omega arith)))

    module _ (k : i % most_states < w) (a : Result (Unit {0}) Refusal) (said : slot_said a ≡ judge_slot b tt 0 i) where
      here : late_faults b ≡ proceed line (slot_said a) (λ t. walk (judge_slot b) t (line + 1) (slots_from b (all_states - (i + 1)) (i + 1)))
      unfolding late_from judge_slot
      here =
          inv ∙ ap (walk (judge_slot b) tt line) (next ∙ ap (λ (t : Bool). cons_if t i (slots_from b (all_states - (i + 1)) (i + 1))) (lt-ltb (i % most_states) (get_or b (states_at (i / most_states)) 0) (omega arith)))
          ∙ walk_cons (judge_slot b) tt line i (slots_from b (all_states - (i + 1)) (i + 1))
          ∙ ap (λ (j : Judged (Unit {0})). proceed line j (λ t. walk (judge_slot b) t (line + 1) (slots_from b (all_states - (i + 1)) (i + 1)))) (sym said)

      module _ (c : Result (Unit {0}) (Fault Refusal)) (lined : c ≡ in_line line a) where
        pub late_fault : (f : Fault Refusal) → c ≡ Err f → faulty (refusal_number f.refusal) f.line ≡ late_faults b
        late_fault f p = sym (here ∙ go a (sym lined ∙ p))
          where
            go : (x : Result (Unit {0}) Refusal) → in_line line x ≡ Err f
                → proceed line (slot_said x) (λ t. walk (judge_slot b) t (line + 1) (slots_from b (all_states - (i + 1)) (i + 1))) ≡ faulty (refusal_number f.refusal) f.line
            go (Ok u) q = let z : ◌≡◌ {A = ℕ} 0 1 = cc in absurd (omega arith)
            go (Err r) q = let z : record { refusal = r; line = line } ≡ f = cc in rw (sym z) refl

        pub late_pass : (u : Unit {0}) → c ≡ Ok u → late_faults b ≡ late_from b (line + 1) (i + 1)
        unfolding late_from
        late_pass u p = here ∙ go a (sym lined ∙ p)
          where
            go : (x : Result (Unit {0}) Refusal) → in_line line x ≡ Ok u
                → proceed line (slot_said x) (λ t. walk (judge_slot b) t (line + 1) (slots_from b (all_states - (i + 1)) (i + 1)))
                ≡ walk (judge_slot b) tt (line + 1) (slots_from b (all_states - (i + 1)) (i + 1))
            go (Ok v) q = refl
            go (Err r) q = let z : ◌≡◌ {A = ℕ} 0 1 = cc in absurd (omega arith)

pub state_place : (b : List ℕ) (i : ℕ) → Bounded b → i < all_states → states_at (i / most_states) < length b
state_place b i f h = let s = f.size in omega arith

pub ruleset late_kit = (late_start, late_end, late_skip, late_fault, late_pass, state_place)
