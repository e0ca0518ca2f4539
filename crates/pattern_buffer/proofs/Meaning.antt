-- What a buffer that passes means: a pattern that is well formed; and the places of the buffer that its parts are read from.
use Prim.Native.Nat.{ℕ, suc, ◌-◌, ◌^◌, ◌≤◌, ◌<◌}
use mathlib.Core.Path.{◌≡◌, refl, sym, ap, ◌∙◌, subst}
use mathlib.Core.Bool.{Bool, true, false, not, cond, ◌||◌}
use mathlib.Core.List.{List, [], ◌∷◌}
use native.Mathlib.Omega.{arith}
use borrow.Author.Tests.{eqb-true}
use lib.Dec.{T, eqb, eqb→eq}
use lib.Count.{ones}
use lib.Pow.{pow_mono}
use Rattle.lists.specs.Places.{at}
use Rattle.sets.specs.Sets.{member, members}
use Rattle.sets.proofs.Laws.{single_count}
use Rattle.sets.proofs.Truth.{true_yes, both_true}
use Rattle.std.specs.List.{list_all}
use Rattle.rules.specs.Rules.{Rule, rules, one_next_in, is_rule, needs_one_next}
use Rattle.rules.proofs.RuleLaws.{every}
use Rattle.necklace.specs.Tests.{is_all, differ}
use Rattle.necklace.specs.Necklace.{Modality, SOME, ALL, WellFormedPattern}
use Rattle.layout.specs.Layout.{most_labels, most_states, rule_at, states_at, accepting_at, next_at}
use Rattle.pattern_buffer.specs.Meaning.{labels_in, beads_in, Meant, modalities, modality_in, modality_of, pattern_of}
use Rattle.pattern_buffer.specs.Valid.{is_pattern}
use Rattle.pattern_buffer.proofs.Places.{Passes, passes_out, bead_there, next_there}
use Rattle.pattern_buffer.proofs.Nexts.{next_read}
use Rattle.pattern_buffer.proofs.OneNext.{AllOne, one_next}

-- ---- the places that the parts of the pattern are read from

module _ (b : List ℕ) where
  pub count_is : (pattern_of b).count ≡ beads_in b
  unfolding pattern_of
  count_is = refl

  module _ (j : ℕ) where
    pub modality_is : ((pattern_of b).bead j).modality ≡ modality_of (at b (rule_at j))
    unfolding pattern_of
    modality_is = refl

    pub states_is : ((pattern_of b).bead j).automaton.states ≡ at b (states_at j)
    unfolding pattern_of
    states_is = refl

    pub next_is : (q a : ℕ) → q < most_states → a < most_labels → ((pattern_of b).bead j).automaton.next q a ≡ members most_states (at b (next_at j q a))
    unfolding pattern_of
    next_is q a h k = next_read b j q a h k

    pub accepting_is : (q : ℕ) → ((pattern_of b).bead j).automaton.accepting q ≡ member q (at b (accepting_at j))
    unfolding pattern_of
    accepting_is q = refl

-- ---- the modalities of the rules

-- 1 is SOME, 2 is ALL
pub rule_some : (rule : ℕ) → rule ≡ 1 → modality_of rule ≡ SOME
unfolding modalities modality_in
rule_some rule e = rw e

pub rule_all : (rule : ℕ) → rule ≡ 2 → modality_of rule ≡ ALL
unfolding modalities modality_in
rule_all rule e = rw e

-- Those that know these two alone ask only whether the rule is 2.
pub by_all : (rule : ℕ) → modality_of rule ≡ cond (eqb rule 2) ALL SOME
unfolding modalities modality_in
by_all rule = go (eqb rule 1) refl
  where
    go : (t : Bool) → eqb rule 1 ≡ t → cond t SOME (cond (eqb rule 2) ALL SOME) ≡ cond (eqb rule 2) ALL SOME
    go true e = rw (eqb-true rule 1 e)
    go false e = refl

-- An ALL bead's rule needs just one next state.
all_in_table : (ms : List Meant) → list_all (λ (m : Meant). not (is_all m.modality) || needs_one_next m.number) ms ≡ true → (n : ℕ)
    → is_all (modality_in ms n) ≡ true → T (needs_one_next n)
unfolding modality_in
all_in_table [] e n a = let z : ◌≡◌ {A = ℕ} 0 1 = cc in absurd (omega arith)
all_in_table (m ∷ ms) e n a =
    let f = both_true (not (is_all m.modality) || needs_one_next m.number) (list_all (λ (m : Meant). not (is_all m.modality) || needs_one_next m.number) ms) e in
    go (eqb n m.number) refl (is_all m.modality) refl f.0 (all_in_table ms f.1 n) a
  where
    go : (t : Bool) → eqb n m.number ≡ t → (u : Bool) → is_all m.modality ≡ u → (not u || needs_one_next m.number) ≡ true
        → (is_all (modality_in ms n) ≡ true → T (needs_one_next n)) → is_all (cond t m.modality (modality_in ms n)) ≡ true → T (needs_one_next n)
    go true q true p f rest a = rw (eqb-true n m.number q) (true_yes (needs_one_next m.number) f)
    go true q false p f rest a = let z : ◌≡◌ {A = ℕ} 0 1 = cc in absurd (omega arith)
    go false q u p f rest a = rest a

table_needs : list_all (λ (m : Meant). not (is_all m.modality) || needs_one_next m.number) modalities ≡ true
unfolding modalities rules one_next_in
table_needs = refl

pub all_needs : (rule : ℕ) → modality_of rule ≡ ALL → T (needs_one_next rule)
all_needs rule e = all_in_table modalities table_needs rule (ap is_all e)

-- Rules of one modality are the same.
table_differs : list_all (λ (r : Rule). list_all (λ (s : Rule). differ (modality_of r.number) (modality_of s.number) || eqb r.number s.number) rules) rules
    ≡ true
unfolding rules modalities modality_in
table_differs = refl

differ_self : (m : Modality) → differ m m ≡ false
differ_self SOME = refl
differ_self ALL = refl

same_modality : (r s : ℕ) → T (is_rule r) → T (is_rule s) → modality_of r ≡ modality_of s → r ≡ s
same_modality r s p q e =
    let f = every (λ n. list_all (λ (t : Rule). differ (modality_of n) (modality_of t.number) || eqb n t.number) rules) table_differs r p in
    let g = every (λ m. differ (modality_of r) (modality_of m) || eqb r m) f s q in
    go (differ (modality_of r) (modality_of s)) (ap (differ (modality_of r)) (sym e) ∙ differ_self (modality_of r)) g
  where
    go : (d : Bool) → d ≡ false → (d || eqb r s) ≡ true → r ≡ s
    go true z f = let y : ◌≡◌ {A = ℕ} 0 1 = cc in absurd (omega arith)
    go false z f = eqb-true r s f

-- ---- the pattern is well formed

module _ (b : List ℕ) (t : T (is_pattern b)) where
  passes : Passes b
  passes = passes_out b t

  turns : (j : ℕ) → suc j < beads_in b → modality_of (at b (rule_at j)) ≡ modality_of (at b (rule_at (suc j))) → ⊥
  turns j h e =
      let g = bead_there b passes j (omega arith) in
      let k = bead_there b passes (suc j) h in
      let z : suc j - 1 ≡ j = omega arith in
      k.turn (omega arith)
      (sym (same_modality (at b (rule_at j)) (at b (rule_at (suc j))) g.rule k.rule e)
      ∙ ap (λ (i : ℕ). at b (rule_at i)) (sym z))

  ones_in : (j : ℕ) → j < beads_in b → T (needs_one_next (at b (rule_at j))) → AllOne b j
  ones_in j h e q a k l =
      let n = next_there b passes j q a h k l in
      let wide : 2 ^ at b (states_at j) ≤ 2 ^ most_states = pow_mono (bead_there b passes j h).states_most in
      eqb→eq (ones (at b (next_at j q a))) 1
      (subst T (sym (single_count most_states (at b (next_at j q a)) (let i = n.inside in omega arith))) (n.one e))

  pub pattern_well_formed : WellFormedPattern (labels_in b) (pattern_of b)
  unfolding pattern_of
  pattern_well_formed = record {
    some_bead = passes.some_bead;
    at_most = passes.beads_most;
    alternate = turns;
    one_next = λ j h e. (one_next b t j h).0 (ones_in j h (all_needs (at b (rule_at j)) e));
  }
