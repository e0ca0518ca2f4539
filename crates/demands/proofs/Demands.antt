-- Demands 2 and 3, and the dual property, about accepted calls of the judge.
-- Assumes nothing.
use Prim.Native.Nat.{ℕ, zero, suc, ◌+◌, ◌-◌, ◌*◌, ◌≤◌, ◌<◌}
use mathlib.Core.Path.{◌≡◌, refl, sym, ap, ap₂, ◌∙◌, subst, fun_ext}
use mathlib.Core.Logic.{◌↔◌}
use mathlib.Core.Bool.{Bool, true, false, not, cond, ◌&&◌}
use mathlib.Core.List.{List, [], ◌∷◌}
use native.Mathlib.Omega.{arith}
use native.Mathlib.Decide.{dec_lt}
use borrow.Author.Tests.{lt-ltb, le-ltb}
use lib.Dec.{T, eqb, ltb, leb→le}
use lib.ListN.{length, get_or, take, drop}
use Rattle.lists.specs.Places.{at}
use Rattle.sets.specs.Sets.{member, members, complement, set_of}
use Rattle.sets.proofs.Laws.{member_complement, set_of_above}
use Rattle.sets.proofs.Truth.{no_false}
use Rattle.necklace.specs.Dag.{Dag, WellFormed}
use Rattle.necklace.specs.Automaton.{Automaton, OneNext, exchange}
use Rattle.necklace.specs.Necklace.{Modality, SOME, ALL, Pattern, Primitive, WellFormedPattern, IsRow}
use Rattle.necklace.specs.Past.{Alike, OnlyAdds}
use Rattle.necklace.specs.Compute.{holds?, row}
use Rattle.necklace.proofs.RowMeaning.{row_meaning, row_first, prefixes_member}
use Rattle.necklace.proofs.Here as Here
use Rattle.necklace.proofs.EqualPasts as EqualPasts
use Rattle.necklace.proofs.OnlyAdds as OnlyAdds
use Rattle.necklace.proofs.Duality.{dual_rows}
use Rattle.layout.specs.Layout.{most_labels, most_states, rule_at, states_at, accepting_at, next_at, pattern_length, log_length}
use Rattle.pattern_buffer.specs.Meaning.{labels_in, beads_in, modality_of, automaton_of, pattern_of}
use Rattle.pattern_buffer.specs.Valid.{is_pattern}
use Rattle.pattern_buffer.proofs.Meaning.{pattern_well_formed, rule_some, rule_all}
use Rattle.log_buffer.specs.Valid.{is_log}
use Rattle.log_buffer.proofs.Meaning.{log_well_formed}
use Rattle.judging.specs.Judge.{pattern_in, log_in, judge_answer, accepts, result_after}
use Rattle.results.specs.Result.{whole_up_to, row_in}
use Rattle.demands.specs.Demands.{rule_holds, rows_with_bit, Exchanged}
use Rattle.judging.proofs.Calls.{Accepted, passed_all, answer_accepted, row_in_result}

-- An automaton with its states exchanged has the same next states.
same_next : {c : ℕ} {A : Automaton} → OneNext c (exchange A) → OneNext c A
same_next d = record { initial = d.initial; one = d.one }

accepting_exchanged : (n s r : ℕ) → member r (complement n s) ≡ (ltb r n && not (member r s))
accepting_exchanged n s r = go (dec_lt r n)
  where
    go : Dec (r < n) → member r (complement n s) ≡ (ltb r n && not (member r s))
    go (yes h) = member_complement n s r h ∙ rw (lt-ltb r n h)
    go (no k) =
        let g : n ≤ r = omega arith in
        no_false (member r (complement n s)) (set_of_above n (λ i. not (member i s)) r g) ∙ rw (le-ltb r n g)

exchanged_automaton : (p q : List ℕ) → Exchanged p q → automaton_of q 0 ≡ exchange (automaton_of p 0)
exchanged_automaton p q x = λ i. record { states = x.states i; next = nexts i; accepting = finals i }
  where
    nexts : ◌≡◌ {A = ℕ → ℕ → List ℕ} (automaton_of q 0).next (automaton_of p 0).next
    nexts =
        fun_ext (λ s. fun_ext (λ a. ap (λ (set : ℕ). cond (ltb s most_states && ltb a most_labels) (members most_states set) []) (x.next (next_at 0 s a) (omega arith))))

    finals : ◌≡◌ {A = ℕ → Bool} (automaton_of q 0).accepting (exchange (automaton_of p 0)).accepting
    finals = fun_ext (λ r. ap (member r) x.accepting ∙ accepting_exchanged (at p (states_at 0)) (at p (accepting_at 0)) r)

-- An accepted call's log and pattern are well formed over the pattern's labels.
log_of_call : {pattern log result work : List ℕ} → Accepted pattern log result work → WellFormed (labels_in (take pattern_length pattern)) (log_in log)
log_of_call {pattern} {log} a = log_well_formed (labels_in (take pattern_length pattern)) (take log_length log) a.log_passes

pattern_of_call : {pattern log result work : List ℕ} → Accepted pattern log result work → WellFormedPattern (labels_in (take pattern_length pattern)) (pattern_in pattern)
pattern_of_call {pattern} a = pattern_well_formed (take pattern_length pattern) a.pattern_passes

-- Demand 2: the row of each step is the one that the papers define, and the count is the number of rows with the last bead's bit.
module _ (pattern log result work : List ℕ) (t : T (accepts pattern log result work)) where
  a : Accepted pattern log result work
  a = passed_all pattern log result work t

  pub demand_two : (v : ℕ) → v < (log_in log).size → IsRow (log_in log) (pattern_in pattern) v (row_in (result_after pattern log result work) v)
  demand_two v h = rw (row_in_result pattern log result work t v h) (row_meaning (log_of_call a) (pattern_of_call a) v)

  last_bit : (v : ℕ) → v < (log_in log).size
      → member ((pattern_in pattern).count - 1) (get_or (row_in (result_after pattern log result work) v) 0 0) ≡ holds? (log_in log) (pattern_in pattern) (pattern_in pattern).count v
  last_bit v h =
      let some = (pattern_of_call a).some_bead in
      let e : suc ((pattern_in pattern).count - 1) ≡ (pattern_in pattern).count = omega arith in
      ap (λ (r : List ℕ). member ((pattern_in pattern).count - 1) (get_or r 0 0)) (row_in_result pattern log result work t v h)
      ∙ ap (member ((pattern_in pattern).count - 1)) (row_first (log_in log) (pattern_in pattern) v)
      ∙ prefixes_member (log_in log) (pattern_in pattern) v ((pattern_in pattern).count - 1) (omega arith)
      ∙ ap (λ (k : ℕ). holds? (log_in log) (pattern_in pattern) k v) e

  counted : (n : ℕ) → n ≤ (log_in log).size → whole_up_to (log_in log) (pattern_in pattern) n ≡ rows_with_bit (result_after pattern log result work) (pattern_in pattern).count n
  unfolding whole_up_to rows_with_bit
  counted zero h = refl
  counted (suc n) h = ap₂ (λ (x : ℕ) (b : Bool). x + cond b 1 0) (counted n (omega arith)) (sym (last_bit n (omega arith)))

  pub demand_two_count : (judge_answer pattern log result work).count ≡ rows_with_bit (result_after pattern log result work) (pattern_in pattern).count (log_in log).size
  demand_two_count = ap (λ (x : Rattle.answer.specs.declared.Answer.Answer). x.count) (answer_accepted pattern log result work a) ∙ counted (log_in log).size (omega arith)

  -- Step 0 (document 02, ask 3): the first bead holds there, on the route with no link, if and only if its state 0 is final.
  pub start_holds : T (rule_holds (result_after pattern log result work) 0) ↔ T (member 0 (at (take pattern_length pattern) (accepting_at 0)))
  unfolding pattern_of
  start_holds =
      let s = Here.start_holds (log_of_call a) (pattern_of_call a) in
      let first = row_in_result pattern log result work t 0 (log_of_call a).started in
      (λ x. s.0 (rw first at x), λ x. rw first (s.1 x))

-- Demand 3, first half: logs alike in the past of a step, accepted under one pattern, show the same row there.
pub equal_pasts : (pattern log₁ result₁ work₁ log₂ result₂ work₂ : List ℕ) → T (accepts pattern log₁ result₁ work₁) → T (accepts pattern log₂ result₂ work₂)
    → (v : ℕ) → Alike (log_in log₁) (log_in log₂) v → row_in (result_after pattern log₁ result₁ work₁) v ≡ row_in (result_after pattern log₂ result₂ work₂) v
equal_pasts pattern log₁ result₁ work₁ log₂ result₂ work₂ t u v k =
    row_in_result pattern log₁ result₁ work₁ t v k.left
    ∙ EqualPasts.equal_pasts (log_of_call (passed_all pattern log₁ result₁ work₁ t)) (log_of_call (passed_all pattern log₂ result₂ work₂ u)) (pattern_in pattern) v k
    ∙ sym (row_in_result pattern log₂ result₂ work₂ u v k.right)

-- Demand 3, second half: under a pattern of one bead, a log that only adds keeps a SOME that held and an ALL that failed.
module _ (pattern log₁ result₁ work₁ log₂ result₂ work₂ : List ℕ) (t : T (accepts pattern log₁ result₁ work₁)) (u : T (accepts pattern log₂ result₂ work₂))
    (one : beads_in (take pattern_length pattern) ≡ 1) (k : OnlyAdds (log_in log₁) (log_in log₂)) (v : ℕ) (h : v < (log_in log₁).size) where
  adds : (((pattern_in pattern).bead 0).modality ≡ SOME → T (member 0 (get_or (row (log_in log₁) (pattern_in pattern) v) 0 0)) → T (member 0 (get_or (row (log_in log₂) (pattern_in pattern) v) 0 0)))
      × (((pattern_in pattern).bead 0).modality ≡ ALL → (T (member 0 (get_or (row (log_in log₁) (pattern_in pattern) v) 0 0)) → ⊥) → T (member 0 (get_or (row (log_in log₂) (pattern_in pattern) v) 0 0)) → ⊥)
  adds = OnlyAdds.only_adds (log_of_call (passed_all pattern log₁ result₁ work₁ t)) (log_of_call (passed_all pattern log₂ result₂ work₂ u)) (pattern_of_call (passed_all pattern log₁ result₁ work₁ t)) k v

  first : row_in (result_after pattern log₁ result₁ work₁) v ≡ row (log_in log₁) (pattern_in pattern) v
  first = row_in_result pattern log₁ result₁ work₁ t v h

  second : row_in (result_after pattern log₂ result₂ work₂) v ≡ row (log_in log₂) (pattern_in pattern) v
  second = row_in_result pattern log₂ result₂ work₂ u v (subst (λ (n : ℕ). v < n) (sym k.size) h)

  pub only_adds_some : at (take pattern_length pattern) (rule_at 0) ≡ 1 → T (rule_holds (result_after pattern log₁ result₁ work₁) v) → T (rule_holds (result_after pattern log₂ result₂ work₂) v)
  unfolding pattern_of
  only_adds_some r x = rw second (adds.0 (rule_some (at (take pattern_length pattern) (rule_at 0)) r) (rw first at x))

  pub only_adds_all : at (take pattern_length pattern) (rule_at 0) ≡ 2 → (T (rule_holds (result_after pattern log₁ result₁ work₁) v) → ⊥) → T (rule_holds (result_after pattern log₂ result₂ work₂) v) → ⊥
  unfolding pattern_of
  only_adds_all r f x = adds.1 (rule_all (at (take pattern_length pattern) (rule_at 0)) r) (λ y. f (rw first y)) (rw second at x)

-- The dual property: SOME is the denial of ALL with final and other states exchanged.
-- `Exchanges.dual_every` says it of every pattern that has such a partner.
module _ (p q log result work : List ℕ) (x : Exchanged (take pattern_length p) (take pattern_length q))
    (t : T (accepts p log result work)) (u : T (accepts q log result work)) (v : ℕ) (h : v < (log_in log).size) where
  some_bead : ((pattern_in p).bead 0).modality ≡ SOME
  unfolding pattern_of
  some_bead = rule_some (at (take pattern_length p) (rule_at 0)) x.some_rule

  all_bead : ((pattern_in q).bead 0).modality ≡ ALL
  unfolding pattern_of
  all_bead = rule_all (at (take pattern_length q) (rule_at 0)) x.all_rule

  other_states : ((pattern_in q).bead 0).automaton ≡ exchange ((pattern_in p).bead 0).automaton
  unfolding pattern_of
  other_states = exchanged_automaton (take pattern_length p) (take pattern_length q) x

  known_labels : WellFormedPattern (labels_in (take pattern_length p)) (pattern_in q)
  known_labels = subst (λ (c : ℕ). WellFormedPattern c (pattern_in q)) x.labels (pattern_of_call (passed_all q log result work u))

  one_next : OneNext (labels_in (take pattern_length p)) ((pattern_in p).bead 0).automaton
  one_next = same_next (subst (OneNext (labels_in (take pattern_length p))) other_states (known_labels.one_next 0 known_labels.some_bead all_bead))

  pub dual : T (rule_holds (result_after p log result work) v) ↔ (T (rule_holds (result_after q log result work) v) → ⊥)
  dual =
      let d = dual_rows (log_of_call (passed_all p log result work t)) (pattern_of_call (passed_all p log result work t)) known_labels one_next some_bead all_bead other_states v h in
      let first = row_in_result p log result work t v h in
      let second = row_in_result q log result work u v h in
      (λ y g. d.0 (rw first at y) (rw second at g), λ f. rw first (d.1 (λ y. f (rw second y))))
