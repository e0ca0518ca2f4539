-- What it says of a call that it is accepted: the tests that it passed, and the rows that it leaves.
-- Assumes nothing.
use Prim.Native.Nat.{ℕ, ◌-◌, ◌*◌, ◌≤◌, ◌<◌}
use mathlib.Core.Path.{◌≡◌, refl, sym, ap, ◌∙◌, subst}
use mathlib.Core.Bool.{Bool, false, not}
use mathlib.Core.List.{List, ◌++◌, append_assoc}
use borrow.Author.Tests.{ltb-false, le-ltb, not-false}
use lib.Dec.{T, eqb}
use lib.ListN.{length, take, drop, replicate}
use Rattle.sets.proofs.Truth.{true_yes, yes_true}
use Rattle.answer.specs.declared.Answer.{Answer}
use Rattle.answer.specs.Answers.{accepted_with}
use Rattle.answer.specs.Faults.{Fault}
use Rattle.answer.proofs.FaultLaws.{Passed, passed_later, passed_all as none_left, passed_first, passed_others, answer_accepted as accepted_answer, room_filled, numbered, accepted_passed}
use Rattle.necklace.specs.Compute.{row}
use Rattle.results.proofs.RowPlaces.{row_there}
use Rattle.layout.specs.Layout.{pattern_length, log_length, result_length, work_length, row_length}
use Rattle.pattern_buffer.specs.Meaning.{labels_in}
use Rattle.pattern_buffer.specs.Valid.{is_pattern}
use Rattle.log_buffer.specs.Valid.{is_log}
use Rattle.judging.specs.Judge.{pattern_in, log_in, judge_faults, judge_answer, accepts, result_after, work_after}
use Rattle.results.specs.Result.{rows_up_to, whole_up_to, rows_of, zeros, row_in}

-- The tests that an accepted call passed.
pub record Accepted (pattern log result work : List ℕ) : Type 0 where
  pub log_long : log_length ≤ length log
  pub pattern_long : pattern_length ≤ length pattern
  pub result_long : result_length ≤ length result
  pub work_long : work_length ≤ length work
  pub pattern_passes : T (is_pattern (take pattern_length pattern))
  pub log_passes : T (is_log (labels_in (take pattern_length pattern)) (take log_length log))

module _ (pattern log result work : List ℕ) where
  abbrev faults : List Fault
  faults = judge_faults pattern log result work

  no_fault : T (accepts pattern log result work) → Passed faults
  unfolding numbered
  no_fault t = accepted_passed faults (whole_up_to (log_in log) (pattern_in pattern) (log_in log).size) refl t

  granted : (b : Bool) → not b ≡ false → T b
  granted b e = true_yes b (not-false b e)

  -- The tests that an accepted call passed,
  pub passed_all : T (accepts pattern log result work) → Accepted pattern log result work
  passed_all t =
      let one = no_fault t in
      let two = passed_others _ _ _ one in
      let three = passed_others _ _ _ two in
      let four = passed_others _ _ _ three in
      let six = passed_others _ _ _ four in
      let seven = passed_others _ _ _ six in
      record {
        log_long = ltb-false (length log) log_length (passed_first _ _ _ one);
        pattern_long = ltb-false (length pattern) pattern_length (passed_first _ _ _ two);
        result_long = ltb-false (length result) result_length (passed_first _ _ _ three);
        work_long = ltb-false (length work) work_length (passed_first _ _ _ four);
        pattern_passes = granted (is_pattern (take pattern_length pattern)) (passed_first _ _ _ six);
        log_passes = granted (is_log (labels_in (take pattern_length pattern)) (take log_length log)) (passed_first _ _ _ seven);
      }

  given : (b : Bool) → T b → not b ≡ false
  given b t = ap not (yes_true b t)

  -- and conversely: who passes the tests has no fault.
  pub passed : Accepted pattern log result work → Passed faults
  passed a =
      passed_later _ _ _ (le-ltb (length log) log_length a.log_long)
      (passed_later _ _ _ (le-ltb (length pattern) pattern_length a.pattern_long)
      (passed_later _ _ _ (le-ltb (length result) result_length a.result_long)
      (passed_later _ _ _ (le-ltb (length work) work_length a.work_long)
      (passed_later _ _ _ (given (is_pattern (take pattern_length pattern)) a.pattern_passes)
      (passed_later _ _ _ (given (is_log (labels_in (take pattern_length pattern)) (take log_length log)) a.log_passes) none_left)))))

  pub answer_accepted : Accepted pattern log result work → judge_answer pattern log result work ≡ accepted_with (whole_up_to (log_in log) (pattern_in pattern) (log_in log).size)
  answer_accepted a = sym (accepted_answer faults _ _ (passed a) refl)

  pub accepted_call : Accepted pattern log result work → T (accepts pattern log result work)
  accepted_call a = subst (λ (x : Answer). T (eqb x.number 0)) (sym (answer_accepted a)) tt

  pub result_accepted : T (accepts pattern log result work) → result_after pattern log result work ≡ rows_of (log_in log) (pattern_in pattern) ++ drop result_length result
  result_accepted t = sym (room_filled faults result _ _ (no_fault t) refl)

  pub work_accepted : T (accepts pattern log result work) → work_after pattern log result work ≡ zeros work_length ++ drop work_length work
  work_accepted t = sym (room_filled faults work _ _ (no_fault t) refl)

-- The row of a step in the result of an accepted call.
pub row_in_result : (pattern log result work : List ℕ) → T (accepts pattern log result work) → (v : ℕ) → v < (log_in log).size
    → row_in (result_after pattern log result work) v ≡ row (log_in log) (pattern_in pattern) v
row_in_result pattern log result work t v h =
    ap (λ (l : List ℕ). row_in l v)
    (result_accepted pattern log result work t
    ∙ append_assoc (rows_up_to (log_in log) (pattern_in pattern) (log_in log).size) (replicate (result_length - row_length * (log_in log).size) 0) (drop result_length result))
    ∙ row_there (log_in log) (pattern_in pattern) (log_in log).size v (replicate (result_length - row_length * (log_in log).size) 0 ++ drop result_length result) h
