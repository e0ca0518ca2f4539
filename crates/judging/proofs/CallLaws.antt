-- The judge's call behind tests 1 to 4: the two buffers' tests and the judging, on the documented lengths.
-- Assumes nothing.
use Prim.Native.Nat.{ℕ, ◌≤◌, ◌<◌}
use mathlib.Core.Path.{◌≡◌, refl, sym, ap, ◌∙◌}
use mathlib.Core.Option.{Option, none, some}
use mathlib.Core.List.{List, ◌++◌}
use native.Mathlib.Omega.{arith}
use borrow.Author.Tests.{le-ltb}
use borrow.Rule.Slice.PartMut.{put_mid}
use lib.ListN.{length, take, drop, take-append-drop}
use lib.Seq.{length-take-le}
use Rattle.answer.specs.declared.Answer.{Answer}
use Rattle.answer.specs.Answers.{accepted_with}
use Rattle.answer.specs.Faults.{first_fault, answer_or, kept_or}
use Rattle.layout.specs.Layout.{pattern_length, log_length, result_length, work_length}
use Rattle.judging.specs.Judge.{pattern_in, log_in, buffer_faults, judge_faults, judge_answer, result_after, work_after}
use Rattle.results.specs.Result.{whole_up_to, rows_of, zeros}
use Rattle.judging.specs.inner.Fit.{fit_answer, fit_result, fit_work}

module _ (pattern log result work : List ℕ) (a : log_length ≤ length log) (b : pattern_length ≤ length pattern) (c : result_length ≤ length result) (d : work_length ≤ length work) where
  -- Only 6 and 7 are left.
  pub long_enough : first_fault (judge_faults pattern log result work) ≡ first_fault (buffer_faults (take pattern_length pattern) (take log_length log))
  unfolding first_fault
  long_enough =
      rw (le-ltb (length log) log_length a, le-ltb (length pattern) pattern_length b, le-ltb (length result) result_length c, le-ltb (length work) work_length d)

  pub call_answer : (r : Answer) → r ≡ fit_answer (take pattern_length pattern) (take log_length log) → r ≡ judge_answer pattern log result work
  call_answer r e =
      e ∙ ap (λ (o : Option Answer). answer_or o (accepted_with (whole_up_to (log_in log) (pattern_in pattern) (log_in log).size))) (sym long_enough)

  pub call_result : (exit : List ℕ) → exit ≡ fit_result (take pattern_length pattern) (take log_length log) result → exit ≡ result_after pattern log result work
  call_result exit e =
      e ∙ ap (λ (o : Option Answer). kept_or o result (rows_of (log_in log) (pattern_in pattern) ++ drop result_length result)) (sym long_enough)

  pub call_work : (inner : List ℕ) → inner ≡ fit_work (take pattern_length pattern) (take log_length log) (take work_length work) → put_mid 0 work_length work inner ≡ work_after pattern log result work
  unfolding kept_or
  call_work inner e =
      ap (λ (x : List ℕ). x ++ drop work_length work) e
      ∙ go (first_fault (buffer_faults (take pattern_length pattern) (take log_length log)))
      ∙ ap (λ (o : Option Answer). kept_or o work (zeros work_length ++ drop work_length work)) (sym long_enough)
    where
      go : (o : Option Answer) → kept_or o (take work_length work) (zeros (length (take work_length work))) ++ drop work_length work
          ≡ kept_or o work (zeros work_length ++ drop work_length work)
      go none = rw (length-take-le work_length work d) refl
      go (some refused) = take-append-drop work_length work

-- The parts that are lent have their lengths.
pub part_counts : (n : ℕ) (l : List ℕ) → n ≤ length l → n ≡ length (take n l)
part_counts n l h = sym (length-take-le n l h)

pub part_long : (n : ℕ) (l : List ℕ) → n ≤ length l → length (take n l) ≡ n
part_long n l h = length-take-le n l h

pub part_some : (l : List ℕ) → pattern_length ≤ length l → 0 < length (take pattern_length l)
part_some l h = let e = length-take-le pattern_length l h in omega arith

pub part_log : (l : List ℕ) → log_length ≤ length l → log_length ≤ length (take log_length l)
part_log l h = let e = length-take-le log_length l h in omega arith

pub ruleset part_kit = (part_long, part_some, part_log)
