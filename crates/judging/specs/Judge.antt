-- The judge's answer, and what it leaves in the result and in the work buffer (document 01, "Lent rooms" and "Who is at fault").
-- Only the documented lengths of the pattern and the log buffer are looked at.
use Rattle.std.specs.Prelude.{ℕ, Bool, not, List, [], ◌∷◌, ◌++◌, eqb, ltb, length, take, drop}
use Rattle.answer.specs.declared.Answer.{Answer}
use Rattle.answer.specs.Answers.{accepted_with, refused_at}
use Rattle.answer.specs.Faults.{Fault, when, first_fault, answer_or, kept_or}
use Rattle.necklace.specs.Dag.{Dag}
use Rattle.necklace.specs.Necklace.{Pattern}
use Rattle.layout.specs.Layout.{pattern_length, log_length, result_length, work_length}
use Rattle.pattern_buffer.specs.Meaning.{pattern_of, labels_in}
use Rattle.pattern_buffer.specs.Valid.{is_pattern}
use Rattle.log_buffer.specs.Meaning.{log_of_room}
use Rattle.log_buffer.specs.Valid.{is_log}
use Rattle.results.specs.Result.{whole_up_to, rows_of, zeros}

-- What the two buffers are read as.
abbrev pub pattern_in : List ℕ → Pattern
pattern_in pattern = pattern_of (take pattern_length pattern)

abbrev pub log_in : List ℕ → Dag
log_in log = log_of_room (take log_length log)

-- 6, then 7, of a pattern and a log buffer of their documented lengths.
abbrev pub buffer_faults : List ℕ → List ℕ → List Fault
buffer_faults pattern log =
    when (not (is_pattern pattern)) (refused_at 6 0)
    ∷ when (not (is_log (labels_in pattern) log)) (refused_at 7 0)
    ∷ []

-- The judge's refusals: 1, 2, 3, 4, a buffer is shorter than documented; then 6, then 7.
abbrev pub judge_faults : List ℕ → List ℕ → List ℕ → List ℕ → List Fault
judge_faults pattern log result work =
    when (ltb (length log) log_length) (refused_at 1 0)
    ∷ when (ltb (length pattern) pattern_length) (refused_at 2 0)
    ∷ when (ltb (length result) result_length) (refused_at 3 0)
    ∷ when (ltb (length work) work_length) (refused_at 4 0)
    ∷ buffer_faults (take pattern_length pattern) (take log_length log)

-- Accepted counts the steps at which the whole pattern holds.
abbrev pub judge_answer : List ℕ → List ℕ → List ℕ → List ℕ → Answer
judge_answer pattern log result work =
    answer_or (first_fault (judge_faults pattern log result work)) (accepted_with (whole_up_to (log_in log) (pattern_in pattern) (log_in log).size))

-- The call is accepted.
abbrev pub accepts : List ℕ → List ℕ → List ℕ → List ℕ → Bool
accepts pattern log result work = eqb (judge_answer pattern log result work).number 0

-- The result buffer: the rows and zeros of an accepted judging in front, the rest as it was.
abbrev pub result_after : List ℕ → List ℕ → List ℕ → List ℕ → List ℕ
result_after pattern log result work =
    kept_or (first_fault (judge_faults pattern log result work)) result (rows_of (log_in log) (pattern_in pattern) ++ drop result_length result)

-- The work buffer: all 0 after an accepted judging, the rest as it was.
abbrev pub work_after : List ℕ → List ℕ → List ℕ → List ℕ → List ℕ
work_after pattern log result work = kept_or (first_fault (judge_faults pattern log result work)) work (zeros work_length ++ drop work_length work)
