-- The judge's answer for buffers of just their documented lengths: 6, then 7, then the judging.
use Rattle.std.specs.Prelude.{ℕ, List, ◌++◌, length, drop}
use Rattle.answer.specs.declared.Answer.{Answer}
use Rattle.answer.specs.Answers.{accepted_with}
use Rattle.answer.specs.Faults.{first_fault, answer_or, kept_or}
use Rattle.pattern_buffer.specs.Meaning.{pattern_of}
use Rattle.log_buffer.specs.Meaning.{log_of_room}
use Rattle.layout.specs.Layout.{result_length}
use Rattle.judging.specs.Judge.{buffer_faults}
use Rattle.results.specs.Result.{whole_up_to, rows_of, zeros}

abbrev pub fit_answer : List ℕ → List ℕ → Answer
fit_answer pattern log =
    answer_or (first_fault (buffer_faults pattern log)) (accepted_with (whole_up_to (log_of_room log) (pattern_of pattern) (log_of_room log).size))

abbrev pub fit_result : List ℕ → List ℕ → List ℕ → List ℕ
fit_result pattern log result =
    kept_or (first_fault (buffer_faults pattern log)) result (rows_of (log_of_room log) (pattern_of pattern) ++ drop result_length result)

abbrev pub fit_work : List ℕ → List ℕ → List ℕ → List ℕ
fit_work pattern log work = kept_or (first_fault (buffer_faults pattern log)) work (zeros (length work))
