-- What writing a log back as a text answers, and what it leaves in the lent text buffer. Only the first 7,170 numbers of the log buffer are
-- looked at, and the label count decides refusals 5 and 7 and nothing else.
use Rattle.std.specs.Prelude.{ℕ, Bool, not, List, [], ◌∷◌, ◌++◌, eqb, ltb, length, take, drop}
use Rattle.answer.specs.declared.Answer.{Answer}
use Rattle.answer.specs.Answers.{accepted_with, refused_at}
use Rattle.answer.specs.Faults.{Fault, when, first_fault, answer_or, kept_or}
use Rattle.layout.specs.Layout.{log_length}
use Rattle.log_buffer.specs.Valid.{is_log}
use Rattle.log_texts.specs.Spelled.{text_of}
use Rattle.log_reader.specs.Answer.{bad_count}

-- The text: the header `vertex board labels preds`, and a line a step.
abbrev pub log_written : List ℕ → List ℕ
log_written log = text_of (take log_length log)

-- 7, then 8, of a log buffer of its documented length.
abbrev pub fit_faults : List ℕ → ℕ → List ℕ → List Fault
fit_faults log count text =
    when (not (is_log count log)) (refused_at 7 0)
    ∷ when (ltb (length text) (length (text_of log))) (refused_at 8 0)
    ∷ []

-- The refusals: 1, the log buffer is shorter than 7,170; 5, the label count is not 1 to 16; 7, no accepted text gives the buffer under that
-- count; 8, the text does not fit the text buffer.
abbrev pub write_faults : List ℕ → ℕ → List ℕ → List Fault
write_faults log count text =
    when (ltb (length log) log_length) (refused_at 1 0)
    ∷ when (bad_count count) (refused_at 5 0)
    ∷ fit_faults (take log_length log) count text

-- Accepted counts the bytes of the text.
abbrev pub write_answer : List ℕ → ℕ → List ℕ → Answer
write_answer log count text = answer_or (first_fault (write_faults log count text)) (accepted_with (length (log_written log)))

-- The text buffer: the text in front and the rest as it was, or all as it was.
abbrev pub text_after : List ℕ → ℕ → List ℕ → List ℕ
text_after log count text =
    kept_or (first_fault (write_faults log count text)) text (log_written log ++ drop (length (log_written log)) text)

-- The call is accepted.
abbrev pub accepts : List ℕ → ℕ → List ℕ → Bool
accepts log count text = eqb (write_answer log count text).number 0

-- What an accepted call wrote: as many bytes of the text buffer at exit as it counts.
abbrev pub output : List ℕ → ℕ → List ℕ → List ℕ
output log count text = take (write_answer log count text).count (text_after log count text)

-- The answer and the text buffer for a log buffer of just its documented length and a label count from 1 to 16.
abbrev pub fit_answer : List ℕ → ℕ → List ℕ → Answer
fit_answer log count text = answer_or (first_fault (fit_faults log count text)) (accepted_with (length (text_of log)))

abbrev pub fit_after : List ℕ → ℕ → List ℕ → List ℕ
fit_after log count text = kept_or (first_fault (fit_faults log count text)) text (text_of log ++ drop (length (text_of log)) text)
