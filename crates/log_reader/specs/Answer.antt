-- What reading a log answers and leaves in the lent buffer.
use Rattle.std.specs.Prelude.{ℕ, Bool, ◌||◌, List, [], ◌∷◌, ltb, length}
use Rattle.answer.specs.declared.Answer.{Answer}
use Rattle.answer.specs.Answers.{accepted_with, refused_at, refused_in}
use Rattle.answer.specs.Faults.{Fault, when, first_fault, answer_or, kept_or}
use Rattle.layout.specs.Layout.{most_labels, log_length}
use Rattle.text.specs.Walk.{Outcome, accepted, faulty}
use Rattle.log_line.specs.Format.{Known, log_text}
use Rattle.log_byte.specs.Byte.{log_byte}
use Rattle.log_walk.specs.Filled.{filled_by}

-- 5: the label count is not 1 to 16.
abbrev pub bad_count : ℕ → Bool
bad_count count = ltb count 1 || ltb most_labels count

-- The host's refusals: 1, the buffer is shorter than 7,170; then 5.
abbrev pub host_faults : ℕ → List ℕ → List Fault
host_faults count buffer =
    when (ltb (length buffer) log_length) (refused_at 1 0)
    ∷ when (bad_count count) (refused_at 5 0)
    ∷ []

-- A refusal has the byte that its number and line have in the text; the host's refusals have none.
abbrev pub refused_with : List ℕ → ℕ → ℕ → Answer
refused_with text number line = refused_in number line (log_byte text number line)

-- The answer to a text: accepted with the step count, or the refusal's number, line and byte.
abbrev pub text_answer : List ℕ → Outcome Known → Answer
text_answer text (accepted k) = accepted_with (length k.steps)
text_answer text (faulty number line) = refused_with text number line

abbrev pub log_answer : List ℕ → ℕ → List ℕ → Answer
log_answer text count buffer = answer_or (first_fault (host_faults count buffer)) (text_answer text (log_text count text))

abbrev pub log_after : List ℕ → ℕ → List ℕ → List ℕ
log_after text count buffer = kept_or (first_fault (host_faults count buffer)) buffer (filled_by (log_text count text) buffer)
