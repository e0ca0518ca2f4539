-- What reading a text into a lent buffer answers, and what it leaves there.
use Rattle.std.specs.Prelude.{ℕ, List, [], ◌∷◌, ◌++◌, ltb, length, drop}
use Rattle.answer.specs.declared.Answer.{Answer}
use Rattle.answer.specs.Answers.{accepted_with, refused_at, refused_in}
use Rattle.answer.specs.Faults.{Fault, when, first_fault, answer_or, kept_or}
use Rattle.text.specs.Walk.{Outcome, accepted, faulty}
use Rattle.layout.specs.Layout.{pattern_length}
use Rattle.pattern_store.specs.Format.{Known, pattern_text}
use Rattle.pattern_store.specs.Buffer.{bead_count, buffer_of}
use Rattle.pattern_byte.specs.Byte.{pattern_byte}

-- A refusal has the byte that its number and line have in the text; the host's refusals have none.
abbrev pub refused_with : List ℕ → ℕ → ℕ → Answer
refused_with text number line = refused_in number line (pattern_byte text number line)

-- The answer: accepted with the bead count, or the refusal's number, line and byte.
abbrev pub answer_of : List ℕ → Outcome Known → Answer
answer_of text (accepted k) = accepted_with (bead_count k.rows)
answer_of text (faulty number line) = refused_with text number line

-- Document 01's answer, which had no byte.
abbrev pub answer_before : Outcome Known → Answer
answer_before (accepted k) = accepted_with (bead_count k.rows)
answer_before (faulty number line) = refused_at number line

-- The buffer at exit: the numbers in front and the rest as it was, or all as it was.
abbrev pub filled_by : Outcome Known → List ℕ → List ℕ
filled_by (accepted k) buffer = buffer_of k ++ drop pattern_length buffer
filled_by (faulty number line) buffer = buffer

-- The host's refusal, before all else: 2, the buffer is shorter than 2,074.
abbrev pub host_faults : List ℕ → List Fault
host_faults buffer = when (ltb (length buffer) pattern_length) (refused_at 2 0) ∷ []

abbrev pub pattern_answer : List ℕ → List ℕ → Answer
pattern_answer text buffer = answer_or (first_fault (host_faults buffer)) (answer_of text (pattern_text text))

abbrev pub pattern_after : List ℕ → List ℕ → List ℕ
pattern_after text buffer = kept_or (first_fault (host_faults buffer)) buffer (filled_by (pattern_text text) buffer)
