-- What the answer for a log's text is, and what it leaves in the buffer.
use Rattle.std.specs.Prelude.{List, ◌++◌, ℕ, length, drop, Result, Ok, Err}
use Rattle.answer.specs.declared.Answer.{Answer}
use Rattle.answer.specs.Answers.{accepted_with, refused_at}
use Rattle.text.specs.Walk.{Outcome, accepted, faulty}
use Rattle.layout.specs.Layout.{log_length}
use Rattle.log_line.specs.Format.{Known}
use Rattle.log_line.specs.Answers.{refusal_number}
use Rattle.text.specs.declared.faults.Fault.{Fault}
use Rattle.log_line.specs.declared.refusals.Refusal.{Refusal}
use Rattle.log_store.specs.Buffer.{buffer_of}

-- The answer but for its byte that the reader's result stands for.
abbrev pub answered : Result ℕ (Fault Refusal) → Answer
answered (Ok n) = accepted_with n
answered (Err f) = refused_at (refusal_number f.refusal) f.line

-- The answer but for its byte, as document 01 had it: accepted with the step count, or the refusal's number and line.
abbrev pub answer_of : Outcome Known → Answer
answer_of (accepted k) = accepted_with (length k.steps)
answer_of (faulty number line) = refused_at number line

-- The buffer at exit: the numbers in front and the rest as it was, or all as it was.
abbrev pub filled_by : Outcome Known → List ℕ → List ℕ
filled_by (accepted k) buffer = buffer_of k.steps ++ drop log_length buffer
filled_by (faulty number line) buffer = buffer
