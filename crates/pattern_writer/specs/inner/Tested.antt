-- The same behind the first tests, for the functions that the call is made of.
use Rattle.std.specs.Prelude.{ℕ, ◌≡◌, true, List, T, length}
use Rattle.answer.specs.declared.Answer.{Answer}
use Rattle.answer.specs.Answers.{accepted_with}
use Rattle.answer.specs.Faults.{Fault, first_fault, answer_or, kept_or}
use Rattle.pattern_buffer.specs.Meaning.{labels_in}
use Rattle.pattern_buffer.specs.Valid.{is_pattern}
use Rattle.pattern_writer.specs.Writer.{header_fits, written, in_front}

-- The buffer passes 6, and the header text 12.
pub record Tested (b header : List ℕ) : Type 0 where
  pub pattern_passes : T (is_pattern b)
  pub fits : header_fits (labels_in b) header ≡ true

-- Answer and text buffer under the faults that are left.
abbrev pub answer_under : List Fault → List ℕ → List ℕ → Answer
answer_under faults b header = answer_or (first_fault faults) (accepted_with (length (written header b)))

abbrev pub text_under_faults : List Fault → List ℕ → List ℕ → List ℕ → List ℕ
text_under_faults faults b header text = kept_or (first_fault faults) text (in_front (written header b) text)
