-- What a call of the log reader promises, in document 01's words. Either it is refused, by the list's entry that applies, with
-- the byte that this has in the text, and the lent room is as it was. Or no entry applies: the count is the number of steps, the numbers of what the
-- lines say stand in front of the room, and the rest of it is as it was.
use Rattle.std.specs.Prelude.{ℕ, ◌≡◌, List, ◌++◌, length, drop}
use Rattle.answer.specs.declared.Answer.{Answer}
use Rattle.answer.specs.Answers.{accepted_with}
use Rattle.layout.specs.Layout.{log_length}
use Rattle.log_line.specs.Format.{Known}
use Rattle.log_store.specs.Buffer.{buffer_of}
use Rattle.log_reader.specs.Answer.{refused_with}
use Rattle.log_reader.specs.Refused.{LinesPass, Refused}

-- What an accepted call answers and leaves.
pub record Read (text : List ℕ) (count : ℕ) (buffer : List ℕ) (answer : Answer) (buffer' : List ℕ) : Type 0 where
  pub known : Known
  pub lines : LinesPass text count known
  pub counts : answer ≡ accepted_with (length known.steps)
  pub fills : buffer' ≡ buffer_of known.steps ++ drop log_length buffer

pub data Promise (text : List ℕ) (count : ℕ) (buffer : List ℕ) (answer : Answer) (buffer' : List ℕ) : Type 0 where
  refused : (number line : ℕ) → Refused text count buffer number line → answer ≡ refused_with text number line → buffer' ≡ buffer
      → Promise text count buffer answer buffer'
  accepted : ((number line : ℕ) → Refused text count buffer number line → ⊥) → Read text count buffer answer buffer'
      → Promise text count buffer answer buffer'
