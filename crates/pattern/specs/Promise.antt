-- What a call of the pattern reader promises, in document 01's words. Either it is refused, by the list's entry that applies, with
-- the byte that this has in the text, and the lent room is as it was. Or no entry applies: the count is the number of beads, the numbers of what the
-- lines say stand in front of the room, and the rest of it is as it was.
use Rattle.std.specs.Prelude.{ℕ, ◌≡◌, List, ◌++◌, drop}
use Rattle.answer.specs.declared.Answer.{Answer}
use Rattle.answer.specs.Answers.{accepted_with}
use Rattle.layout.specs.Layout.{pattern_length}
use Rattle.pattern_store.specs.Format.{Known}
use Rattle.pattern_store.specs.Buffer.{bead_count, buffer_of}
use Rattle.pattern.specs.Answer.{refused_with}
use Rattle.pattern.specs.Refused.{LinesPass, Refused}

-- What an accepted call answers and leaves.
pub record Read (text buffer : List ℕ) (answer : Answer) (buffer' : List ℕ) : Type 0 where
  pub known : Known
  pub lines : LinesPass text known
  pub counts : answer ≡ accepted_with (bead_count known.rows)
  pub fills : buffer' ≡ buffer_of known ++ drop pattern_length buffer

pub data Promise (text buffer : List ℕ) (answer : Answer) (buffer' : List ℕ) : Type 0 where
  refused : (number line : ℕ) → Refused text buffer number line → answer ≡ refused_with text number line → buffer' ≡ buffer → Promise text buffer answer buffer'
  accepted : ((number line : ℕ) → Refused text buffer number line → ⊥) → Read text buffer answer buffer' → Promise text buffer answer buffer'
