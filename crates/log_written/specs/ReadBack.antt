-- An accepted write can be read back.
use Rattle.std.specs.Prelude.{ℕ, ◌≤◌, ◌≡◌, List, ◌++◌, length, take, drop}
use Rattle.answer.specs.Answers.{accepted_with}
use Rattle.text.specs.Walk.{accepted}
use Rattle.layout.specs.Layout.{log_length}
use Rattle.log_line.specs.Format.{Known, log_text}
use Rattle.log_store.specs.Buffer.{buffer_of}
use Rattle.log_reader.specs.Answer.{log_answer, log_after}

-- Reading the text under the label count gives the first 7,170 numbers of the log buffer.
pub record ReadBack (log : List ℕ) (count : ℕ) (text : List ℕ) : Type 0 where
  pub read : Known
  pub reads : log_text count text ≡ accepted read
  pub gives : buffer_of read.steps ≡ take log_length log
  -- Hence reading it fills any buffer of 7,170 numbers or more with the same 7,170 numbers.
  pub answers : (buffer : List ℕ) → log_length ≤ length buffer → log_answer text count buffer ≡ accepted_with (length read.steps)
  pub fills : (buffer : List ℕ) → log_length ≤ length buffer → log_after text count buffer ≡ take log_length log ++ drop log_length buffer
