-- An accepted write can be read back.
use Rattle.std.specs.Prelude.{ℕ, ◌≤◌, ◌≡◌, List, ◌++◌, length, take, drop}
use Rattle.answer.specs.Answers.{accepted_with}
use Rattle.text.specs.Walk.{accepted}
use Rattle.layout.specs.Layout.{pattern_length}
use Rattle.pattern_store.specs.Format.{Known, pattern_text}
use Rattle.pattern_store.specs.Buffer.{buffer_of}
use Rattle.pattern.specs.Answer.{pattern_answer, pattern_after}
use Rattle.pattern_buffer.specs.Meaning.{beads_in}
use Rattle.pattern_writer.specs.Writer.{pattern_written, write_answer, text_after}

pub record ReadBack (pattern header text : List ℕ) : Type 0 where
  -- The output, the one that the header and the pattern determine, stands in front of the text buffer, as long as the answer counts.
  pub output : List ℕ
  pub is_written : output ≡ pattern_written header pattern
  pub counts : write_answer pattern header text ≡ accepted_with (length output)
  pub front_passes : take (length output) (text_after pattern header text) ≡ output
  -- The reader accepts it, and what it reads gives the pattern's numbers.
  pub known : Known
  pub reads : pattern_text output ≡ accepted known
  pub gives : buffer_of known ≡ take pattern_length pattern
  -- So reading it into any buffer that is long enough fills that with them.
  pub answers : (buffer : List ℕ) → pattern_length ≤ length buffer → pattern_answer output buffer ≡ accepted_with (beads_in pattern)
  pub fills : (buffer : List ℕ) → pattern_length ≤ length buffer → pattern_after output buffer ≡ take pattern_length pattern ++ drop pattern_length buffer
