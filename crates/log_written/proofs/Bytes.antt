-- No answer of the log's writer has a place: its byte is 0 (document 02, ask 2).
-- Assumes nothing.
use mathlib.Core.Path.{◌≡◌, refl}
use mathlib.Core.List.{List}
use Prim.Native.Nat.{ℕ}
use lib.ListN.{length}
use Rattle.answer.specs.Answers.{accepted_with}
use Rattle.answer.proofs.FaultLaws.{placeless, no_byte}
use Rattle.log_writer.specs.Writer.{log_written, write_faults, write_answer}

pub write_byte : (log : List ℕ) (count : ℕ) (text : List ℕ) → (write_answer log count text).byte ≡ 0
unfolding placeless
write_byte log count text = no_byte (write_faults log count text) (accepted_with (length (log_written log))) refl refl
