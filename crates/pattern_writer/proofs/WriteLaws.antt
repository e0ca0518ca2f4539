-- The output: how long it is, and where it stands.
-- Assumes nothing.
use Prim.Native.Nat.{ℕ, ◌≤◌}
use mathlib.Core.Path.{◌≡◌, refl}
use mathlib.Core.Bool.{true}
use mathlib.Core.List.{List, ◌++◌}
use lib.Dec.{T}
use lib.ListN.{length}
use Rattle.answer.proofs.FaultSteps.{fault_steps}
use Rattle.writing.proofs.PutLaws.{kit, laid_in_front}
use Rattle.pattern_buffer.specs.Meaning.{labels_in}
use Rattle.pattern_buffer.specs.Valid.{is_pattern}
use Rattle.pattern_buffer.proofs.Places.{passes_out}
use Rattle.pattern_texts.specs.Spelled.{state_lines_of, row_lines, text_most}
use Rattle.pattern_texts.proofs.TextUnder.{under_length}
use Rattle.pattern_writer.specs.Writer.{header_fits, written}
use Rattle.pattern_writer.proofs.HeaderLaws.{headed}

-- ---- the output

pub written_is : (b header : List ℕ) → written header b ≡ header ++ row_lines (state_lines_of b)
unfolding written
written_is b header = refl

pub ruleset output_kit = (kit, written_is)

-- ---- test 8, and the text in front

pub written_length : (b header : List ℕ) → T (is_pattern b) → header_fits (labels_in b) header ≡ true → length (written header b) ≤ text_most
unfolding written
written_length b header t fits =
    let h = headed (labels_in b) header fits in
    rw h.ended (under_length b (passes_out b t) h.line h.heads)

pub ruleset text_kit = (fault_steps, written_length, laid_in_front)
