-- No limit stops a log buffer that passed its test: its text is no longer than the reader allows, so its length fits 16 bits.
-- Assumes nothing.
use Prim.Native.Nat.{ℕ, ◌≤◌}
use mathlib.Core.Path.{◌≡◌, refl}
use mathlib.Core.Bool.{Bool, true, false, cond, ◌||◌}
use mathlib.Core.List.{List}
use native.Mathlib.Omega.{arith}
use borrow.Author.Tests.{ltb-false}
use lib.Dec.{T, eqb, ltb}
use lib.ListN.{length}
use Rattle.text.specs.Lines.{lines_of}
use Rattle.text.specs.Walk.{accepted, faulty, walk}
use Rattle.layout.specs.Layout.{most_log_text, most_labels}
use Rattle.log_buffer.specs.Valid.{is_log}
use Rattle.log_line.specs.Format.{Known, judge_line, conclude, log_format, log_text}
use Rattle.log_texts.specs.Spelled.{steps_of, text_of}
use Rattle.log_texts.proofs.LogBuffers.{text_says}
use Rattle.log_texts.proofs.LogText.{known}
use Rattle.log_layout.proofs.LineLaws.{under_most}
use Rattle.answer.proofs.FaultSteps.{fault_steps}
use Rattle.writing.proofs.PutLaws.{laid_in_front}

-- An accepted text is no longer than the format allows.
accepted_fits : (count : ℕ) (text : List ℕ) (k : Known) → log_text count text ≡ accepted k → length text ≤ most_log_text
accepted_fits count text k e = go (eqb (length text) 0) (ltb most_log_text (length text)) refl e
  where
    go : (a b : Bool) → ltb most_log_text (length text) ≡ b
        → conclude (cond (a || b) (faulty 20 0) (walk (judge_line count) (log_format count).start 1 (lines_of text))) ≡ accepted k
        → length text ≤ most_log_text
    go true b p f = let z : ◌≡◌ {A = ℕ} 0 1 = cc in absurd (omega arith)
    go false true p f = let z : ◌≡◌ {A = ℕ} 0 1 = cc in absurd (omega arith)
    go false false p f = ltb-false most_log_text (length text) p

pub text_fits : (count : ℕ) (log : List ℕ) → count ≤ most_labels → T (is_log count log) → length (text_of log) ≤ most_log_text
text_fits count log fit t = accepted_fits count (text_of log) (known (steps_of log)) (text_says count log fit t)

-- What the calls to the writer are proved by: its refusals, that the text's length fits, and that the text stands in front.
pub ruleset text_kit = (fault_steps, text_fits, laid_in_front, under_most)
