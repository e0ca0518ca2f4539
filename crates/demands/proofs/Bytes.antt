-- No answer of the judge has a place: its byte is 0, and number, line and count are all it says (document 02, ask 2).
-- Assumes nothing.
use mathlib.Core.Path.{◌≡◌, refl}
use mathlib.Core.List.{List}
use Prim.Native.Nat.{ℕ}
use Rattle.answer.specs.Answers.{accepted_with}
use Rattle.answer.proofs.FaultLaws.{placeless, no_byte}
use Rattle.results.specs.Result.{whole_up_to}
use Rattle.judging.specs.Judge.{pattern_in, log_in, judge_faults, judge_answer}

pub judge_byte : (pattern log result work : List ℕ) → (judge_answer pattern log result work).byte ≡ 0
unfolding placeless
judge_byte pattern log result work =
    no_byte (judge_faults pattern log result work) (accepted_with (whole_up_to (log_in log) (pattern_in pattern) (log_in log).size)) refl refl
