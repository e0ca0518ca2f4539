-- What a call of the judge promises, in document 01's words. Either it is refused, by the first of document 01's entries that applies, and both
-- lent rooms are as they were. Or it is accepted: each step's row is the one that the papers define, unused places are 0, the count is the
-- number of rows with the last bead's bit, the work room is 0 in its length, and what lies past the lengths is as it was.
use Rattle.std.specs.Prelude.{ℕ, ◌*◌, ◌≤◌, ◌<◌, ◌≡◌, List, length, get_or, drop}
use Rattle.answer.specs.declared.Answer.{Answer}
use Rattle.answer.specs.Answers.{accepted_with, refused_at}
use Rattle.necklace.specs.Necklace.{IsRow}
use Rattle.layout.specs.Layout.{pattern_length, log_length, result_length, work_length, row_length}
use Rattle.pattern_buffer.specs.Meaning.{labels_in}
use Rattle.pattern_texts.specs.Given.{GivenPattern}
use Rattle.log_texts.specs.Given.{GivenLog}
use Rattle.judging.specs.Judge.{pattern_in, log_in}
use Rattle.results.specs.Result.{row_in}
use Rattle.demands.specs.Demands.{rows_with_bit}

-- The entry of document 01's list with this number applies.
pub data Applies (pattern log result work : List ℕ) : ℕ → Type 0 where
  log_short : length log < log_length → Applies pattern log result work 1
  pattern_short : length pattern < pattern_length → Applies pattern log result work 2
  result_short : length result < result_length → Applies pattern log result work 3
  work_short : length work < work_length → Applies pattern log result work 4
  no_pattern : (GivenPattern pattern → ⊥) → Applies pattern log result work 6
  no_log : (GivenLog (labels_in pattern) log → ⊥) → Applies pattern log result work 7

-- It is the first that does: the one with the smallest number.
pub record FirstEntry (pattern log result work : List ℕ) (number : ℕ) : Type 0 where
  pub applies : Applies pattern log result work number
  pub first : (m : ℕ) → m < number → Applies pattern log result work m → ⊥

-- What an accepted call answers and leaves.
pub record Judged (pattern log result work : List ℕ) (answer : Answer) (result' work' : List ℕ) : Type 0 where
  pub counts : answer ≡ accepted_with (rows_with_bit result' (pattern_in pattern).count (log_in log).size)
  pub rows : (v : ℕ) → v < (log_in log).size → IsRow (log_in log) (pattern_in pattern) v (row_in result' v)
  pub unused : (i : ℕ) → row_length * (log_in log).size ≤ i → i < result_length → get_or result' i 0 ≡ 0
  pub length_of_result : length result' ≡ length result
  pub result_rest : drop result_length result' ≡ drop result_length result
  pub cleared : (i : ℕ) → i < work_length → get_or work' i 0 ≡ 0
  pub length_of_work : length work' ≡ length work
  pub work_rest : drop work_length work' ≡ drop work_length work

pub data Promise (pattern log result work : List ℕ) (answer : Answer) (result' work' : List ℕ) : Type 0 where
  refused : (number : ℕ) → FirstEntry pattern log result work number → answer ≡ refused_at number 0 → result' ≡ result → work' ≡ work
      → Promise pattern log result work answer result' work'
  accepted : ((number : ℕ) → Applies pattern log result work number → ⊥) → Judged pattern log result work answer result' work'
      → Promise pattern log result work answer result' work'
