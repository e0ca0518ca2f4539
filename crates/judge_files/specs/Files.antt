-- What `judge` answers, and what it leaves in the lent buffers, by the texts of its two files (document 01, "Who is at fault": it
-- reads the pattern first). What a file holds is not known here: its text is so many bytes at the start of a text buffer, which has a
-- place more than the longest text, so that a text that is cut off at the buffer's end is refused (`pattern_whole`, `log_whole`).
use Rattle.std.specs.Prelude.{ℕ, suc, ◌≤◌, List, ◌≡◌, length, get_or, take}
use Rattle.answer.specs.declared.Answer.{Answer}
use Rattle.judge_files.specs.declared.Rooms.{Rooms}
use Rattle.layout.specs.Layout.{most_pattern_text, most_log_text}
use Rattle.pattern.specs.Answer.{pattern_answer, pattern_after}
use Rattle.log_reader.specs.Answer.{log_answer, log_after}
use Rattle.judging.specs.Judge.{judge_answer, result_after, work_after}

-- The pattern's text was read: r is answered, and pattern' is what the pattern buffer holds then.
pub record PatternRead (text pattern : List ℕ) (r : Answer) (pattern' : List ℕ) : Type 0 where
  pub size : ℕ
  pub fits : size ≤ length text
  pub answered : r ≡ pattern_answer (take size text) pattern
  pub left : pattern' ≡ pattern_after (take size text) pattern

-- The log's text was read, under the label count of a pattern buffer.
pub record LogRead (text pattern log : List ℕ) (r : Answer) (log' : List ℕ) : Type 0 where
  pub size : ℕ
  pub fits : size ≤ length text
  pub answered : r ≡ log_answer (take size text) (get_or pattern 0 0) log
  pub left : log' ≡ log_after (take size text) (get_or pattern 0 0) log

-- The log was read, and judged unless it was refused.
pub data LogJudged (text pattern log result work : List ℕ) (r : Answer) (log' result' work' : List ℕ) : Type 0 where
  log_refused :
      LogRead text pattern log r log' → (r.number ≡ 0 → ⊥) → result' ≡ result → work' ≡ work
      → LogJudged text pattern log result work r log' result' work'
  log_judged :
      (a : Answer) → LogRead text pattern log a log' → a.number ≡ 0
      → r ≡ judge_answer pattern log' result work
      → result' ≡ result_after pattern log' result work
      → work' ≡ work_after pattern log' result work
      → LogJudged text pattern log result work r log' result' work'

-- The pattern was read, and then the log unless the pattern was refused.
pub data Run (pattern_text log_text pattern log result work : List ℕ) (r : Answer) (pattern' log' result' work' : List ℕ) : Type 0 where
  pattern_refused :
      PatternRead pattern_text pattern r pattern' → (r.number ≡ 0 → ⊥) → log' ≡ log → result' ≡ result → work' ≡ work
      → Run pattern_text log_text pattern log result work r pattern' log' result' work'
  pattern_read :
      (a : Answer) → PatternRead pattern_text pattern a pattern' → a.number ≡ 0
      → LogJudged log_text pattern' log result work r log' result' work'
      → Run pattern_text log_text pattern log result work r pattern' log' result' work'

-- The rooms of the program, before the two files were read and after: `Run` of their buffers.
abbrev pub Ran : Rooms → Answer → Rooms → Type 0
Ran old r new =
    Run new.pattern_text new.log_text old.pattern old.log old.result old.work r new.pattern new.log new.result new.work

-- Each text buffer has a place more than the longest text.
pub record TextRooms (pattern_text log_text : List ℕ) : Type 0 where
  pub pattern_room : length pattern_text ≡ suc most_pattern_text
  pub log_room : length log_text ≡ suc most_log_text
