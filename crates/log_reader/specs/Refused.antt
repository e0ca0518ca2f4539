-- When the log reader refuses, in the words of document 01's list ("Who is at fault"): one case for each kind of entry, in its order,
-- and each case denies those before it. The walk that finds the answer is not named here.
use Rattle.std.specs.Prelude.{ℕ, ◌≤◌, ◌<◌, ◌≡◌, List, T, length}
use Rattle.text.specs.Lines.{lines_of}
use Rattle.text.specs.Walk.{bad_size}
use Rattle.text.specs.FirstBad.{AllPass, FirstBad}
use Rattle.layout.specs.Layout.{most_log_text, log_length}
use Rattle.log_line.specs.Format.{Known, judge_line, log_format}
use Rattle.log_reader.specs.Answer.{bad_count}

-- The host is not at fault: the room is as long as asked, and the label count is 1 to 16.
pub record Called (count : ℕ) (buffer : List ℕ) : Type 0 where
  pub long : log_length ≤ length buffer
  pub counted : T (bad_count count) → ⊥

-- And the text has a right size.
pub record Readable (text : List ℕ) (count : ℕ) (buffer : List ℕ) : Type 0 where
  pub called : Called count buffer
  pub sized : T (bad_size most_log_text text) → ⊥

-- All lines pass 21 to 26, and this is known after the last.
abbrev pub LinesPass : List ℕ → ℕ → Known → Type 0
LinesPass text count k = AllPass (judge_line count) (log_format count).start 1 (lines_of text) k

-- The refusal's number and line.
pub data Refused (text : List ℕ) (count : ℕ) (buffer : List ℕ) : ℕ → ℕ → Type 0 where
  -- the log room is too short
  short : length buffer < log_length → Refused text count buffer 1 0
  -- the label count is not 1 to 16
  labels : log_length ≤ length buffer → T (bad_count count) → Refused text count buffer 5 0
  -- the text is empty or too long
  size : Called count buffer → T (bad_size most_log_text text) → Refused text count buffer 20 0
  -- the first bad line, by 21 to 26
  line : {number line : ℕ} → Readable text count buffer → FirstBad (judge_line count) (log_format count).start 1 (lines_of text) number line
      → Refused text count buffer number line
  -- all lines pass, and there is no step at all
  nothing : (k : Known) → Readable text count buffer → LinesPass text count k → length k.steps ≡ 0
      → Refused text count buffer 26 1
