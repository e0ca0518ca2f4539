-- When the pattern reader refuses, in the words of document 01's list ("Who is at fault"): one case for each kind of entry, in its order,
-- and each case denies those before it. The walk that finds the answer is not named here.
use Rattle.std.specs.Prelude.{ℕ, ◌≤◌, ◌<◌, ◌≡◌, List, T, length}
use Rattle.text.specs.Lines.{lines_of}
use Rattle.text.specs.Walk.{bad_size}
use Rattle.text.specs.FirstBad.{AllPass, FirstBad}
use Rattle.layout.specs.Layout.{most_pattern_text, pattern_length}
use Rattle.pattern_store.specs.Format.{Known, judge_line, judge_next, pattern_format}

-- The room is as long as asked, and the text has a right size.
pub record Readable (text buffer : List ℕ) : Type 0 where
  pub long : pattern_length ≤ length buffer
  pub sized : T (bad_size most_pattern_text text) → ⊥

-- All lines pass 11 to 14, and this is known after the last.
abbrev pub LinesPass : List ℕ → Known → Type 0
LinesPass text k = AllPass judge_line pattern_format.start 1 (lines_of text) k

-- The refusal's number and line.
pub data Refused (text buffer : List ℕ) : ℕ → ℕ → Type 0 where
  -- the pattern room is too short
  short : length buffer < pattern_length → Refused text buffer 2 0
  -- the text is empty or too long
  size : pattern_length ≤ length buffer → T (bad_size most_pattern_text text) → Refused text buffer 10 0
  -- the first bad line, by 11 to 14
  line : {number line : ℕ} → Readable text buffer → FirstBad judge_line pattern_format.start 1 (lines_of text) number line → Refused text buffer number line
  -- nothing after the header
  nothing : (k : Known) → Readable text buffer → LinesPass text k → length k.rows ≡ 0 → Refused text buffer 13 1
  -- the first row with a bad next set, by 15 and 16: the first row stands in line 2
  next : {number line : ℕ} (k : Known) → Readable text buffer → LinesPass text k → (length k.rows ≡ 0 → ⊥)
      → FirstBad (judge_next k.rows) k 2 k.rows number line → Refused text buffer number line
