-- What the parts of the reader that go over the lines answer.
use Rattle.std.specs.Prelude.{ℕ, ◌≤◌, ◌≡◌, List, [], length, drop, Option, Some, Result, Ok, Err}
use Rattle.text.specs.Lines.{lines_of}
use Rattle.text.specs.Walk.{accepted, faulty, walk, read_text}
use Rattle.layout.specs.Layout.{most_pattern_text, most_labels}
use Rattle.pattern_store.specs.Format.{Known, judge_line, pattern_format}
use Rattle.pattern_store.specs.Buffer.{buffer_of}
use Rattle.pattern_line.specs.Answers.{refusal_number}
use Rattle.pattern_line.specs.declared.refusals.Refusal.{Refusal}
use Rattle.text.specs.declared.faults.Fault.{Fault}
use Rattle.pattern_order.specs.declared.LineValues.{LineValues}

-- The text is of a right size and begins with a header that names so many labels; what is left of it begins at the place `at`.
pub record HeaderRead (text : List ℕ) (labels at : ℕ) : Type 0 where
  pub left : read_text pattern_format text ≡ walk judge_line (record { labels = labels; rows = [] }) 2 (lines_of (drop at text))
  pub few : labels ≤ most_labels
  pub short : length text ≤ most_pattern_text
  pub begun : 1 ≤ at
  pub inside : at ≤ length text

abbrev pub FirstTold : List ℕ → Result (ℕ × ℕ) (Fault Refusal) → Type 0
FirstTold text (Ok p) = HeaderRead text p.0 p.1
FirstTold text (Err f) = read_text pattern_format text ≡ faulty (refusal_number f.refusal) f.line

pub record FirstRead (text : List ℕ) (r : Result (ℕ × ℕ) (Fault Refusal)) : Type 0 where
  pub told : FirstTold text r

-- The line before, if there is one, is of a bead that is counted from 1.
pub record Begun (last : Option LineValues) : Type 0 where
  pub bead : (v : LineValues) → last ≡ Some v → 1 ≤ v.bead

-- All lines of the text pass 11 to 14, and the buffer holds what they say.
pub record LinesRead (text buffer : List ℕ) : Type 0 where
  pub known : Known
  pub lines : read_text pattern_format text ≡ accepted known
  pub numbers : buffer ≡ buffer_of known

abbrev pub RowsTold : List ℕ → Result (Unit {0}) (Fault Refusal) → List ℕ → Type 0
RowsTold text (Ok u) buffer = LinesRead text buffer
RowsTold text (Err f) buffer = read_text pattern_format text ≡ faulty (refusal_number f.refusal) f.line

pub record RowsRead (text : List ℕ) (r : Result (Unit {0}) (Fault Refusal)) (buffer : List ℕ) : Type 0 where
  pub told : RowsTold text r buffer
