-- The log format as document 01's list has it: from a list of bytes and a label count to the refusal's number and line, or the steps.
use Rattle.std.specs.Prelude.{ℕ, cond, List, [], ◌∷◌, ◌++◌, eqb, length}
use Rattle.text.specs.Lines.{TextLine}
use Rattle.text.specs.Walk.{Judged, refused, passed, Outcome, accepted, faulty, Format, judge_by, read_text}
use Rattle.layout.specs.Layout.{most_log_text, most_line}
use Rattle.log_line.specs.Header.{Columns, columns_of, is_header}
use Rattle.log_line.specs.Step.{Step, step_of, step_at, malformed, misnumbered, mislinked, mislabelled, over_limit}

-- What is known after some lines: which field is which, and the steps, in order.
pub record Known : Type 0 where
  pub columns : Columns
  pub steps : List Step

-- 22: the header differs.
abbrev pub judge_header : List (List ℕ) → Judged Known
judge_header fs = cond (is_header fs) (passed (record { columns = columns_of fs; steps = [] })) (refused 22)

-- 24, 25, 26 of a step whose number is v, the smallest first.
abbrev pub judge_values : ℕ → Known → ℕ → Step → Judged Known
judge_values count k v x =
    cond (mislinked v x.preds) (refused 24)
    (cond (mislabelled count v x.labels) (refused 25)
    (cond (over_limit k.steps v x.preds) (refused 26) (passed (record { columns = k.columns; steps = k.steps ++ (x ∷ []) }))))

-- 21, 23 and then the others.
abbrev pub judge_step : ℕ → Known → ℕ → List (List ℕ) → Judged Known
judge_step count k line fs =
    cond (malformed k.columns fs) (refused 21)
    (cond (misnumbered k.columns line fs) (refused 23) (judge_values count k (step_at line) (step_of k.columns fs)))

-- 20: text empty or over 65,535 bytes. 21: a line over 240 bytes, without its newline, or with a byte outside 32 to 126.
abbrev pub log_format : ℕ → Format Known
log_format count = record {
  most = most_log_text;
  line_most = most_line;
  size_refusal = 20;
  line_refusal = 21;
  start = record { columns = columns_of []; steps = [] };
  header = judge_header;
  below = judge_step count;
}

abbrev pub judge_line : ℕ → Known → ℕ → TextLine → Judged Known
judge_line count = judge_by (log_format count)

-- 26: no step at all.
abbrev pub conclude : Outcome Known → Outcome Known
conclude (faulty k n) = faulty k n
conclude (accepted k) = cond (eqb (length k.steps) 0) (faulty 26 1) (accepted k)

-- What a text says under a label count.
abbrev pub log_text : ℕ → List ℕ → Outcome Known
log_text count text = conclude (read_text (log_format count) text)
