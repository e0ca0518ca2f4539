-- The answer for a line below the header, and what it makes of the line.
use Rattle.std.specs.Prelude.{ℕ, ◌+◌, ◌≡◌, true, false, List, [], ◌∷◌, ◌++◌, length, get_or, take, Option, Some, None, Result, Ok, Err}
use Rattle.text.specs.Walk.{Judged, answer_says}
use Rattle.numbers.specs.Numbers.{value_of}
use Rattle.numbers.specs.Listed.{list_of}
use Rattle.layout.specs.Layout.{most_preds}
use Rattle.log_line.specs.Header.{Columns}
use Rattle.log_line.specs.Step.{Step, label_set_of, vertex_of, malformed, link_count}
use Rattle.log_line.specs.Format.{Known, judge_step, judge_values}
use Rattle.log_line.specs.Answers.{refusal_number}
use Rattle.log_line.specs.inner.Scan.{Formed}
use Rattle.log_line.specs.declared.refusals.Refusal.{Refusal}
use Rattle.log_step.specs.Limits.{InLimits}
use Rattle.log_line.specs.declared.preds.Links.{Links}
use Rattle.log_step.specs.declared.StepValues.{StepValues}
use Rattle.log_step.specs.declared.Row.{Row}

-- The step that values, and the links beside them, stand for.
abbrev pub step_with : StepValues × Links → Step
step_with w = record { board = w.0.board; labels = w.0.labels; preds = take w.1.count w.1.first }

-- What an answer says of a line after which one step more is known.
abbrev pub line_says : Known → Result (StepValues × Links) Refusal → Judged Known
line_says k = answer_says refusal_number (λ w. record { columns = k.columns; steps = k.steps ++ (step_with w ∷ []) })

-- The values of an answer keep the limits, and there is a place for each of their links.
abbrev pub Limited : ℕ → ℕ → Result (StepValues × Links) Refusal → Type 0
Limited v before (Ok w) = (length w.1.first ≡ most_preds) × InLimits w.1.count v before
Limited v before (Err f) = Unit {0}

-- The answer r is what the values of step v are judged to be, whatever steps with so many links were before.
pub record ValuesJudged (count v before : ℕ) (x : Step) (r : Result (StepValues × Links) Refusal) : Type 0 where
  pub limits : Limited v before r
  pub judged : (k : Known) → link_count k.steps ≡ before → line_says k r ≡ judge_values count k v x

-- The same of the fields of a line, whose number is v + 2.
pub record StepJudged (count v before : ℕ) (c : Columns) (fs : List (List ℕ)) (r : Result (StepValues × Links) Refusal) : Type 0 where
  pub limits : Limited v before r
  pub judged : (steps : List Step) → link_count steps ≡ before
      → line_says (record { columns = c; steps = steps }) r ≡ judge_step count (record { columns = c; steps = steps }) (v + 2) fs

-- The fields are what their columns ask, and say this of step v.
pub record RowOf (v : ℕ) (c : Columns) (fs : List (List ℕ)) (row : Row) : Type 0 where
  pub well : malformed c fs ≡ false
  pub vertex : row.vertex ≡ vertex_of c fs
  pub board : row.board ≡ value_of (get_or fs c.board [])
  pub labels : row.labels ≡ label_set_of (get_or fs c.labels [])
  pub preds : Formed v (get_or fs c.preds []) row.preds

abbrev pub ReadAs : ℕ → Columns → List (List ℕ) → Option Row → Type 0
ReadAs v c fs None = malformed c fs ≡ true
ReadAs v c fs (Some row) = RowOf v c fs row

-- The answer for the values of a line, whatever field gave these links.
pub record JudgedBy (row : Row) (count v before : ℕ) (r : Result (StepValues × Links) Refusal) : Type 0 where
  pub by : (f : List ℕ) → Formed v f row.preds
      → ValuesJudged count v before (record { board = row.board; labels = row.labels; preds = list_of f }) r
