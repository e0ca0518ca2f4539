-- The buffer with one step more.
use Rattle.std.specs.Prelude.{ℕ, ◌+◌, ◌≡◌, List, [], ◌∷◌, ◌++◌, length, take, drop, set, Result, Ok, Err}
use Rattle.text.specs.Walk.{refused, passed}
use Rattle.layout.specs.Layout.{labels_at, board_at, begin_at, link_at, log_length}
use Rattle.log_line.specs.Header.{Columns}
use Rattle.log_line.specs.Step.{Step, link_count}
use Rattle.log_line.specs.Format.{Known, judge_step}
use Rattle.log_line.specs.Answers.{refusal_number}
use Rattle.log_step.specs.Answers.{Limited}
use Rattle.log_line.specs.declared.refusals.Refusal.{Refusal}
use Rattle.log_line.specs.declared.preds.Links.{Links}
use Rattle.log_step.specs.declared.StepValues.{StepValues}
use Rattle.log_store.specs.Buffer.{buffer_of}

-- The numbers with the step count, step v's label set and board, and where the links of the next step begin.
unfoldable pub values_stored : List ℕ → ℕ → ℕ → ℕ → ℕ → List ℕ
values_stored old v labels board end = set (set (set (set old 0 (v + 1)) (labels_at v) labels) (board_at v) board) (begin_at (v + 1)) end

-- The numbers with links after so many others.
unfoldable pub links_stored : List ℕ → ℕ → List ℕ → List ℕ
links_stored old before us = take (link_at before) old ++ (us ++ drop (link_at before + length us) old)

-- The old numbers, where they are the buffer of steps before v with so many links, grow to the new by the step x.
pub record StepStored (old : List ℕ) (v before : ℕ) (x : Step) (new : List ℕ) : Type 0 where
  pub size : length new ≡ log_length
  pub grown : (xs : List Step) → length xs ≡ v → link_count xs ≡ before → old ≡ buffer_of xs → new ≡ buffer_of (xs ++ (x ∷ []))

-- Steps are known after a header with these columns.
abbrev pub knowing : Columns → List Step → Known
knowing c xs = record { columns = c; steps = xs }

-- After the steps xs the fields are refused, or give one step more, with the links us, which is in the buffer.
abbrev pub Added : ℕ → ℕ → Columns → List (List ℕ) → List Step → Result (StepValues × Links) Refusal → List ℕ → Type 0
Added count v c fs xs (Err f) new = judge_step count (knowing c xs) (v + 2) fs ≡ refused (refusal_number f)
Added count v c fs xs (Ok w) new =
    (us : List ℕ)
    × (length us ≡ w.1.count)
    × (judge_step count (knowing c xs) (v + 2) fs ≡ passed (knowing c (xs ++ (record { board = w.0.board; labels = w.0.labels; preds = us } ∷ []))))
    × (new ≡ buffer_of (xs ++ (record { board = w.0.board; labels = w.0.labels; preds = us } ∷ [])))

pub record LineAdded (count v before : ℕ) (c : Columns) (fs : List (List ℕ)) (old : List ℕ) (r : Result (StepValues × Links) Refusal) (new : List ℕ) : Type 0 where
  pub size : length new ≡ log_length
  pub limits : Limited v before r
  pub added : (xs : List Step) → length xs ≡ v → link_count xs ≡ before → old ≡ buffer_of xs → Added count v c fs xs r new
