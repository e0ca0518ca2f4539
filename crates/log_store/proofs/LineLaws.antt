-- A line's step, added to the buffer of those before it, or refused.
-- Assumes nothing.
use mathlib.Core.Path.{◌≡◌, refl, sym, ◌∙◌, subst}
use mathlib.Core.List.{List}
use Prim.Native.Nat.{ℕ}
use native.Mathlib.Omega.{arith}
use lib.ListN.{length, take}
use lib.Seq.{length-take-le}
use Rattle.std.specs.Prelude.{Result, Ok, Err}
use Rattle.layout.specs.Layout.{most_preds, log_length}
use Rattle.log_line.specs.Header.{Columns}
use Rattle.log_line.specs.declared.refusals.Refusal.{Refusal}
use Rattle.log_step.specs.Limits.{InLimits}
use Rattle.log_step.specs.Answers.{Limited, StepJudged}
use Rattle.log_line.specs.declared.preds.Links.{Links}
use Rattle.log_step.specs.declared.StepValues.{StepValues}
use Rattle.log_store.specs.inner.Stores.{StepStored, LineAdded}

module _ (count v before : ℕ) (c : Columns) (fs : List (List ℕ)) (old : List ℕ) (a : Result (StepValues × Links) Refusal)
    (j : StepJudged count v before c fs a) where
  pub line_refused : length old ≡ log_length → (f : Refusal) → a ≡ Err f → LineAdded count v before c fs old (Err f) old
  line_refused s f q = record {
    size = s;
    limits = tt;
    added = λ xs counted edges is. sym (j.judged xs edges) ∙ rw q refl;
  }

  module _ (w : StepValues × Links) (q : a ≡ Ok w) where
    line_kept : (length w.1.first ≡ most_preds) × InLimits w.1.count v before
    line_kept = subst (Limited v before) q j.limits

    pub line_room : length w.1.first ≡ most_preds
    line_room = line_kept.0

    pub line_limits : InLimits w.1.count v before
    line_limits = line_kept.1

    pub line_added : (new : List ℕ) → StepStored old v before (record { board = w.0.board; labels = w.0.labels; preds = take w.1.count w.1.first }) new
        → LineAdded count v before c fs old (Ok w) new
    line_added new s = record {
      size = s.size;
      limits = line_kept;
      added = λ xs counted edges is. (
        take w.1.count w.1.first,
        (let h = line_limits.few in let z = line_room in length-take-le w.1.count w.1.first (omega arith)),
        sym (j.judged xs edges) ∙ rw q refl,
        s.grown xs counted edges is,
      );
    }

pub ruleset line_kit = (line_refused, line_room, line_limits, line_added)
