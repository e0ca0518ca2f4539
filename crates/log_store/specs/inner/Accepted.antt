-- What the steps of an accepted log satisfy.
use Rattle.std.specs.Prelude.{ℕ, ◌≤◌, ◌≡◌, false, List, [], ◌∷◌, ◌++◌, length}
use Rattle.layout.specs.Layout.{most_board}
use Rattle.log_line.specs.Step.{Step, mislinked, mislabelled, over_limit}

-- A step after those before it: none of 21 for its board, 24, 25 and 26 applies.
pub record StepFits (count : ℕ) (before : List Step) (x : Step) : Type 0 where
  pub board : x.board ≤ most_board
  pub linked : mislinked (length before) x.preds ≡ false
  pub labelled : mislabelled count (length before) x.labels ≡ false
  pub limits : over_limit before (length before) x.preds ≡ false

-- Every step does, one after the other.
pub data StepsFit (count : ℕ) : List Step → Type 0 where
  none : StepsFit count []
  more : {xs : List Step} {x : Step} → StepsFit count xs → StepFits count xs x → StepsFit count (xs ++ (x ∷ []))
