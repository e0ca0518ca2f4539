-- The refusals of a call, listed in document 01's order: the first that applies is the answer. The answer, and each lent room at exit, follow from
-- it.
use Rattle.std.specs.Prelude.{ℕ, Bool, cond, List, [], ◌∷◌}
use Rattle.std.proofs.Math.Option.{Option, none, some}
use Rattle.answer.specs.declared.Answer.{Answer}

-- A refusal: the test by which it applies, and its answer.
pub data Fault : Type 0 where
  when : Bool → Answer → Fault

-- The answer of the first that applies, if one does.
unfoldable pub first_fault : List Fault → Option Answer
first_fault [] = none
first_fault (when test answer ∷ faults) = cond test (some answer) (first_fault faults)

-- The answer of a call: the first fault's, or the one of an accepted call.
unfoldable pub answer_or : Option Answer → Answer → Answer
answer_or none accepted = accepted
answer_or (some refused) accepted = refused

-- A lent room at exit: as it was where the call is refused, else what an accepted call leaves.
unfoldable pub kept_or : Option Answer → List ℕ → List ℕ → List ℕ
kept_or none old new = new
kept_or (some refused) old new = old
