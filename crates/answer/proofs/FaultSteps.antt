-- The first fault of a list, test by test, as equations: a function whose refusals stand in the list's order is proved by these alone.
-- Assumes nothing.
use mathlib.Core.Path.{◌≡◌, refl}
use mathlib.Core.Bool.{Bool, true, false}
use mathlib.Core.Option.{none, some}
use mathlib.Core.List.{List, [], ◌∷◌}
use Rattle.answer.specs.declared.Answer.{Answer}
use Rattle.answer.specs.Faults.{Fault, when, first_fault, answer_or, kept_or}
use Prim.Native.Nat.{ℕ}
use Rattle.std.proofs.lemmas.Bool.Decides.{nat_tests}

module _ (test : Bool) (answer : Answer) (faults : List Fault) where
  pub fault_here : test ≡ true → first_fault (when test answer ∷ faults) ≡ some answer
  unfolding first_fault
  fault_here e = rw e

  pub fault_later : test ≡ false → first_fault (when test answer ∷ faults) ≡ first_fault faults
  unfolding first_fault
  fault_later e = rw e

pub no_fault : first_fault [] ≡ none
unfolding first_fault
no_fault = refl

module _ (refused accepted : Answer) where
  pub answer_refused : answer_or (some refused) accepted ≡ refused
  unfolding answer_or
  answer_refused = refl

  pub answer_accepted : answer_or none accepted ≡ accepted
  unfolding answer_or
  answer_accepted = refl

module _ (refused : Answer) (old new : List ℕ) where
  pub room_kept : kept_or (some refused) old new ≡ old
  unfolding kept_or
  room_kept = refl

pub room_filled : (old new : List ℕ) → kept_or none old new ≡ new
unfolding kept_or
room_filled old new = refl

pub ruleset fault_steps = (nat_tests, fault_here, fault_later, no_fault, answer_refused, answer_accepted, room_kept, room_filled)
