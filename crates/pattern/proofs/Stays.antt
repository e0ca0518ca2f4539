-- The byte moves nothing else: number, line and count of an answer, and the room, are what document 01 gave; and every byte is at most 241.
-- Assumes nothing.
use Prim.Native.Nat.{ℕ, ◌+◌, ◌≤◌}
use mathlib.Core.Path.{◌≡◌, refl}
use mathlib.Core.Bool.{Bool, true, false, cond}
use mathlib.Core.Option.{none, some}
use mathlib.Core.List.{List}
use native.Mathlib.Omega.{arith}
use lib.Dec.{ltb}
use lib.ListN.{length}
use Rattle.answer.specs.Answers.{refused_at, without_byte}
use Rattle.answer.specs.Faults.{first_fault, answer_or, kept_or}
use Rattle.text.specs.Walk.{Outcome, accepted, faulty}
use Rattle.layout.specs.Layout.{pattern_length, most_line}
use Rattle.pattern_store.specs.Format.{Known, pattern_text}
use Rattle.pattern_byte.proofs.PlaceLaws.{byte_fits}
use Rattle.pattern.specs.Answer.{answer_of, answer_before, filled_by, host_faults, pattern_answer, pattern_after}

module _ (text buffer : List ℕ) where
  pub numbers_stay : without_byte (pattern_answer text buffer) ≡ answer_or (first_fault (host_faults buffer)) (answer_before (pattern_text text))
  unfolding first_fault answer_or
  numbers_stay = go (ltb (length buffer) pattern_length) (pattern_text text)
    where
      go : (b : Bool) (o : Outcome Known)
          → without_byte (answer_or (cond b (some (refused_at 2 0)) none) (answer_of text o)) ≡ answer_or (cond b (some (refused_at 2 0)) none) (answer_before o)
      go true o = refl
      go false (accepted k) = refl
      go false (faulty number line) = refl

  pub after_stays : pattern_after text buffer ≡ kept_or (first_fault (host_faults buffer)) buffer (filled_by (pattern_text text) buffer)
  after_stays = refl

  pub byte_small : (pattern_answer text buffer).byte ≤ most_line + 1
  unfolding first_fault answer_or
  byte_small = go (ltb (length buffer) pattern_length) (pattern_text text)
    where
      go : (b : Bool) (o : Outcome Known) → (answer_or (cond b (some (refused_at 2 0)) none) (answer_of text o)).byte ≤ most_line + 1
      go true o = omega arith
      go false (accepted k) = omega arith
      go false (faulty number line) = byte_fits text number line
