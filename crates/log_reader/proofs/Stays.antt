-- The byte moves nothing else: number, line and count of an answer, and the room, are what document 01 gave; and every byte is at most 241.
-- Assumes nothing.
use Prim.Native.Nat.{ℕ, ◌+◌, ◌≤◌}
use mathlib.Core.Path.{◌≡◌, refl}
use mathlib.Core.Bool.{Bool, true, false, cond}
use mathlib.Core.Option.{none, some}
use mathlib.Core.List.{List}
use native.Mathlib.Omega.{arith}
use lib.Dec.{ltb}
use lib.ListN.{length}
use Rattle.answer.specs.Answers.{refused_at, without_byte}
use Rattle.answer.specs.Faults.{first_fault, answer_or, kept_or}
use Rattle.text.specs.Walk.{Outcome, accepted, faulty}
use Rattle.layout.specs.Layout.{log_length, most_line}
use Rattle.log_line.specs.Format.{Known, log_text}
use Rattle.log_walk.specs.Filled.{answer_of, filled_by}
use Rattle.log_byte.proofs.ByteLaws.{byte_fits}
use Rattle.log_reader.specs.Answer.{bad_count, host_faults, text_answer, log_answer, log_after}

module _ (text : List ℕ) (count : ℕ) (buffer : List ℕ) where
  pub numbers_stay : without_byte (log_answer text count buffer) ≡ answer_or (first_fault (host_faults count buffer)) (answer_of (log_text count text))
  unfolding first_fault answer_or
  numbers_stay = go (ltb (length buffer) log_length) (bad_count count) (log_text count text)
    where
      go : (b c : Bool) (o : Outcome Known)
          → without_byte (answer_or (cond b (some (refused_at 1 0)) (cond c (some (refused_at 5 0)) none)) (text_answer text o))
          ≡ answer_or (cond b (some (refused_at 1 0)) (cond c (some (refused_at 5 0)) none)) (answer_of o)
      go true c o = refl
      go false true o = refl
      go false false (accepted k) = refl
      go false false (faulty number line) = refl

  pub after_stays : log_after text count buffer ≡ kept_or (first_fault (host_faults count buffer)) buffer (filled_by (log_text count text) buffer)
  after_stays = refl

  pub byte_small : (log_answer text count buffer).byte ≤ most_line + 1
  unfolding first_fault answer_or
  byte_small = go (ltb (length buffer) log_length) (bad_count count) (log_text count text)
    where
      go : (b c : Bool) (o : Outcome Known) → (answer_or (cond b (some (refused_at 1 0)) (cond c (some (refused_at 5 0)) none)) (text_answer text o)).byte ≤ most_line + 1
      go true c o = omega arith
      go false true o = omega arith
      go false false (accepted k) = omega arith
      go false false (faulty number line) = byte_fits text number line
