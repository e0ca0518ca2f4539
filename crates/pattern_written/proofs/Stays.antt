-- The byte moves nothing else: number, line and count of an answer, and the text buffer, are as they were; and every byte is at most 241.
-- Assumes nothing.
use Prim.Native.Nat.{ℕ, ◌+◌, ◌≤◌}
use mathlib.Core.Path.{◌≡◌, refl}
use mathlib.Core.Bool.{Bool, true, false, not, cond}
use mathlib.Core.Option.{none, some}
use mathlib.Core.List.{List, [], ◌∷◌}
use native.Mathlib.Omega.{arith}
use lib.Dec.{ltb}
use lib.ListN.{length, take}
use Rattle.answer.specs.Answers.{accepted_with, refused_at, refused_in, without_byte}
use Rattle.answer.specs.Faults.{Fault, when, first_fault, answer_or, kept_or}
use Rattle.layout.specs.Layout.{pattern_length, most_line}
use Rattle.pattern_byte.specs.Header.{header_text_at}
use Rattle.pattern_byte.proofs.HeaderLaws.{header_text_most}
use Rattle.pattern_buffer.specs.Meaning.{labels_in}
use Rattle.pattern_buffer.specs.Valid.{is_pattern}
use Rattle.pattern_writer.specs.Writer.{header_fits, written, pattern_written, in_front, faults_before, write_faults, write_answer, text_after}

module _ (pattern header text : List ℕ) where
  pub numbers_stay : without_byte (write_answer pattern header text) ≡ answer_or (first_fault (faults_before pattern header text)) (accepted_with (length (pattern_written header pattern)))
  unfolding first_fault answer_or
  numbers_stay =
      go (ltb (length pattern) pattern_length) (not (is_pattern (take pattern_length pattern))) (not (header_fits (labels_in (take pattern_length pattern)) header))
      (ltb (length text) (length (pattern_written header pattern))) (header_text_at header)
    where
      go : (a b c d : Bool) (byte : ℕ)
          → without_byte (answer_or (cond a (some (refused_at 2 0)) (cond b (some (refused_at 6 0)) (cond c (some (refused_in 12 1 byte)) (cond d (some (refused_at 8 0)) none)))) (accepted_with (length (pattern_written header pattern))))
          ≡ answer_or (cond a (some (refused_at 2 0)) (cond b (some (refused_at 6 0)) (cond c (some (refused_at 12 1)) (cond d (some (refused_at 8 0)) none)))) (accepted_with (length (pattern_written header pattern)))
      go true b c d byte = refl
      go false true c d byte = refl
      go false false true d byte = refl
      go false false false true byte = refl
      go false false false false byte = refl

  pub after_stays : text_after pattern header text ≡ kept_or (first_fault (faults_before pattern header text)) text (in_front (pattern_written header pattern) text)
  unfolding first_fault kept_or
  after_stays =
      go (ltb (length pattern) pattern_length) (not (is_pattern (take pattern_length pattern))) (not (header_fits (labels_in (take pattern_length pattern)) header))
      (ltb (length text) (length (pattern_written header pattern))) (header_text_at header)
    where
      go : (a b c d : Bool) (byte : ℕ)
          → kept_or (cond a (some (refused_at 2 0)) (cond b (some (refused_at 6 0)) (cond c (some (refused_in 12 1 byte)) (cond d (some (refused_at 8 0)) none)))) text (in_front (pattern_written header pattern) text)
          ≡ kept_or (cond a (some (refused_at 2 0)) (cond b (some (refused_at 6 0)) (cond c (some (refused_at 12 1)) (cond d (some (refused_at 8 0)) none)))) text (in_front (pattern_written header pattern) text)
      go true b c d byte = refl
      go false true c d byte = refl
      go false false true d byte = refl
      go false false false true byte = refl
      go false false false false byte = refl

  pub byte_small : (write_answer pattern header text).byte ≤ most_line + 1
  unfolding first_fault answer_or
  byte_small =
      go (ltb (length pattern) pattern_length) (not (is_pattern (take pattern_length pattern))) (not (header_fits (labels_in (take pattern_length pattern)) header))
      (ltb (length text) (length (pattern_written header pattern))) (header_text_at header) (header_text_most header)
    where
      go : (a b c d : Bool) (byte : ℕ) → byte ≤ most_line + 1
          → (answer_or (cond a (some (refused_at 2 0)) (cond b (some (refused_at 6 0)) (cond c (some (refused_in 12 1 byte)) (cond d (some (refused_at 8 0)) none)))) (accepted_with (length (pattern_written header pattern)))).byte ≤ most_line + 1
      go true b c d byte h = omega arith
      go false true c d byte h = omega arith
      go false false true d byte h = h
      go false false false true byte h = omega arith
      go false false false false byte h = omega arith
