-- The number for C gives byte, number, line and count back by the header's macros, and is below 2 to the 64: each of the four is below 65,536 in
-- every answer, since it is a u16.
-- Assumes nothing.
use Prim.Native.Nat.{◌^◌, ◌<◌}
use mathlib.Core.Path.{◌≡◌, refl}
use mathlib.Core.List.{[], ◌∷◌, map}
use native.Mathlib.Omega.{arith}
use Rattle.answer.specs.declared.Answer.{Answer}
use Rattle.answer.specs.Answers.{accepted_with, refused_at, refused_in, code_of, byte_in, number_in, line_in, count_in}

module _ (a : Answer) (n : a.number < 65536) (l : a.line < 65536) (c : a.count < 65536) where
  pub code_byte : byte_in (code_of a) ≡ a.byte
  code_byte = omega arith

  pub code_number : number_in (code_of a) ≡ a.number
  code_number = omega arith

  pub code_line : line_in (code_of a) ≡ a.line
  code_line = omega arith

  pub code_count : count_in (code_of a) ≡ a.count
  code_count = omega arith

  pub code_fits : a.byte < 65536 → code_of a < 2 ^ 64
  code_fits b = omega arith

-- `refused 13 line 4` with no place, the same at byte 5, and seven steps.
pub codes : map code_of (refused_at 13 4 ∷ refused_in 13 4 5 ∷ accepted_with 7 ∷ []) ≡ 55834836992 ∷ 1407430718390272 ∷ 7 ∷ []
codes = refl
