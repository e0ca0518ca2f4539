-- The report's lines, put together from what the single calls write.
-- Assumes nothing.
use Prim.Native.Nat.{ℕ, suc, ◌+◌, ◌-◌, ◌/◌, ◌^◌, ◌≤◌, ◌<◌, min}
use mathlib.Core.Path.{◌≡◌, refl, sym, ap, ◌∙◌}
use mathlib.Core.Bool.{true, false}
use mathlib.Core.List.{List, [], ◌∷◌, ◌++◌, append_assoc}
use native.Mathlib.Nat.{div-eq_of_lt}
use native.Mathlib.Decide.{dec_le}
use native.Mathlib.Omega.{arith}
use lib.ListN.{length, get_or, take, drop, length-drop}
use lib.Seq.{drop-cons, take_all}
use Rattle.answer.specs.declared.Answer.{Answer}
use Rattle.sets.specs.Sets.{member}
use Rattle.sets.proofs.Bits.{member_add, member_empty}
use Rattle.layout.specs.Layout.{most_beads, set_width, row_length}
use Rattle.text.specs.Split.{joined}
use Rattle.numbers.specs.Numbers.{spell}
use Rattle.report_lines.specs.Lines.{header_text, pivots_word, row_text, refusal_text}
use Rattle.writing.specs.Put.{listed}
use Rattle.writing.proofs.PutLaws.{joined_listed, kit as put_kit}

-- No set has a member past its width.
pub none_holds : (beads s : ℕ) → set_width < beads → s < 65536 → member (beads - 1) s ≡ false
none_holds beads s h k =
    let e : beads - 1 ≡ set_width + (beads - 1 - set_width) = omega arith in
    let z : s / 2 ^ set_width ≡ 0 = div-eq_of_lt k in
    ap (λ (i : ℕ). member i s) e ∙ member_add set_width (beads - 1 - set_width) s ∙ ap (member (beads - 1 - set_width)) z ∙ member_empty (beads - 1 - set_width)

-- ---- pivots

-- The pivots of a row of ten numbers: the first, and the others.
pivots_part : (row : List ℕ) (beads : ℕ) → length row ≡ row_length
    → take (suc beads) (drop 1 row) ≡ get_or row 1 0 ∷ take (2 + min beads most_beads - 2) (drop 2 row)
pivots_part row beads h = rw (drop-cons row 1 0 (omega arith)) (ap (λ (t : List ℕ). get_or row 1 0 ∷ t) (same (dec_le beads most_beads)))
  where
    same : Dec (beads ≤ most_beads) → take beads (drop 2 row) ≡ take (2 + min beads most_beads - 2) (drop 2 row)
    same (yes l) = let p : 2 + min beads most_beads - 2 ≡ beads = omega arith in rw p
    same (no n) =
        take_all beads (drop 2 row) (rw length-drop (omega arith))
        ∙ sym (take_all (2 + min beads most_beads - 2) (drop 2 row) (rw length-drop (omega arith)))

module _ (beads : ℕ) (row : List ℕ) where
  pub pivots_are : member (beads - 1) (get_or row 0 0) ≡ true → length row ≡ row_length
      → pivots_word beads row ≡ spell (get_or row 1 0) ++ listed 44 (take (2 + min beads most_beads - 2) (drop 2 row))
  pivots_are t h = rw (t, pivots_part row beads h, joined_listed)

  pub dash_is : member (beads - 1) (get_or row 0 0) ≡ false → pivots_word beads row ≡ 45 ∷ []
  dash_is f = rw f

-- ---- lines

pub row_is : (beads step : ℕ) (row : List ℕ)
    → row_text beads step row ≡ (spell step ++ (32 ∷ [])) ++ (spell (get_or row 0 0) ++ (32 ∷ [])) ++ pivots_word beads row ++ (10 ∷ [])
unfolding joined
row_is beads step row = simp append_assoc refl

-- `vertex prefixes pivots`, and its newline
pub header_is :
    header_text
    -- `vertex prefixes pivots\n`
    ≡ 118 ∷ 101 ∷ 114 ∷ 116 ∷ 101 ∷ 120 ∷ 32 ∷ 112 ∷ 114 ∷ 101 ∷ 102 ∷ 105 ∷ 120 ∷ 101 ∷ 115 ∷ 32 ∷ 112 ∷ 105 ∷ 118 ∷ 111 ∷ 116 ∷ 115 ∷ 10 ∷ []
unfolding joined
header_is = refl

-- `refused `, `line ` and `byte `
abbrev refused_bytes : List ℕ
refused_bytes = 114 ∷ 101 ∷ 102 ∷ 117 ∷ 115 ∷ 101 ∷ 100 ∷ 32 ∷ []

abbrev line_bytes : List ℕ
line_bytes = 108 ∷ 105 ∷ 110 ∷ 101 ∷ 32 ∷ []

abbrev byte_bytes : List ℕ
byte_bytes = 98 ∷ 121 ∷ 116 ∷ 101 ∷ 32 ∷ []

pub refusal_is : (a : Answer)
    → refusal_text a
    ≡ (refused_bytes ++ (spell a.number ++ (32 ∷ []))) ++ (line_bytes ++ (spell a.line ++ (32 ∷ []))) ++ (byte_bytes ++ (spell a.byte ++ (10 ∷ [])))
unfolding joined
refusal_is a = simp append_assoc refl

pub ruleset kit = (put_kit, none_holds, pivots_are, dash_is, row_is, header_is, refusal_is)
