-- The lines that the program `judge` prints (document 01, "One listing whole" and the end of "Who is at fault"), as lists of bytes.
use Rattle.std.specs.Prelude.{ℕ, suc, ◌-◌, cond, List, [], ◌∷◌, map, get_or, take, drop}
use Rattle.answer.specs.declared.Answer.{Answer}
use Rattle.sets.specs.Sets.{member}
use Rattle.text.specs.Split.{joined, line_from}
use Rattle.numbers.specs.Numbers.{spell}

-- `vertex`, `prefixes`, `pivots`
abbrev pub header_fields : List (List ℕ)
header_fields =
    (118 ∷ 101 ∷ 114 ∷ 116 ∷ 101 ∷ 120 ∷ [])
    ∷ (112 ∷ 114 ∷ 101 ∷ 102 ∷ 105 ∷ 120 ∷ 101 ∷ 115 ∷ [])
    ∷ (112 ∷ 105 ∷ 118 ∷ 111 ∷ 116 ∷ 115 ∷ [])
    ∷ []

abbrev pub header_text : List ℕ
header_text = line_from header_fields

-- The pivots joined by commas, or `-` if the whole pattern, of this many beads, fails at the step.
abbrev pub pivots_word : ℕ → List ℕ → List ℕ
pivots_word beads row = cond (member (beads - 1) (get_or row 0 0)) (joined 44 (map spell (take (suc beads) (drop 1 row)))) (45 ∷ [])

-- The line of a step: its number; the set of prefixes; the pivots.
abbrev pub row_text : ℕ → ℕ → List ℕ → List ℕ
row_text beads step row = line_from (spell step ∷ (spell (get_or row 0 0) ∷ (pivots_word beads row ∷ [])))

-- `refused N line L byte B`
abbrev pub refusal_fields : Answer → List (List ℕ)
refusal_fields a =
    (114 ∷ 101 ∷ 102 ∷ 117 ∷ 115 ∷ 101 ∷ 100 ∷ [])
    ∷ (spell a.number
    ∷ ((108 ∷ 105 ∷ 110 ∷ 101 ∷ []) ∷ (spell a.line ∷ ((98 ∷ 121 ∷ 116 ∷ 101 ∷ []) ∷ (spell a.byte ∷ [])))))

abbrev pub refusal_text : Answer → List ℕ
refusal_text a = line_from (refusal_fields a)
