-- The report's lines for document 01's listing (row 1 as ask 3 has it), under its pattern of two beads, for a step that has only the first
-- bead, for a step 0 that holds, and for a refusal.
use Prim.Native.Nat.{ℕ}
use mathlib.Core.Path.{◌≡◌, refl}
use mathlib.Core.List.{List, [], ◌∷◌, ◌++◌, map}
use lib.ListN.{take, replicate}
use Rattle.answer.specs.Answers.{refused_at, refused_in}
use Rattle.text.specs.Split.{joined}
use Rattle.numbers.specs.Numbers.{spell_in}
use Rattle.report_lines.specs.Lines.{header_text, row_text, refusal_text}

-- A line that the definitions give, and the bytes that the documents show.
pub record Case : Type 0 where
  pub line : List ℕ
  pub bytes : List ℕ

-- the line of a row of ten numbers, zeros at the end
abbrev step_line : ℕ → List ℕ → List ℕ
step_line step ns = row_text 2 step (take 10 (ns ++ replicate 10 0))

unfoldable pub cases : List Case
cases =
    -- vertex prefixes pivots
    (record {
      line = header_text;
      -- `vertex prefixes pivots\n`
      bytes = 118 ∷ 101 ∷ 114 ∷ 116 ∷ 101 ∷ 120 ∷ 32 ∷ 112 ∷ 114 ∷ 101 ∷ 102 ∷ 105 ∷ 120 ∷ 101 ∷ 115 ∷ 32 ∷ 112 ∷ 105 ∷ 118 ∷ 111 ∷ 116 ∷ 115 ∷ 10 ∷ [];
    })
    -- 0 0 -
    ∷ (record { line = step_line 0 (0 ∷ []); bytes = 48 ∷ 32 ∷ 48 ∷ 32 ∷ 45 ∷ 10 ∷ [] })
    -- 1 3 0,1,1
    ∷ (record { line = step_line 1 (3 ∷ 0 ∷ 1 ∷ 1 ∷ []); bytes = 49 ∷ 32 ∷ 51 ∷ 32 ∷ 48 ∷ 44 ∷ 49 ∷ 44 ∷ 49 ∷ 10 ∷ [] })
    -- 2 0 -
    ∷ (record { line = step_line 2 (0 ∷ []); bytes = 50 ∷ 32 ∷ 48 ∷ 32 ∷ 45 ∷ 10 ∷ [] })
    -- 3 2 0,1,3
    ∷ (record { line = step_line 3 (2 ∷ 0 ∷ 1 ∷ 3 ∷ []); bytes = 51 ∷ 32 ∷ 50 ∷ 32 ∷ 48 ∷ 44 ∷ 49 ∷ 44 ∷ 51 ∷ 10 ∷ [] })
    -- 4 0 -
    ∷ (record { line = step_line 4 (0 ∷ []); bytes = 52 ∷ 32 ∷ 48 ∷ 32 ∷ 45 ∷ 10 ∷ [] })
    -- 5 2 0,1,5
    ∷ (record { line = step_line 5 (2 ∷ 0 ∷ 1 ∷ 5 ∷ []); bytes = 53 ∷ 32 ∷ 50 ∷ 32 ∷ 48 ∷ 44 ∷ 49 ∷ 44 ∷ 53 ∷ 10 ∷ [] })
    -- 6 3 0,1,6
    ∷ (record { line = step_line 6 (3 ∷ 0 ∷ 1 ∷ 6 ∷ []); bytes = 54 ∷ 32 ∷ 51 ∷ 32 ∷ 48 ∷ 44 ∷ 49 ∷ 44 ∷ 54 ∷ 10 ∷ [] })
    -- 1 1 -
    ∷ (record { line = step_line 1 (1 ∷ []); bytes = 49 ∷ 32 ∷ 49 ∷ 32 ∷ 45 ∷ 10 ∷ [] })
    -- 0 3 0,0,0
    ∷ (record { line = step_line 0 (3 ∷ []); bytes = 48 ∷ 32 ∷ 51 ∷ 32 ∷ 48 ∷ 44 ∷ 48 ∷ 44 ∷ 48 ∷ 10 ∷ [] })
    -- refused 13 line 4 byte 5
    ∷ (record { line = refusal_text (refused_in 13 4 5); bytes = 114 ∷ 101 ∷ 102 ∷ 117 ∷ 115 ∷ 101 ∷ 100 ∷ 32 ∷ 49 ∷ 51 ∷ 32 ∷ 108 ∷ 105 ∷ 110 ∷ 101 ∷ 32 ∷ 52 ∷ 32 ∷ 98 ∷ 121 ∷ 116 ∷ 101 ∷ 32 ∷ 53 ∷ 10 ∷ [] })
    -- refused 10 line 0 byte 0
    ∷ (record { line = refusal_text (refused_at 10 0); bytes = 114 ∷ 101 ∷ 102 ∷ 117 ∷ 115 ∷ 101 ∷ 100 ∷ 32 ∷ 49 ∷ 48 ∷ 32 ∷ 108 ∷ 105 ∷ 110 ∷ 101 ∷ 32 ∷ 48 ∷ 32 ∷ 98 ∷ 121 ∷ 116 ∷ 101 ∷ 32 ∷ 48 ∷ 10 ∷ [] })
    ∷ []

-- Each line has its bytes.
pub listing : map (λ c. c.line) cases ≡ map (λ c. c.bytes) cases
unfolding cases joined spell_in
listing = refl
