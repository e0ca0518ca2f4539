-- Each row and rank of the table of bytes (Ask 2), on a text that is refused so; those of line 1,026 on the fields of a line.
-- Assumes nothing.
use Prim.Native.Nat.{ℕ}
use mathlib.Core.Path.{◌≡◌, refl}
use mathlib.Core.List.{List, [], ◌∷◌, ◌++◌, map}
use lib.ListN.{length, replicate}
use Rattle.lists.specs.Leftmost.{leftmost_from}
use Rattle.text.specs.Split.{split, joined}
use Rattle.text.specs.Lines.{as_lines, printable}
use Rattle.text.specs.Walk.{faulty, walk}
use Rattle.fields.specs.Fields.{part_start}
use Rattle.numbers.specs.Numbers.{digits, value_from, decimal}
use Rattle.numbers.specs.Listed.{are_numbers}
use Rattle.line_places.specs.Place.{place_at, unprintable_place, ranked_at, lines_bytes}
use Rattle.log_line.specs.Header.{place_of, Columns}
use Rattle.log_line.specs.Step.{rising_below, link_count}
use Rattle.log_line.specs.Format.{log_text}
use Rattle.log_places.specs.Place.{wrong_name, wrong_field, over_limit_at, limit_at}
use Rattle.log_byte.specs.Byte.{columns_named, steps_before, place_in, log_byte}

-- A text under three labels, the number and line of its refusal, and the byte.
pub record Case : Type 0 where
  pub text : List ℕ
  pub number : ℕ
  pub line : ℕ
  pub byte : ℕ

abbrev pub case : List ℕ → ℕ → ℕ → ℕ → Case
case text number line byte = record { text = text; number = number; line = line; byte = byte }

-- `vertex board labels preds`, with its newline.
abbrev pub header : List ℕ
header = 118 ∷ 101 ∷ 114 ∷ 116 ∷ 101 ∷ 120 ∷ 32 ∷ 98 ∷ 111 ∷ 97 ∷ 114 ∷ 100 ∷ 32 ∷ 108 ∷ 97 ∷ 98 ∷ 101 ∷ 108 ∷ 115 ∷ 32 ∷ 112 ∷ 114 ∷ 101 ∷ 100 ∷ 115 ∷ 10 ∷ []

abbrev pub cases : List Case
cases =
    -- An empty text.
    case ([]) 20 0 0
    -- The header of 241 bytes; then also with a tab in it.
    ∷ case (replicate 241 120 ++ (10 ∷ [])) 21 1 0
    ∷ case (replicate 240 120 ++ (9 ∷ 10 ∷ [])) 21 1 0
    -- No newline; then also a tab.
    ∷ case (118 ∷ 101 ∷ 114 ∷ 116 ∷ 101 ∷ 120 ∷ []) 21 1 0
    ∷ case (97 ∷ 9 ∷ 98 ∷ []) 21 1 0
    -- A tab, and another one behind it.
    -- `vertex\tboard\tlabels\n`
    ∷ case (118 ∷ 101 ∷ 114 ∷ 116 ∷ 101 ∷ 120 ∷ 9 ∷ 98 ∷ 111 ∷ 97 ∷ 114 ∷ 100 ∷ 9 ∷ 108 ∷ 97 ∷ 98 ∷ 101 ∷ 108 ∷ 115 ∷ 10 ∷ []) 21 1 7
    -- A tab behind a name that is wrong.
    ∷ case (120 ∷ 32 ∷ 98 ∷ 111 ∷ 97 ∷ 114 ∷ 100 ∷ 9 ∷ 10 ∷ []) 21 1 8
    -- A header of 240 bytes without a space.
    ∷ case (replicate 240 120 ++ (10 ∷ [])) 22 1 1
    -- `Board`.
    -- `vertex Board labels preds\n`
    ∷ case (118 ∷ 101 ∷ 114 ∷ 116 ∷ 101 ∷ 120 ∷ 32 ∷ 66 ∷ 111 ∷ 97 ∷ 114 ∷ 100 ∷ 32 ∷ 108 ∷ 97 ∷ 98 ∷ 101 ∷ 108 ∷ 115 ∷ 32 ∷ 112 ∷ 114 ∷ 101 ∷ 100 ∷ 115 ∷ 10 ∷ []) 22 1 8
    -- `vertex` twice, and a wrong name behind it.
    -- `vertex board vertex x\n`
    ∷ case (118 ∷ 101 ∷ 114 ∷ 116 ∷ 101 ∷ 120 ∷ 32 ∷ 98 ∷ 111 ∷ 97 ∷ 114 ∷ 100 ∷ 32 ∷ 118 ∷ 101 ∷ 114 ∷ 116 ∷ 101 ∷ 120 ∷ 32 ∷ 120 ∷ 10 ∷ []) 22 1 14
    -- A fifth name, another one, and one that repeats.
    -- `vertex board labels preds x\n`
    ∷ case (118 ∷ 101 ∷ 114 ∷ 116 ∷ 101 ∷ 120 ∷ 32 ∷ 98 ∷ 111 ∷ 97 ∷ 114 ∷ 100 ∷ 32 ∷ 108 ∷ 97 ∷ 98 ∷ 101 ∷ 108 ∷ 115 ∷ 32 ∷ 112 ∷ 114 ∷ 101 ∷ 100 ∷ 115 ∷ 32 ∷ 120 ∷ 10 ∷ []) 22 1 27
    -- `vertex board labels preds board\n`
    ∷ case (118 ∷ 101 ∷ 114 ∷ 116 ∷ 101 ∷ 120 ∷ 32 ∷ 98 ∷ 111 ∷ 97 ∷ 114 ∷ 100 ∷ 32 ∷ 108 ∷ 97 ∷ 98 ∷ 101 ∷ 108 ∷ 115 ∷ 32 ∷ 112 ∷ 114 ∷ 101 ∷ 100 ∷ 115 ∷ 32 ∷ 98 ∷ 111 ∷ 97 ∷ 114 ∷ 100 ∷ 10 ∷ []) 22 1 27
    -- A trailing space.
    -- `vertex board labels preds \n`
    ∷ case (118 ∷ 101 ∷ 114 ∷ 116 ∷ 101 ∷ 120 ∷ 32 ∷ 98 ∷ 111 ∷ 97 ∷ 114 ∷ 100 ∷ 32 ∷ 108 ∷ 97 ∷ 98 ∷ 101 ∷ 108 ∷ 115 ∷ 32 ∷ 112 ∷ 114 ∷ 101 ∷ 100 ∷ 115 ∷ 32 ∷ 10 ∷ []) 22 1 27
    -- Three names; two, of which the second is wrong.
    -- `vertex board labels\n`
    ∷ case (118 ∷ 101 ∷ 114 ∷ 116 ∷ 101 ∷ 120 ∷ 32 ∷ 98 ∷ 111 ∷ 97 ∷ 114 ∷ 100 ∷ 32 ∷ 108 ∷ 97 ∷ 98 ∷ 101 ∷ 108 ∷ 115 ∷ 10 ∷ []) 22 1 0
    -- `vertex x\n`
    ∷ case (118 ∷ 101 ∷ 114 ∷ 116 ∷ 101 ∷ 120 ∷ 32 ∷ 120 ∷ 10 ∷ []) 22 1 8
    -- An empty line; a leading space; a doubled one.
    ∷ case (10 ∷ []) 22 1 1
    -- ` vertex board labels preds\n`
    ∷ case (32 ∷ 118 ∷ 101 ∷ 114 ∷ 116 ∷ 101 ∷ 120 ∷ 32 ∷ 98 ∷ 111 ∷ 97 ∷ 114 ∷ 100 ∷ 32 ∷ 108 ∷ 97 ∷ 98 ∷ 101 ∷ 108 ∷ 115 ∷ 32 ∷ 112 ∷ 114 ∷ 101 ∷ 100 ∷ 115 ∷ 10 ∷ []) 22 1 1
    -- `vertex  board labels preds\n`
    ∷ case (118 ∷ 101 ∷ 114 ∷ 116 ∷ 101 ∷ 120 ∷ 32 ∷ 32 ∷ 98 ∷ 111 ∷ 97 ∷ 114 ∷ 100 ∷ 32 ∷ 108 ∷ 97 ∷ 98 ∷ 101 ∷ 108 ∷ 115 ∷ 32 ∷ 112 ∷ 114 ∷ 101 ∷ 100 ∷ 115 ∷ 10 ∷ []) 22 1 8
    -- A wrong header with no step is 22; a right one is 26.
    -- `preds board labels\n`
    ∷ case (112 ∷ 114 ∷ 101 ∷ 100 ∷ 115 ∷ 32 ∷ 98 ∷ 111 ∷ 97 ∷ 114 ∷ 100 ∷ 32 ∷ 108 ∷ 97 ∷ 98 ∷ 101 ∷ 108 ∷ 115 ∷ 10 ∷ []) 22 1 0
    ∷ case (header) 26 1 0
    -- Line 2: no newline; a tab, and three fields.
    -- `0 0 0 -`
    ∷ case (header ++ (48 ∷ 32 ∷ 48 ∷ 32 ∷ 48 ∷ 32 ∷ 45 ∷ [])) 21 2 0
    ∷ case (header ++ (48 ∷ 32 ∷ 48 ∷ 9 ∷ 48 ∷ 10 ∷ [])) 21 2 4
    -- Three fields; also with one that is wrong; five; an empty line.
    ∷ case (header ++ (48 ∷ 32 ∷ 48 ∷ 32 ∷ 48 ∷ 10 ∷ [])) 21 2 0
    ∷ case (header ++ (120 ∷ 32 ∷ 48 ∷ 32 ∷ 48 ∷ 10 ∷ [])) 21 2 0
    -- `0 0 0 - \n`
    ∷ case (header ++ (48 ∷ 32 ∷ 48 ∷ 32 ∷ 48 ∷ 32 ∷ 45 ∷ 32 ∷ 10 ∷ [])) 21 2 0
    ∷ case (header ++ (10 ∷ [])) 21 2 0
    -- `vertex` no number; `board` 256, then also in the first and in the last column; `labels` 65536; `preds` with two commas.
    -- `x 0 0 -\n`
    ∷ case (header ++ (120 ∷ 32 ∷ 48 ∷ 32 ∷ 48 ∷ 32 ∷ 45 ∷ 10 ∷ [])) 21 2 1
    -- `0 256 0 -\n`
    ∷ case (header ++ (48 ∷ 32 ∷ 50 ∷ 53 ∷ 54 ∷ 32 ∷ 48 ∷ 32 ∷ 45 ∷ 10 ∷ [])) 21 2 3
    -- `board vertex labels preds\n256 0 0 -\n`
    ∷ case (98 ∷ 111 ∷ 97 ∷ 114 ∷ 100 ∷ 32 ∷ 118 ∷ 101 ∷ 114 ∷ 116 ∷ 101 ∷ 120 ∷ 32 ∷ 108 ∷ 97 ∷ 98 ∷ 101 ∷ 108 ∷ 115 ∷ 32 ∷ 112 ∷ 114 ∷ 101 ∷ 100 ∷ 115 ∷ 10 ∷ 50 ∷ 53 ∷ 54 ∷ 32 ∷ 48 ∷ 32 ∷ 48 ∷ 32 ∷ 45 ∷ 10 ∷ []) 21 2 1
    -- `vertex labels preds board\n0 0 - 256\n`
    ∷ case (118 ∷ 101 ∷ 114 ∷ 116 ∷ 101 ∷ 120 ∷ 32 ∷ 108 ∷ 97 ∷ 98 ∷ 101 ∷ 108 ∷ 115 ∷ 32 ∷ 112 ∷ 114 ∷ 101 ∷ 100 ∷ 115 ∷ 32 ∷ 98 ∷ 111 ∷ 97 ∷ 114 ∷ 100 ∷ 10 ∷ 48 ∷ 32 ∷ 48 ∷ 32 ∷ 45 ∷ 32 ∷ 50 ∷ 53 ∷ 54 ∷ 10 ∷ []) 21 2 7
    -- `0 0 65536 -\n`
    ∷ case (header ++ (48 ∷ 32 ∷ 48 ∷ 32 ∷ 54 ∷ 53 ∷ 53 ∷ 51 ∷ 54 ∷ 32 ∷ 45 ∷ 10 ∷ [])) 21 2 5
    -- `0 0 0 1,,2\n`
    ∷ case (header ++ (48 ∷ 32 ∷ 48 ∷ 32 ∷ 48 ∷ 32 ∷ 49 ∷ 44 ∷ 44 ∷ 50 ∷ 10 ∷ [])) 21 2 7
    -- A line of 240 bytes whose last field is empty: the largest byte.
    -- `vertex board preds labels\n0 0 `
    ∷ case (118 ∷ 101 ∷ 114 ∷ 116 ∷ 101 ∷ 120 ∷ 32 ∷ 98 ∷ 111 ∷ 97 ∷ 114 ∷ 100 ∷ 32 ∷ 112 ∷ 114 ∷ 101 ∷ 100 ∷ 115 ∷ 32 ∷ 108 ∷ 97 ∷ 98 ∷ 101 ∷ 108 ∷ 115 ∷ 10 ∷ 48 ∷ 32 ∷ 48 ∷ 32 ∷ (joined 44 (replicate 118 (48 ∷ [])) ++ (32 ∷ 10 ∷ []))) 21 2 241
    -- Two that are wrong, in columns in another order.
    -- `preds labels board vertex\n- x 256 0\n`
    ∷ case (112 ∷ 114 ∷ 101 ∷ 100 ∷ 115 ∷ 32 ∷ 108 ∷ 97 ∷ 98 ∷ 101 ∷ 108 ∷ 115 ∷ 32 ∷ 98 ∷ 111 ∷ 97 ∷ 114 ∷ 100 ∷ 32 ∷ 118 ∷ 101 ∷ 114 ∷ 116 ∷ 101 ∷ 120 ∷ 10 ∷ 45 ∷ 32 ∷ 120 ∷ 32 ∷ 50 ∷ 53 ∷ 54 ∷ 32 ∷ 48 ∷ 10 ∷ []) 21 2 3
    -- `preds labels board vertex\n0, 0 256 0\n`
    ∷ case (112 ∷ 114 ∷ 101 ∷ 100 ∷ 115 ∷ 32 ∷ 108 ∷ 97 ∷ 98 ∷ 101 ∷ 108 ∷ 115 ∷ 32 ∷ 98 ∷ 111 ∷ 97 ∷ 114 ∷ 100 ∷ 32 ∷ 118 ∷ 101 ∷ 114 ∷ 116 ∷ 101 ∷ 120 ∷ 10 ∷ 48 ∷ 44 ∷ 32 ∷ 48 ∷ 32 ∷ 50 ∷ 53 ∷ 54 ∷ 32 ∷ 48 ∷ 10 ∷ []) 21 2 1
    -- 23, with `vertex` last.
    -- `board labels preds vertex\n0 0 - 1\n`
    ∷ case (98 ∷ 111 ∷ 97 ∷ 114 ∷ 100 ∷ 32 ∷ 108 ∷ 97 ∷ 98 ∷ 101 ∷ 108 ∷ 115 ∷ 32 ∷ 112 ∷ 114 ∷ 101 ∷ 100 ∷ 115 ∷ 32 ∷ 118 ∷ 101 ∷ 114 ∷ 116 ∷ 101 ∷ 120 ∷ 10 ∷ 48 ∷ 32 ∷ 48 ∷ 32 ∷ 45 ∷ 32 ∷ 49 ∷ 10 ∷ []) 23 2 7
    -- 24: a link of step 0; none of step 1; with `preds` first and labels wrong too.
    -- `0 0 0 0\n`
    ∷ case (header ++ (48 ∷ 32 ∷ 48 ∷ 32 ∷ 48 ∷ 32 ∷ 48 ∷ 10 ∷ [])) 24 2 7
    -- `0 0 0 -\n1 0 0 -\n`
    ∷ case (header ++ (48 ∷ 32 ∷ 48 ∷ 32 ∷ 48 ∷ 32 ∷ 45 ∷ 10 ∷ 49 ∷ 32 ∷ 48 ∷ 32 ∷ 48 ∷ 32 ∷ 45 ∷ 10 ∷ [])) 24 3 7
    -- `preds vertex board labels\n0 0 0 1\n`
    ∷ case (112 ∷ 114 ∷ 101 ∷ 100 ∷ 115 ∷ 32 ∷ 118 ∷ 101 ∷ 114 ∷ 116 ∷ 101 ∷ 120 ∷ 32 ∷ 98 ∷ 111 ∷ 97 ∷ 114 ∷ 100 ∷ 32 ∷ 108 ∷ 97 ∷ 98 ∷ 101 ∷ 108 ∷ 115 ∷ 10 ∷ 48 ∷ 32 ∷ 48 ∷ 32 ∷ 48 ∷ 32 ∷ 49 ∷ 10 ∷ []) 24 2 1
    -- 25.
    -- `0 0 1 -\n`
    ∷ case (header ++ (48 ∷ 32 ∷ 48 ∷ 32 ∷ 49 ∷ 32 ∷ 45 ∷ 10 ∷ [])) 25 2 5
    -- `0 0 0 -\n1 10 8 0\n`
    ∷ case (header ++ (48 ∷ 32 ∷ 48 ∷ 32 ∷ 48 ∷ 32 ∷ 45 ∷ 10 ∷ 49 ∷ 32 ∷ 49 ∷ 48 ∷ 32 ∷ 56 ∷ 32 ∷ 48 ∷ 10 ∷ [])) 25 3 6
    -- 26: a ninth link.
    -- `0 0 0 -\n1 0 0 0\n2 0 0 1\n3 0 0 2\n4 0 0 3\n5 0 0 4\n6 0 0 5\n7 0 0 6\n8 0 0 7\n9 0 0 0,1,2,3,4,5,6,7,8\n`
    ∷ case (header ++ (48 ∷ 32 ∷ 48 ∷ 32 ∷ 48 ∷ 32 ∷ 45 ∷ 10 ∷ 49 ∷ 32 ∷ 48 ∷ 32 ∷ 48 ∷ 32 ∷ 48 ∷ 10 ∷ 50 ∷ 32 ∷ 48 ∷ 32 ∷ 48 ∷ 32 ∷ 49 ∷ 10 ∷ 51 ∷ 32 ∷ 48 ∷ 32 ∷ 48 ∷ 32 ∷ 50 ∷ 10 ∷ 52 ∷ 32 ∷ 48 ∷ 32 ∷ 48 ∷ 32 ∷ 51 ∷ 10 ∷ 53 ∷ 32 ∷ 48 ∷ 32 ∷ 48 ∷ 32 ∷ 52 ∷ 10 ∷ 54 ∷ 32 ∷ 48 ∷ 32 ∷ 48 ∷ 32 ∷ 53 ∷ 10 ∷ 55 ∷ 32 ∷ 48 ∷ 32 ∷ 48 ∷ 32 ∷ 54 ∷ 10 ∷ 56 ∷ 32 ∷ 48 ∷ 32 ∷ 48 ∷ 32 ∷ 55 ∷ 10 ∷ 57 ∷ 32 ∷ 48 ∷ 32 ∷ 48 ∷ 32 ∷ 48 ∷ 44 ∷ 49 ∷ 44 ∷ 50 ∷ 44 ∷ 51 ∷ 44 ∷ 52 ∷ 44 ∷ 53 ∷ 44 ∷ 54 ∷ 44 ∷ 55 ∷ 44 ∷ 56 ∷ 10 ∷ [])) 26 11 7
    ∷ []

-- Each text is refused so,
pub cases_count : length cases ≡ 42
cases_count = refl

pub cases_refused : map (λ (c : Case). log_text 3 c.text) cases ≡ map (λ (c : Case). faulty c.number c.line) cases
unfolding split joined as_lines printable digits value_from decimal walk place_of are_numbers rising_below link_count
cases_refused = refl

-- and at this byte.
pub bytes : map (λ (c : Case). log_byte c.text c.number c.line) cases ≡ map (λ (c : Case). c.byte) cases
unfolding split joined as_lines printable digits value_from decimal place_of are_numbers link_count leftmost_from part_start place_at unprintable_place ranked_at lines_bytes wrong_name wrong_field over_limit_at columns_named steps_before place_in log_byte
bytes = refl

-- A line by its fields, under these columns, as that of step v after so many links; and the byte of 26.
pub record Line : Type 0 where
  pub before : ℕ
  pub columns : Columns
  pub step : ℕ
  pub fields : List (List ℕ)
  pub byte : ℕ

abbrev pub line : ℕ → Columns → ℕ → List (List ℕ) → ℕ → Line
line before c v fs byte = record { before = before; columns = c; step = v; fields = fs; byte = byte }

-- `vertex board labels preds`, `board labels preds vertex`, `preds vertex board labels`
abbrev pub usual : Columns
usual = record { vertex = 0; board = 1; labels = 2; preds = 3 }

abbrev pub vertex_last : Columns
vertex_last = record { vertex = 3; board = 0; labels = 1; preds = 2 }

abbrev pub preds_first : Columns
preds_first = record { vertex = 1; board = 2; labels = 3; preds = 0 }

abbrev pub lines : List Line
lines =
    -- Step 1,024, with `vertex` first and last.
    line 0 usual 1024 ((49 ∷ 48 ∷ 50 ∷ 52 ∷ []) ∷ (48 ∷ []) ∷ (48 ∷ []) ∷ (53 ∷ []) ∷ []) 1
    ∷ line 0 vertex_last 1024 ((48 ∷ []) ∷ (48 ∷ []) ∷ (53 ∷ []) ∷ (49 ∷ 48 ∷ 50 ∷ 52 ∷ []) ∷ []) 7
    -- With nine links too, `vertex` first and `preds` first.
    -- `0,1,2,3,4,5,6,7,8`
    ∷ line 0 usual 1024 ((49 ∷ 48 ∷ 50 ∷ 52 ∷ []) ∷ (48 ∷ []) ∷ (48 ∷ []) ∷ (48 ∷ 44 ∷ 49 ∷ 44 ∷ 50 ∷ 44 ∷ 51 ∷ 44 ∷ 52 ∷ 44 ∷ 53 ∷ 44 ∷ 54 ∷ 44 ∷ 55 ∷ 44 ∷ 56 ∷ []) ∷ []) 1
    -- `0,1,2,3,4,5,6,7,8`
    ∷ line 0 preds_first 1024 ((48 ∷ 44 ∷ 49 ∷ 44 ∷ 50 ∷ 44 ∷ 51 ∷ 44 ∷ 52 ∷ 44 ∷ 53 ∷ 44 ∷ 54 ∷ 44 ∷ 55 ∷ 44 ∷ 56 ∷ []) ∷ (49 ∷ 48 ∷ 50 ∷ 52 ∷ []) ∷ (48 ∷ []) ∷ (48 ∷ []) ∷ []) 1
    -- The 4,097th link; and the 4,096th, which is none too many.
    ∷ line 4096 usual 600 ((54 ∷ 48 ∷ 48 ∷ []) ∷ (48 ∷ []) ∷ (48 ∷ []) ∷ (53 ∷ []) ∷ []) 9
    ∷ line 4094 vertex_last 600 ((55 ∷ []) ∷ (48 ∷ []) ∷ (52 ∷ 44 ∷ 53 ∷ 44 ∷ 54 ∷ []) ∷ (54 ∷ 48 ∷ 48 ∷ []) ∷ []) 5
    ∷ line 4095 usual 600 ((54 ∷ 48 ∷ 48 ∷ []) ∷ (48 ∷ []) ∷ (48 ∷ []) ∷ (53 ∷ []) ∷ []) 0
    -- Step 1,024 with the 4,097th link, `preds` first.
    ∷ line 4096 preds_first 1024 ((53 ∷ []) ∷ (49 ∷ 48 ∷ 50 ∷ 52 ∷ []) ∷ (48 ∷ []) ∷ (48 ∷ []) ∷ []) 1
    ∷ []

pub lines_count : length lines ≡ 8
lines_count = refl

pub limits : map (λ (l : Line). limit_at l.before l.columns l.step l.fields) lines ≡ map (λ (l : Line). l.byte) lines
unfolding split decimal digits value_from leftmost_from part_start place_at over_limit_at
limits = refl
