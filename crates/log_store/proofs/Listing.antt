-- The listing of document 01 through the format's definitions, and a text for each refusal of a line.
-- Assumes nothing.
use mathlib.Core.Path.{◌≡◌, refl}
use mathlib.Core.List.{List, [], ◌∷◌, ◌++◌, map}
use Prim.Native.Nat.{ℕ, ◌-◌}
use lib.ListN.{get_or}
use Rattle.text.specs.Split.{split}
use Rattle.text.specs.Lines.{as_lines, printable}
use Rattle.numbers.specs.Numbers.{digits, value_from, decimal}
use Rattle.text.specs.Walk.{accepted, faulty, walk}
use Rattle.layout.specs.Layout.{labels_at, board_at, begin_at, link_at, log_length}
use Rattle.log_line.specs.Header.{place_of}
use Rattle.numbers.specs.Listed.{are_numbers}
use Rattle.log_line.specs.Step.{Step, rising_below, link_count}
use Rattle.log_line.specs.Format.{log_text}
use Rattle.log_store.specs.Buffer.{begins, links, buffer_of}

-- The first line, `vertex board labels preds`, with its newline.
abbrev pub header : List ℕ
header =
    118 ∷ 101 ∷ 114 ∷ 116 ∷ 101 ∷ 120 ∷ 32 ∷ 98 ∷ 111 ∷ 97 ∷ 114 ∷ 100 ∷ 32 ∷ 108 ∷ 97 ∷ 98 ∷ 101 ∷ 108 ∷ 115 ∷ 32 ∷ 112 ∷ 114 ∷ 101 ∷ 100 ∷ 115 ∷ 10 ∷ []

-- `log.txt` of the listing: the header, and then the lines of the steps 0 to 6.
abbrev pub listing : List ℕ
listing =
    header
    -- `0 0 0 -\n`
    ++ ((48 ∷ 32 ∷ 48 ∷ 32 ∷ 48 ∷ 32 ∷ 45 ∷ 10 ∷ [])
    -- `1 1 1 0\n`
    ++ ((49 ∷ 32 ∷ 49 ∷ 32 ∷ 49 ∷ 32 ∷ 48 ∷ 10 ∷ [])
    -- `2 2 4 0,1\n`
    ++ ((50 ∷ 32 ∷ 50 ∷ 32 ∷ 52 ∷ 32 ∷ 48 ∷ 44 ∷ 49 ∷ 10 ∷ [])
    -- `3 1 2 1\n`
    ++ ((51 ∷ 32 ∷ 49 ∷ 32 ∷ 50 ∷ 32 ∷ 49 ∷ 10 ∷ [])
    -- `4 2 2 2,3\n`
    ++ ((52 ∷ 32 ∷ 50 ∷ 32 ∷ 50 ∷ 32 ∷ 50 ∷ 44 ∷ 51 ∷ 10 ∷ [])
    -- `5 1 0 3\n`
    ++ ((53 ∷ 32 ∷ 49 ∷ 32 ∷ 48 ∷ 32 ∷ 51 ∷ 10 ∷ [])
    -- `6 3 0 1\n`
    ++ (54 ∷ 32 ∷ 51 ∷ 32 ∷ 48 ∷ 32 ∷ 49 ∷ 10 ∷ [])))))))

abbrev pub step : ℕ → ℕ → List ℕ → Step
step board labels preds = record { board = board; labels = labels; preds = preds }

abbrev pub steps : List Step
steps =
    step 0 0 [] ∷ step 1 1 (0 ∷ []) ∷ step 2 4 (0 ∷ 1 ∷ []) ∷ step 1 2 (1 ∷ []) ∷ step 2 2 (2 ∷ 3 ∷ []) ∷ step 1 0 (3 ∷ []) ∷ step 3 0 (1 ∷ []) ∷ []

-- The listing is accepted under its three labels, and says these steps.
pub listing_read : log_text 3 listing ≡ accepted (record { columns = record { vertex = 0; board = 1; labels = 2; preds = 3 }; steps = steps })
unfolding split as_lines printable digits value_from decimal walk place_of are_numbers rising_below link_count
listing_read = refl

-- Step count; label sets, boards and beginnings of the steps 0 to 6 and one place more; and the links.
abbrev pub places : (ℕ → ℕ) → List ℕ
places at = map at (0 ∷ 1 ∷ 2 ∷ 3 ∷ 4 ∷ 5 ∷ 6 ∷ 7 ∷ [])

pub listing_buffer :
    map (λ (at : List ℕ). map (λ (i : ℕ). get_or (buffer_of steps) i 0) at)
    ((0 ∷ []) ∷ places labels_at ∷ places board_at ∷ places begin_at ∷ places link_at ∷ (link_at 8 ∷ (log_length - 1) ∷ []) ∷ [])
    ≡ (7 ∷ []) ∷ (0 ∷ 1 ∷ 4 ∷ 2 ∷ 2 ∷ 0 ∷ 0 ∷ 0 ∷ []) ∷ (0 ∷ 1 ∷ 2 ∷ 1 ∷ 2 ∷ 1 ∷ 3 ∷ 0 ∷ []) ∷ (0 ∷ 0 ∷ 1 ∷ 3 ∷ 4 ∷ 6 ∷ 7 ∷ 8 ∷ [])
    ∷ (0 ∷ 0 ∷ 1 ∷ 1 ∷ 2 ∷ 3 ∷ 3 ∷ 1 ∷ []) ∷ (0 ∷ 0 ∷ []) ∷ []
unfolding begins links
listing_buffer = refl

-- A text for each refusal: a board over 255; a header without `preds`; step 1 in the place of 0; a link from the step itself; a label
-- past the third; no step.
abbrev pub refusals : List (List ℕ)
refusals =
    -- `0 256 0 -\n`
    (header ++ (48 ∷ 32 ∷ 50 ∷ 53 ∷ 54 ∷ 32 ∷ 48 ∷ 32 ∷ 45 ∷ 10 ∷ []))
    -- `vertex board labels\n`
    ∷ (118 ∷ 101 ∷ 114 ∷ 116 ∷ 101 ∷ 120 ∷ 32 ∷ 98 ∷ 111 ∷ 97 ∷ 114 ∷ 100 ∷ 32 ∷ 108 ∷ 97 ∷ 98 ∷ 101 ∷ 108 ∷ 115 ∷ 10 ∷ [])
    -- `1 0 0 -\n`
    ∷ (header ++ (49 ∷ 32 ∷ 48 ∷ 32 ∷ 48 ∷ 32 ∷ 45 ∷ 10 ∷ []))
    -- `0 0 0 -\n1 0 0 1\n`
    ∷ (header ++ (48 ∷ 32 ∷ 48 ∷ 32 ∷ 48 ∷ 32 ∷ 45 ∷ 10 ∷ 49 ∷ 32 ∷ 48 ∷ 32 ∷ 48 ∷ 32 ∷ 49 ∷ 10 ∷ []))
    -- `0 0 0 -\n1 0 8 0\n`
    ∷ (header ++ (48 ∷ 32 ∷ 48 ∷ 32 ∷ 48 ∷ 32 ∷ 45 ∷ 10 ∷ 49 ∷ 32 ∷ 48 ∷ 32 ∷ 56 ∷ 32 ∷ 48 ∷ 10 ∷ []))
    ∷ (header)
    ∷ []

pub refusals_given :
    map (λ (t : List ℕ). log_text 3 t) refusals
    ≡ faulty 21 2 ∷ faulty 22 1 ∷ faulty 23 2 ∷ faulty 24 3 ∷ faulty 25 3 ∷ faulty 26 1 ∷ []
unfolding split as_lines printable digits value_from decimal walk place_of are_numbers rising_below link_count
refusals_given = refl
