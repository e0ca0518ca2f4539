-- Places in a line (Ask 2): a place counts from 1, and 0 stands where no single place is at fault. A field's place is 1 plus the bytes of the
-- line before it; an empty field has the place where it would begin.
use Rattle.std.specs.Prelude.{ℕ, zero, suc, ◌-◌, ◌<◌, ◌≡◌, Bool, false, not, cond, ◌&&◌, List, [], map, leb, ltb, length, get_or, Option, Some, None, ok_or, Result, Err}
use Rattle.lists.specs.Leftmost.{leftmost}
use Rattle.text.specs.Lines.{TextLine, lines_of, printable_byte, whole}
use Rattle.fields.specs.Fields.{part_start, field_of}

-- A place as the code has it: none for 0.
unfoldable pub as_place : ℕ → Option ℕ
as_place zero = None
as_place (suc i) = Some (suc i)

-- The place of the field with index i; 0 where the line lacks it.
unfoldable pub place_at : List (List ℕ) → ℕ → ℕ
place_at fs i = cond (ltb i (length fs)) (suc (part_start fs i)) 0

-- The place of the leftmost field that passes a test of its index; 0 where none does.
abbrev pub place_where : (ℕ → Bool) → List (List ℕ) → ℕ
place_where f fs = place_at fs (leftmost f (length fs))

-- What a test answers for the indexes below n is what f gives.
abbrev pub Computes : (ℕ → Bool → Type 0) → ℕ → (ℕ → Bool) → Type 0
Computes answers n f = (i : ℕ) (b : Bool) → i < n → answers i b → b ≡ f i

-- The byte with index i is outside 32 to 126.
abbrev pub unprintable_at : List ℕ → ℕ → Bool
unprintable_at bs i = not (printable_byte (get_or bs i 0))

-- The place of the first byte outside 32 to 126; 0 where there is none.
unfoldable pub unprintable_place : List ℕ → ℕ
unprintable_place bs = let i = leftmost (unprintable_at bs) (length bs) in cond (ltb i (length bs)) (suc i) 0

-- A line that is not whole: too long and no newline have no place; then the first byte outside 32 to 126.
abbrev pub broken_at : ℕ → TextLine → ℕ
broken_at most l = cond (leb (length l.bytes) most && l.newline) (unprintable_place l.bytes) 0

-- What makes a line not whole ranks before what is wrong in its fields.
unfoldable pub ranked_at : ℕ → TextLine → ℕ → ℕ
ranked_at most l in_fields = cond (whole most l) in_fields (broken_at most l)

-- The bytes of each line of a text, without their newlines.
unfoldable pub lines_bytes : List ℕ → List (List ℕ)
lines_bytes text = map (λ l. l.bytes) (lines_of text)

-- The n-th line of a text, from 1 on; past the last, an empty line without a newline.
abbrev pub line_at : List ℕ → ℕ → TextLine
line_at text n = get_or (lines_of text) (n - 1) (record { bytes = []; newline = false })

-- Where its bytes begin and end in the text, if it has its newline.
unfoldable pub ended_line : List ℕ → ℕ → Option (ℕ × ℕ)
ended_line text n = cond (line_at text n).newline (field_of 10 text (n - 1)) None

-- The line as it is found: whole, or its place at fault.
abbrev pub as_whole : Option (ℕ × ℕ) → Result (ℕ × ℕ) (Option ℕ)
as_whole place = ok_or place None

unfoldable pub found_line : ℕ → List ℕ → ℕ → Result (ℕ × ℕ) (Option ℕ)
found_line most text n = cond (whole most (line_at text n)) (as_whole (ended_line text n)) (Err (as_place (broken_at most (line_at text n))))
