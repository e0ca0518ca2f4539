-- The lines of a text (document 01, "Texts"): byte 10 ends a line. What follows the last newline is a line too, without one,
-- if it has any byte.
use Rattle.std.specs.Prelude.{ℕ, Bool, true, false, cond, ◌&&◌, List, [], ◌∷◌, leb, ltb, length, Result, Ok, Err}
use Rattle.std.specs.List.{list_all}
use Rattle.text.specs.Split.{split}
use Rattle.text.specs.declared.lines.LineFault.{LineFault}
use Rattle.text.specs.declared.lines.LineFault.TheVariants.{Long, Unended, Unprintable}

-- A line: the bytes before its newline, and whether it has one.
pub record TextLine : Type 0 where
  pub bytes : List ℕ
  pub newline : Bool

abbrev pub last_line : List ℕ → List TextLine
last_line [] = []
last_line (x ∷ xs) = record { bytes = x ∷ xs; newline = false } ∷ []

unfoldable pub as_lines : List (List ℕ) → List TextLine
as_lines [] = []
as_lines (p ∷ []) = last_line p
as_lines (p ∷ (q ∷ ps)) = record { bytes = p; newline = true } ∷ as_lines (q ∷ ps)

abbrev pub lines_of : List ℕ → List TextLine
lines_of text = as_lines (split 10 text)

-- A byte that a line may have.
abbrev pub printable_byte : ℕ → Bool
printable_byte b = leb 32 b && leb b 126

unfoldable pub printable : List ℕ → Bool
printable bs = list_all printable_byte bs

-- How many bytes a line has; or what is wrong with it, where at most so many may stand before the newline, in this order.
abbrev pub answer_of : ℕ → TextLine → Result ℕ LineFault
answer_of most l =
    cond (ltb most (length l.bytes)) (Err Long)
    (cond l.newline (cond (printable l.bytes) (Ok (length l.bytes)) (Err Unprintable)) (Err Unended))

-- The first line of a text; of an empty text, an empty line without a newline.
abbrev pub head_line : List (List ℕ) → TextLine
head_line [] = record { bytes = []; newline = false }
head_line (p ∷ []) = record { bytes = p; newline = false }
head_line (p ∷ (q ∷ ps)) = record { bytes = p; newline = true }

abbrev pub first_line : List ℕ → TextLine
first_line text = head_line (split 10 text)

abbrev pub line_of : ℕ → List ℕ → Result ℕ LineFault
line_of most text = answer_of most (first_line text)

-- The same, where whatever is wrong with a line comes to one refusal.
abbrev pub whole_or : {R : Type 0} → R → Result ℕ LineFault → Result ℕ R
whole_or otherwise (Ok n) = Ok n
whole_or otherwise (Err f) = Err otherwise

-- A line is whole: at most so many bytes before its newline, a newline, and only bytes 32 to 126.
abbrev pub whole : ℕ → TextLine → Bool
whole most l = leb (length l.bytes) most && (l.newline && printable l.bytes)

-- Where the first line ends, whatever its bytes are.
abbrev pub end_of : ℕ → TextLine → Result ℕ LineFault
end_of most l = cond (ltb most (length l.bytes)) (Err Long) (cond l.newline (Ok (length l.bytes)) (Err Unended))

abbrev pub ended : ℕ → List ℕ → Result ℕ LineFault
ended most text = end_of most (first_line text)
