-- The walk over the lines of a text: the size rule, lines numbered from 1, the first bad line. One definition for every format, which is a
-- record of its numbers and of the functions that judge a line's fields.
use Rattle.std.specs.Prelude.{ℕ, ◌+◌, Bool, cond, ◌||◌, List, [], ◌∷◌, eqb, ltb, length, Result, Ok, Err}
use Rattle.text.specs.Split.{split}
use Rattle.text.specs.Lines.{TextLine, lines_of, whole}

-- What a line is judged to be: the number of its refusal, or what is known after it.
pub data Judged (S : Type 0) : Type 0 where
  refused : ℕ → Judged S
  passed : S → Judged S

-- What an answer says of a line: the refusal's number, or what is known after the line.
abbrev pub answer_says : {T S R : Type 0} → (R → ℕ) → (T → S) → Result T R → Judged S
answer_says number known (Ok said) = passed (known said)
answer_says number known (Err refusal) = refused (number refusal)

-- What a text is judged to be: what is known after its last line, or the number of a refusal and its line.
pub data Outcome (S : Type 0) : Type 0 where
  accepted : S → Outcome S
  faulty : ℕ → ℕ → Outcome S

abbrev pub proceed : {S : Type 0} → ℕ → Judged S → (S → Outcome S) → Outcome S
proceed n (refused k) go = faulty k n
proceed n (passed s) go = go s

-- The lines from the n-th on, where s is known before them.
unfoldable pub walk : {S L : Type 0} → (S → ℕ → L → Judged S) → S → ℕ → List L → Outcome S
walk judge s n [] = accepted s
walk judge s n (l ∷ ls) = proceed n (judge s n l) (λ t. walk judge t (n + 1) ls)

-- A format: how many bytes a text may have, and how many a line before its newline; the refusal of a text that is empty or longer, and of a
-- line that is not whole; what is known before the first line; how the fields of the first line are judged, and how those of a line below it,
-- given what is known before it and its number.
pub record Format (S : Type 0) : Type 0 where
  pub most : ℕ
  pub line_most : ℕ
  pub size_refusal : ℕ
  pub line_refusal : ℕ
  pub start : S
  pub header : List (List ℕ) → Judged S
  pub below : S → ℕ → List (List ℕ) → Judged S

-- The fields of the n-th line, where s is known before it.
abbrev pub judge_fields : {S : Type 0} → Format S → S → ℕ → List (List ℕ) → Judged S
judge_fields F s n fs = cond (eqb n 1) (F.header fs) (F.below s n fs)

-- That line: it has to be whole, and its fields are parted by spaces.
abbrev pub judge_by : {S : Type 0} → Format S → S → ℕ → TextLine → Judged S
judge_by F s n l = cond (whole F.line_most l) (judge_fields F s n (split 32 l.bytes)) (refused F.line_refusal)

abbrev pub bad_size : ℕ → List ℕ → Bool
bad_size most text = eqb (length text) 0 || ltb most (length text)

-- The size comes before all, with no line; then the first bad line.
abbrev pub read_text : {S : Type 0} → Format S → List ℕ → Outcome S
read_text F text = cond (bad_size F.most text) (faulty F.size_refusal 0) (walk (judge_by F) F.start 1 (lines_of text))
