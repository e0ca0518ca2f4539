-- The pattern format as document 01's list has it: from a list of bytes to the refusal's number and line, or the rows.
use Rattle.std.specs.Prelude.{ℕ, cond, List, [], ◌∷◌, ◌++◌, eqb, length}
use Rattle.text.specs.Lines.{TextLine}
use Rattle.text.specs.Walk.{Judged, refused, passed, Outcome, accepted, faulty, walk, Format, judge_by, read_text}
use Rattle.layout.specs.Layout.{most_pattern_text, most_line}
use Rattle.pattern_header.specs.Header.{is_header, label_count}
use Rattle.pattern_order.specs.StateLine.{StateLine, disordered, misruled}
use Rattle.pattern_row.specs.Fields.{row_of, malformed}
use Rattle.pattern_store.specs.Next.{strays, ambiguous}

-- What is known after some lines: how many labels the header named, and the rows, in the text's order.
pub record Known : Type 0 where
  pub labels : ℕ
  pub rows : List StateLine

-- 12: the header differs.
abbrev pub judge_header : List (List ℕ) → Judged Known
judge_header fs = cond (is_header fs) (passed (record { labels = label_count fs; rows = [] })) (refused 12)

-- 11, 13, 14, the smallest first.
abbrev pub judge_row : Known → List (List ℕ) → Judged Known
judge_row k fs =
    cond (malformed k.labels fs) (refused 11)
    (cond (disordered k.rows (row_of fs)) (refused 13)
    (cond (misruled k.rows (row_of fs)) (refused 14) (passed (record { labels = k.labels; rows = k.rows ++ (row_of fs ∷ []) }))))

-- 10: text empty or over 16,384 bytes. 11: a line over 240 bytes, without its newline, or with a byte outside 32 to 126.
abbrev pub pattern_format : Format Known
pattern_format = record {
  most = most_pattern_text;
  line_most = most_line;
  size_refusal = 10;
  line_refusal = 11;
  start = record { labels = 0; rows = [] };
  header = judge_header;
  below = λ k n fs. judge_row k fs;
}

abbrev pub judge_line : Known → ℕ → TextLine → Judged Known
judge_line = judge_by pattern_format

-- 15 and 16, looked for after all lines pass 11 to 14: the first row stands in line 2.
abbrev pub judge_next : List StateLine → Known → ℕ → StateLine → Judged Known
judge_next rows k n r = cond (strays rows r) (refused 15) (cond (ambiguous r) (refused 16) (passed k))

-- 13: nothing after the header.
abbrev pub conclude : Outcome Known → Outcome Known
conclude (faulty k n) = faulty k n
conclude (accepted k) = cond (eqb (length k.rows) 0) (faulty 13 1) (walk (judge_next k.rows) k 2 k.rows)

-- What a text says.
abbrev pub pattern_text : List ℕ → Outcome Known
pattern_text text = conclude (read_text pattern_format text)
