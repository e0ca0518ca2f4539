-- The byte of a refused log text (Ask 2): where in the line at fault, by the refusal's number and line. Which refusal it is, and in which line,
-- `log_text` says.
use Rattle.std.specs.Prelude.{ℕ, cond, List, map, eqb, ltb, take, drop}
use Rattle.text.specs.Split.{split}
use Rattle.line_places.specs.Place.{place_at, lines_bytes, line_at, ranked_at}
use Rattle.layout.specs.Layout.{most_line}
use Rattle.log_line.specs.Header.{Columns, columns_of}
use Rattle.log_line.specs.Step.{Step, step_of, step_at, link_count}
use Rattle.log_places.specs.Place.{header_at, malformed_at, limit_at}

-- The columns that the header names.
unfoldable pub columns_named : List ℕ → Columns
columns_named text = columns_of (split 32 (line_at text 1).bytes)

-- What the lines below the header and before the n-th say: that is, the steps before `step_at n`.
unfoldable pub steps_before : List ℕ → ℕ → List Step
steps_before text n = map (λ bs. step_of (columns_named text) (split 32 bs)) (take (step_at n) (drop 1 (lines_bytes text)))

-- The place at fault in the n-th line, whose bytes these are, if it is whole. 26 in line 1 is: no step at all.
unfoldable pub place_in : List ℕ → ℕ → ℕ → List ℕ → ℕ
place_in text number n bytes =
    let fs = split 32 bytes in
    let c = columns_named text in
    cond (eqb number 21) (malformed_at c fs)
    (cond (eqb number 22) (header_at fs)
    (cond (eqb number 23) (place_at fs c.vertex)
    (cond (eqb number 24) (place_at fs c.preds)
    (cond (eqb number 25) (place_at fs c.labels)
    (cond (eqb number 26) (cond (eqb n 1) 0 (limit_at (link_count (steps_before text n)) c (step_at n) fs)) 0)))))

-- 20 has no line and no byte. Of the others a line that is not whole ranks first.
unfoldable pub log_byte : List ℕ → ℕ → ℕ → ℕ
log_byte text number n = cond (ltb number 21) 0 (ranked_at most_line (line_at text n) (place_in text number n (line_at text n).bytes))
