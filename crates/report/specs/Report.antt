-- What the program `judge` prints (document 01, "One listing whole"): its lines one after the other.
use Rattle.std.specs.Prelude.{ℕ, zero, suc, cond, List, [], ◌++◌, eqb}
use Rattle.answer.specs.declared.Answer.{Answer}
use Rattle.report_lines.specs.Lines.{header_text, row_text, refusal_text}
use Rattle.results.specs.Result.{row_in}

-- The lines of the steps below n, from their rows in the result buffer.
unfoldable pub row_lines : ℕ → ℕ → List ℕ → List ℕ
row_lines beads zero result = []
row_lines beads (suc v) result = row_lines beads v result ++ row_text beads v (row_in result v)

-- All that is printed: the header and a line a step, or only the line of a refusal.
abbrev pub output_text : Answer → ℕ → ℕ → List ℕ → List ℕ
output_text a beads steps result = cond (eqb a.number 0) (header_text ++ row_lines beads steps result) (refusal_text a)
