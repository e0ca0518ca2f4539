-- The lines of the steps, one after the other. Assumes nothing.
use Prim.Native.Nat.{ℕ, ◌+◌, ◌*◌, ◌≤◌, ◌<◌}
use mathlib.Core.Path.{◌≡◌, refl, sym, ap, ◌∙◌}
use mathlib.Core.List.{List, [], ◌++◌}
use native.Mathlib.Numerals.{add-one}
use native.Mathlib.Omega.{arith}
use lib.ListN.{length, take, drop, length-drop}
use lib.Seq.{drop-append_seam, drop-drop, take_at}
use Rattle.layout.specs.Layout.{row_length}
use Rattle.report_lines.specs.Lines.{row_text}
use Rattle.report_lines.proofs.LineLaws.{header_is}
use Rattle.report.specs.Report.{row_lines}
use Rattle.writing.proofs.PutLaws.{kit as put_kit}

module _ (beads : ℕ) (result : List ℕ) where
  pub no_rows : row_lines beads 0 result ≡ []
  unfolding row_lines
  no_rows = refl

  -- A row cut off the rows from a step on.
  pub rest_is : (step : ℕ) (row rest : List ℕ) → row ++ rest ≡ drop (row_length * step) result → length row ≡ row_length → rest ≡ drop (row_length * (step + 1)) result
  rest_is step row rest e n =
      let d : row_length * (step + 1) ≡ row_length * step + row_length = omega arith in
      sym (drop-append_seam row rest) ∙ ap (λ (k : ℕ). drop k (row ++ rest)) n ∙ ap (drop row_length) e ∙ drop-drop row_length (row_length * step) result
      ∙ sym (ap (λ (k : ℕ). drop k result) d)

  pub line_more : (step : ℕ) (row rest : List ℕ) → row ++ rest ≡ drop (row_length * step) result → length row ≡ row_length
      → row_lines beads (step + 1) result ≡ row_lines beads step result ++ row_text beads step row
  unfolding row_lines
  line_more step row rest e n =
      ap (λ (n : ℕ). row_lines beads n result) (add-one step)
      ∙ ap (λ (r : List ℕ). row_lines beads step result ++ row_text beads step r) (ap (take row_length) (sym e) ∙ take_at row rest row_length n)

-- Where fewer than ten numbers are left, no step is.
pub none_left : (step steps : ℕ) (result : List ℕ) → row_length * steps ≤ length result → length (drop (row_length * step) result) < row_length → step ≤ steps → step ≡ steps
none_left step steps result long short most = omega (arith, length-drop (row_length * step) result)

pub ruleset kit = (put_kit, header_is, no_rows, rest_is, line_more)
