-- The result as it is written from the judge's arrays: the rows, zeros in the unused places, and the rest as it was.
use Rattle.std.specs.Prelude.{ℕ, ◌-◌, ◌*◌, ◌≤◌, ◌≡◌, List, ◌++◌, drop, replicate}
use Rattle.log_buffer.specs.Meaning.{steps_in}
use Rattle.pattern_buffer.specs.Meaning.{beads_in}
use Rattle.prefix_phase.specs.Marked.{Tested}
use Rattle.rows.specs.Rows.{rows_from}
use Rattle.layout.specs.Layout.{result_length, row_length, most_beads, most_steps}

abbrev pub result_from : ℕ → List ℕ → List ℕ → ℕ → List ℕ → List ℕ
result_from beads prefixes pivots n result =
    rows_from beads prefixes pivots n ++ (replicate (result_length - row_length * n) 0 ++ drop result_length result)

-- Two buffers that passed their tests, and how many beads and steps they have. Laws alone go by it; no contract names it.
pub record Sized (pattern log labels : List ℕ) (beads n : ℕ) : Type 0 where
  pub tested : Tested pattern log labels
  pub beads_are : beads ≡ beads_in pattern
  pub steps_are : n ≡ steps_in log
  pub some_bead : 1 ≤ beads
  pub few_beads : beads ≤ most_beads
  pub few_steps : n ≤ most_steps
