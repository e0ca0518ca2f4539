-- A text that gives a log buffer: the header in the order vertex, board, labels, preds, then a line for each step.
use Rattle.std.specs.Prelude.{ℕ, zero, suc, List, [], ◌∷◌, ◌++◌}
use Rattle.lists.specs.Places.{at}
use Rattle.text.specs.Split.{line_from}
use Rattle.numbers.specs.Numbers.{spell}
use Rattle.numbers.specs.Listed.{list_word}
use Rattle.layout.specs.Layout.{labels_at, board_at}
use Rattle.log_line.specs.Header.{vertex_name, board_name, labels_name, preds_name}
use Rattle.log_line.specs.Step.{Step}
use Rattle.log_buffer.specs.Meaning.{steps_in, links_into}

abbrev pub step_in : List ℕ → ℕ → Step
step_in b v = record { board = at b (board_at v); labels = at b (labels_at v); preds = links_into b v }

unfoldable pub steps_up_to : List ℕ → ℕ → List Step
steps_up_to b zero = []
steps_up_to b (suc v) = steps_up_to b v ++ (step_in b v ∷ [])

-- The steps of a buffer, in order.
abbrev pub steps_of : List ℕ → List Step
steps_of b = steps_up_to b (steps_in b)

abbrev pub fields_of : ℕ → Step → List (List ℕ)
fields_of v x = spell v ∷ (spell x.board ∷ (spell x.labels ∷ (list_word x.preds ∷ [])))

-- The lines of the steps from number v on.
unfoldable pub step_lines : ℕ → List Step → List ℕ
step_lines v [] = []
step_lines v (x ∷ xs) = line_from (fields_of v x) ++ step_lines (suc v) xs

abbrev pub header_line : List ℕ
header_line = line_from (vertex_name ∷ (board_name ∷ (labels_name ∷ (preds_name ∷ []))))

abbrev pub text_of : List ℕ → List ℕ
text_of b = header_line ++ step_lines 0 (steps_of b)
