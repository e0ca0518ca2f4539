-- A line below the header: what it says, and one predicate for each refusal of a line, over its fields and what went before it.
use Rattle.std.specs.Prelude.{ℕ, ◌+◌, ◌-◌, Bool, true, not, cond, ◌&&◌, ◌||◌, List, [], ◌∷◌, eqb, ltb, length, get_or, Option, is_some, unwrap_or}
use Rattle.sets.specs.Sets.{within}
use Rattle.numbers.specs.Numbers.{decimal, is_number, value_of}
use Rattle.numbers.specs.Listed.{is_list, list_of}
use Rattle.layout.specs.Layout.{most_board, most_steps, most_links, most_preds, most_label_set}
use Rattle.log_line.specs.Header.{Columns}

-- A field as a label set: a number up to the largest set.
abbrev pub label_set_in : List ℕ → Option ℕ
label_set_in f = decimal most_label_set f

abbrev pub is_label_set : List ℕ → Bool
is_label_set f = is_some (label_set_in f)

abbrev pub label_set_of : List ℕ → ℕ
label_set_of f = unwrap_or (label_set_in f) 0

-- What a line says of a step: its board, its label set, and the steps that it names as leading to it.
pub record Step : Type 0 where
  pub board : ℕ
  pub labels : ℕ
  pub preds : List ℕ

abbrev pub step_of : Columns → List (List ℕ) → Step
step_of c fs = record {
  board = value_of (get_or fs c.board []);
  labels = label_set_of (get_or fs c.labels []);
  preds = list_of (get_or fs c.preds []);
}

-- The step that a line's number calls for, and the one that it names.
abbrev pub step_at : ℕ → ℕ
step_at line = line - 2

abbrev pub vertex_of : Columns → List (List ℕ) → ℕ
vertex_of c fs = value_of (get_or fs c.vertex [])

-- The fields of vertex and board are numbers, that of labels is a label set.
abbrev pub are_numbers_at : Columns → List (List ℕ) → Bool
are_numbers_at c fs = is_number (get_or fs c.vertex []) && (is_number (get_or fs c.board []) && is_label_set (get_or fs c.labels []))

-- 21, below the header: a wrong number of fields, one of the other three not a number, a board over 255, or `preds` neither `-` nor
-- numbers joined by single commas.
abbrev pub malformed : Columns → List (List ℕ) → Bool
malformed c fs =
    not (eqb (length fs) 4)
    || (not (are_numbers_at c fs) || (ltb most_board (value_of (get_or fs c.board [])) || not (is_list (get_or fs c.preds []))))

-- 23: the step number is not the line's number less two.
abbrev pub misnumbered : Columns → ℕ → List (List ℕ) → Bool
misnumbered c line fs = not (eqb (vertex_of c fs) (step_at line))

-- Each number is larger than the one before it, and all are below v.
unfoldable pub rising_below : ℕ → List ℕ → Bool
rising_below v [] = true
rising_below v (u ∷ []) = ltb u v
rising_below v (u ∷ (w ∷ us)) = ltb u w && rising_below v (w ∷ us)

-- 24: links of step 0, none elsewhere, not rising, or not smaller than the step.
abbrev pub mislinked : ℕ → List ℕ → Bool
mislinked v us = cond (eqb v 0) (not (eqb (length us) 0)) (eqb (length us) 0 || not (rising_below v us))

-- 25: labels on step 0, or a label past the label count.
abbrev pub mislabelled : ℕ → ℕ → ℕ → Bool
mislabelled count v s = cond (eqb v 0) (not (eqb s 0)) (not (within count s))

-- How many links the steps have.
unfoldable pub link_count : List Step → ℕ
link_count [] = 0
link_count (x ∷ xs) = length x.preds + link_count xs

-- 26: a ninth link in a line, a step over 1,023, or the 4,097th link.
abbrev pub over_limit : List Step → ℕ → List ℕ → Bool
over_limit before v us = ltb most_preds (length us) || (not (ltb v most_steps) || ltb most_links (link_count before + length us))
