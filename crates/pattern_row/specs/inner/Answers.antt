-- What the answer for a line below the header has to say, and the next sets beside it.
use Rattle.std.specs.Prelude.{ℕ, ◌+◌, cond, ◌&&◌, List, [], get_or, Option, None, Some, Result, Err}
use Rattle.lists.specs.Tables.{table}
use Rattle.numbers.specs.Numbers.{is_number, value_of}
use Rattle.layout.specs.Layout.{most_labels}
use Rattle.pattern_line.specs.Answers.{Said, refusal}
use Rattle.pattern_line.specs.declared.refusals.Refusal.{Refusal}
use Rattle.pattern_line.specs.declared.refusals.Refusal.TheVariants.{Malformed}
use Rattle.rules.specs.Rules.{rule_of}
use Rattle.pattern_order.specs.StateLine.{StateLine}
use Rattle.pattern_order.specs.inner.Answers.{order_judged, order_said}
use Rattle.pattern_order.specs.declared.LineValues.{LineValues}
use Rattle.pattern_row.specs.Fields.{row_of, malformed}

-- What the first four fields say.
abbrev pub values_of : List (List ℕ) → LineValues
values_of fs = record {
  bead = value_of (get_or fs 0 []);
  rule = rule_of (get_or fs 1 []);
  state = value_of (get_or fs 2 []);
  accepting = value_of (get_or fs 3 []);
}

-- The same, where they are numbers.
abbrev pub values_read : List (List ℕ) → Option LineValues
values_read fs =
    cond (is_number (get_or fs 0 []) && (is_number (get_or fs 2 []) && is_number (get_or fs 3 []))) (Some (values_of fs)) None

-- 11, then what its order says.
unfoldable pub row_judged : ℕ → List StateLine → List (List ℕ) → Result LineValues Refusal
row_judged labels before fs = cond (malformed labels fs) (Err Malformed) (order_judged before (values_of fs))

-- The same in numbers.
unfoldable pub row_said : ℕ → List StateLine → List (List ℕ) → Said
row_said labels before fs = cond (malformed labels fs) (refusal 11) (order_said before (row_of fs))

-- The next set of each label that may be, in their order; 0 where the line has none.
unfoldable pub next_sets : List (List ℕ) → List ℕ
next_sets fs = table (λ a. value_of (get_or fs (4 + a) [])) most_labels
