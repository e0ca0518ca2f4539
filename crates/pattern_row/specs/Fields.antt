-- The fields of a line below the header: what they say, and when they are malformed.
use Rattle.std.specs.Prelude.{ℕ, ◌+◌, Bool, not, ◌&&◌, ◌||◌, List, [], map, eqb, length, get_or, drop}
use Rattle.numbers.specs.Numbers.{is_number, value_of}
use Rattle.numbers.specs.Listed.{are_numbers}
use Rattle.rules.specs.Rules.{rule_of}
use Rattle.pattern_order.specs.StateLine.{StateLine}

abbrev pub row_of : List (List ℕ) → StateLine
row_of fs = record {
  bead = value_of (get_or fs 0 []);
  rule = rule_of (get_or fs 1 []);
  state = value_of (get_or fs 2 []);
  accepting = value_of (get_or fs 3 []);
  next = map value_of (drop 4 fs);
}

-- 11, below the header: a wrong number of fields, or a field other than the rule that isn't a number.
abbrev pub malformed : ℕ → List (List ℕ) → Bool
malformed c fs =
    not (eqb (length fs) (4 + c))
    || not (is_number (get_or fs 0 []) && (is_number (get_or fs 2 []) && (is_number (get_or fs 3 []) && are_numbers (drop 4 fs))))
