-- The rows before a line, as far as 13 and 14 look at them.
use Rattle.std.specs.Prelude.{◌≡◌, List, [], ◌∷◌, ◌++◌}
use Rattle.pattern_order.specs.StateLine.{StateLine}

-- Of the rows before, the second list holds the last one, if there is one.
pub data Last : List StateLine → List StateLine → Type 0 where
  none : Last [] []
  last : {before : List StateLine} (ps : List StateLine) (p : StateLine) → before ≡ ps ++ (p ∷ []) → Last before (p ∷ [])
