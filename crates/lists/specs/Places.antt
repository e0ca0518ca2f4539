-- The number at a place of a buffer, 0 past its end.
use Rattle.std.specs.Prelude.{ℕ, List, get_or}

abbrev pub at : List ℕ → ℕ → ℕ
at b i = get_or b i 0
