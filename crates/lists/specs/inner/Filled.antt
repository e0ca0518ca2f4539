-- A list written from the front, number by number.
use Rattle.std.specs.Prelude.{ℕ, ◌<◌, ◌≡◌, List, get_or}

-- The first n numbers are f 0, f 1, .., f (n - 1).
pub record Filled (f : ℕ → ℕ) (n : ℕ) (list : List ℕ) : Type 0 where
  pub number : (i : ℕ) → i < n → get_or list i 0 ≡ f i
