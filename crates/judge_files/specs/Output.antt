-- What stands at the front of a buffer. Assumes nothing.
use Rattle.std.specs.Prelude.{ℕ, ◌≡◌, List, ◌++◌, length, drop}
use Rattle.std.specs.Counts.{IsPrefixLen}

-- The text stands at the front of the buffer new, and behind its n bytes the buffer is as it was, old.
pub record AtFront (text old : List ℕ) (n : ℕ) (new : List ℕ) : Type 0 where
  pub laid : new ≡ text ++ drop n old
  pub size : n ≡ length text
  pub fits : IsPrefixLen n new
