-- The leftmost number that passes a test.
use Rattle.std.specs.Prelude.{ℕ, zero, suc, Bool, cond}

-- The first of i, i + 1, .., i + d - 1 that passes; where none does, i + d.
unfoldable pub leftmost_from : (ℕ → Bool) → ℕ → ℕ → ℕ
leftmost_from f zero i = i
leftmost_from f (suc d) i = cond (f i) i (leftmost_from f d (suc i))

-- The first number below n that passes; where none does, n.
abbrev pub leftmost : (ℕ → Bool) → ℕ → ℕ
leftmost f n = leftmost_from f n 0
