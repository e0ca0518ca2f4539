-- The log buffer (document 01, "Lent rooms": the log room).
use Rattle.std.specs.Prelude.{ℕ, ◌+◌, ◌-◌, List, [], ◌∷◌, ◌++◌, map, length, replicate}
use Rattle.layout.specs.Layout.{most_steps, most_links}
use Rattle.log_line.specs.Step.{Step}

-- The numbers, and zeros up to n of them.
abbrev pub padded : ℕ → List ℕ → List ℕ
padded n l = l ++ replicate (n - length l) 0

-- Where among the links those of each step begin, from n on; and after the last step the link count.
unfoldable pub begins : ℕ → List Step → List ℕ
begins n [] = n ∷ []
begins n (x ∷ xs) = n ∷ begins (n + length x.preds) xs

unfoldable pub links : List Step → List ℕ
links [] = []
links (x ∷ xs) = x.preds ++ links xs

-- The 7,170 numbers: step count; 1,024 label sets from place 1; 1,024 boards from 1,025; from 2,049 where the links of each step begin,
-- 1,025 places; 4,096 links from 3,074.
abbrev pub buffer_of : List Step → List ℕ
buffer_of xs =
    (length xs ∷ [])
    ++ (padded most_steps (map (λ x. x.labels) xs)
    ++ (padded most_steps (map (λ x. x.board) xs) ++ (padded (most_steps + 1) (begins 0 xs) ++ padded most_links (links xs))))
