-- What a walk over lines finds, said without it: all lines pass, one after the other; or those before the first bad line pass, and it is refused.
use Rattle.std.specs.Prelude.{ℕ, ◌+◌, ◌≡◌, List, [], ◌∷◌}
use Rattle.text.specs.Walk.{Judged, refused, passed}

-- From what is known before the first of the lines, and its number, to what is known after the last.
pub data AllPass {S L : Type 0} (judge : S → ℕ → L → Judged S) : S → ℕ → List L → S → Type 0 where
  done : {s : S} {n : ℕ} → AllPass judge s n [] s
  next : {s t u : S} {n : ℕ} {l : L} {ls : List L} → judge s n l ≡ passed t → AllPass judge t (n + 1) ls u → AllPass judge s n (l ∷ ls) u

-- The first bad line is refused with this number, and stands in this line.
pub data FirstBad {S L : Type 0} (judge : S → ℕ → L → Judged S) : S → ℕ → List L → ℕ → ℕ → Type 0 where
  here : {s : S} {n k : ℕ} {l : L} {ls : List L} → judge s n l ≡ refused k → FirstBad judge s n (l ∷ ls) k n
  later : {s t : S} {n k m : ℕ} {l : L} {ls : List L} → judge s n l ≡ passed t → FirstBad judge t (n + 1) ls k m → FirstBad judge s n (l ∷ ls) k m
