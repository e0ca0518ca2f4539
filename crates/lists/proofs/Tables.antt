-- Lists that a loop writes from the front, stretches of zeros, and copies.
-- Assumes nothing.
use mathlib.Core.Path.{◌≡◌, refl, sym, ap, ◌∙◌}
use mathlib.Core.Bool.{Bool, true, false}
use mathlib.Core.List.{List, [], ◌∷◌, ◌++◌, append-nil}
use Prim.Native.Nat.{ℕ, zero, suc, ◌+◌, ◌≤◌, ◌<◌}
use native.Mathlib.Omega.{arith}
use native.Mathlib.Numerals.{add-one}
use borrow.Author.Tests.{eqb-true, eqb-false}
use lib.Dec.{eqb}
use lib.ListN.{length, get_or, drop, set, replicate, length-append, drop_of_length-le, get_or-append}
use lib.Seq.{drop-cons, set_at, append_snoc, get_or_at, ext_get_or}
use Rattle.lists.specs.Tables.{table}

-- ---- a table

pub length-table : (f : ℕ → ℕ) (n : ℕ) → length (table f n) ≡ n
unfolding table
length-table f zero = refl
length-table f (suc n) = length-append (table f n) (f n ∷ []) ∙ omega (arith, length-table f n)

pub get_or-table : (f : ℕ → ℕ) (n i : ℕ) → i < n → get_or (table f n) i 0 ≡ f i
unfolding table
get_or-table f zero i h = absurd (omega arith)
get_or-table f (suc n) i h = go (eqb i n) refl (λ l. get_or-table f n i l)
  where
    go : (t : Bool) → eqb i n ≡ t → (i < n → get_or (table f n) i 0 ≡ f i) → get_or (table f n ++ (f n ∷ [])) i 0 ≡ f i
    go true e rest = let z = eqb-true i n e in rw z (get_or_at (table f n) (f n) [] 0 n (length-table f n))
    go false e rest =
        let z = eqb-false i n e in
        let l : i < n = omega arith in
        get_or-append (table f n) (f n ∷ []) 0 i (let q = length-table f n in omega arith) ∙ rest l

-- A list is the table of a function if it has the function's values.
pub table_is : (f : ℕ → ℕ) (n : ℕ) (l : List ℕ) → length l ≡ n → ((i : ℕ) → i < n → get_or l i 0 ≡ f i) → table f n ≡ l
table_is f n l e h =
    ext_get_or 0 (table f n) l (length-table f n ∙ sym e) (λ i k. let z = length-table f n in get_or-table f n i (omega arith) ∙ sym (h i (omega arith)))

-- ---- the first n are written, the rest is as it was

abbrev pub part : (ℕ → ℕ) → ℕ → List ℕ → List ℕ
part f n l = table f n ++ drop n l

pub part_none : (f : ℕ → ℕ) (l : List ℕ) → l ≡ part f 0 l
unfolding table
part_none f l = refl

pub part_more : (f : ℕ → ℕ) (j : ℕ) (l : List ℕ) → j < length l → set (part f j l) j (f j) ≡ part f (j + 1) l
unfolding table
part_more f j l h =
    ap (λ (x : List ℕ). set (table f j ++ x) j (f j)) (drop-cons l j 0 h)
    ∙ set_at (table f j) (get_or l j 0) (drop (suc j) l) (f j) j (length-table f j)
    ∙ sym (append_snoc (table f j) (f j) (drop (suc j) l))
    ∙ rw add-one refl

pub part_all : (f : ℕ → ℕ) (n : ℕ) (l : List ℕ) → length l ≤ n → part f n l ≡ table f n
part_all f n l h = ap (λ (x : List ℕ). table f n ++ x) (drop_of_length-le l h) ∙ append-nil (table f n)

-- ---- zeros

-- A stretch of zeros has no other number, inside it or past its end.
pub zeros_at : (n i : ℕ) → ◌≡◌ {A = ℕ} (get_or (replicate n 0) i 0) 0
zeros_at zero i = refl
zeros_at (suc n) zero = refl
zeros_at (suc n) (suc i) = zeros_at n i
