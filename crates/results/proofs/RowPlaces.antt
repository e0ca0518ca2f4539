-- Where the rows stand in the result, one after the other.
-- Assumes nothing.
use Prim.Native.Nat.{ℕ, zero, suc, ◌+◌, ◌*◌, ◌<◌}
use mathlib.Core.Path.{◌≡◌, refl, sym, ap, ap₂, ◌∙◌}
use mathlib.Core.List.{List, [], ◌++◌, append_assoc}
use mathlib.Core.Logic.{◌⊎◌, inl, inr}
use native.Mathlib.Nat.{eq-or-lt_of_le}
use native.Mathlib.Omega.{arith}
use lib.ListN.{length, take, length-append}
use lib.Seq.{drop_at, take_at}
use Rattle.necklace.specs.Dag.{Dag}
use Rattle.necklace.specs.Necklace.{Pattern}
use Rattle.necklace.specs.Compute.{row}
use Rattle.necklace.proofs.RowMeaning.{length-row}
use Rattle.layout.specs.Layout.{row_length}
use Rattle.results.specs.Result.{rows_up_to, row_in}

rows_next : (G : Dag) (P : Pattern) (v : ℕ) → rows_up_to G P (suc v) ≡ rows_up_to G P v ++ row G P v
unfolding rows_up_to
rows_next G P v = refl

rows_none : (G : Dag) (P : Pattern) → rows_up_to G P zero ≡ []
unfolding rows_up_to
rows_none G P = refl

pub rows_length : (G : Dag) (P : Pattern) (n : ℕ) → length (rows_up_to G P n) ≡ row_length * n
rows_length G P zero = ap length (rows_none G P)
rows_length G P (suc n) =
    ap length (rows_next G P n) ∙ length-append (rows_up_to G P n) (row G P n) ∙ ap₂ (λ (a b : ℕ). a + b) (rows_length G P n) (length-row G P n) ∙ omega arith

-- The row of a vertex below n stands at ten times its number, whatever follows.
pub row_there : (G : Dag) (P : Pattern) (n v : ℕ) (rest : List ℕ) → v < n → row_in (rows_up_to G P n ++ rest) v ≡ row G P v
row_there G P zero v rest h = absurd (omega arith)
row_there G P (suc n) v rest h = go (eq-or-lt_of_le h) (λ l. row_there G P n v (row G P n ++ rest) l)
  where
    shape : rows_up_to G P (suc n) ++ rest ≡ rows_up_to G P n ++ (row G P n ++ rest)
    shape = ap (λ (l : List ℕ). l ++ rest) (rows_next G P n) ∙ append_assoc (rows_up_to G P n) (row G P n) rest

    go : (suc v ≡ suc n) ⊎ (suc v < suc n) → (v < n → row_in (rows_up_to G P n ++ (row G P n ++ rest)) v ≡ row G P v)
        → row_in (rows_up_to G P (suc n) ++ rest) v ≡ row G P v
    go (inl e) before =
        let z : v ≡ n = omega arith in
        ap (λ (l : List ℕ). row_in l v) shape ∙ ap (λ (k : ℕ). row_in (rows_up_to G P n ++ (row G P n ++ rest)) k) z
        ∙ ap (take row_length) (drop_at (rows_up_to G P n) (row G P n ++ rest) (row_length * n) (rows_length G P n))
        ∙ take_at (row G P n) rest row_length (length-row G P n) ∙ ap (row G P) (sym z)
    go (inr l) before = ap (λ (k : List ℕ). row_in k v) shape ∙ before (omega arith)
