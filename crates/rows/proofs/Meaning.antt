-- The rows put together from the judge's arrays are the rows of the theory.
-- Assumes nothing.
use Prim.Native.Nat.{ℕ, zero, suc, ◌+◌, ◌-◌, ◌≤◌, ◌<◌}
use mathlib.Core.Path.{◌≡◌, refl, sym, ap, ◌∙◌}
use mathlib.Core.Bool.{Bool, true, false}
use mathlib.Core.List.{List, ◌++◌}
use native.Mathlib.Decide.{dec_lt}
use native.Mathlib.Omega.{arith}
use borrow.Author.Tests.{le-leb, lt-leb}
use lib.Dec.{T}
use lib.ListN.{length, get_or, drop, replicate, get_or-append}
use lib.Seq.{get_or-drop, get_or-append-add}
use Rattle.lists.proofs.Tables.{table_is, zeros_at}
use Rattle.sets.specs.Sets.{member}
use Rattle.sets.proofs.Truth.{true_yes, false_no}
use Rattle.necklace.specs.Dag.{Dag}
use Rattle.necklace.specs.Necklace.{Pattern}
use Rattle.necklace.specs.Compute.{holds?, pivots, prefixes, row}
use Rattle.necklace.proofs.RowMeaning.{length-row, row_first, row_pivots, row_fails, pivots_length, prefixes_member}
use Rattle.layout.specs.Layout.{most_beads, row_length}
use Rattle.rows.specs.Rows.{pivot_at, pivot_or, row_place, row_from}

module _ (G : Dag) (P : Pattern) (some : 1 ≤ P.count) (few : P.count ≤ most_beads) (v : ℕ) where
  last_bit : member (P.count - 1) (prefixes G P v) ≡ holds? G P P.count v
  last_bit =
      let e : suc (P.count - 1) ≡ P.count = omega arith in
      prefixes_member G P v (P.count - 1) (omega arith) ∙ ap (λ (k : ℕ). holds? G P k v) e

  after_first : (k : ℕ) → get_or (row G P v) (suc k) 0 ≡ get_or (drop 1 (row G P v)) k 0
  after_first k = let e : 1 + k ≡ suc k = omega arith in sym (get_or-drop 1 (row G P v) k 0 ∙ ap (λ (i : ℕ). get_or (row G P v) i 0) e)

  module _ (places : List ℕ) (walked : (k : ℕ) → k ≤ P.count → T (holds? G P P.count v) → get_or places (pivot_at k v) 0 ≡ get_or (pivots G P P.count v) k 0) where
    -- the number after the first, where the pattern holds
    held : (k : ℕ) → T (holds? G P P.count v) → get_or (drop 1 (row G P v)) k 0 ≡ pivot_or P.count true k v places
    held k t = ap (λ (l : List ℕ). get_or l k 0) (row_pivots G P v few t) ∙ go (dec_lt P.count k)
      where
        len : length (pivots G P P.count v) ≡ suc P.count
        len = pivots_length G P P.count v

        go : Dec (P.count < k) → get_or (pivots G P P.count v ++ replicate (most_beads - P.count) 0) k 0 ≡ pivot_or P.count true k v places
        go (yes h) =
            let e : k ≡ length (pivots G P P.count v) + (k - suc P.count) = omega (arith, len) in
            ap (λ (i : ℕ). get_or (pivots G P P.count v ++ replicate (most_beads - P.count) 0) i 0) e
            ∙ get_or-append-add (pivots G P P.count v) (replicate (most_beads - P.count) 0) (k - suc P.count) 0
            ∙ zeros_at (most_beads - P.count) (k - suc P.count) ∙ sym (rw (lt-leb k P.count h) refl)
        go (no h) =
            let g : k ≤ P.count = omega arith in
            get_or-append (pivots G P P.count v) (replicate (most_beads - P.count) 0) 0 k (omega (arith, len))
            ∙ sym (walked k g t) ∙ sym (rw (le-leb k P.count g) refl)

    place : (k : ℕ) (b : Bool) → holds? G P P.count v ≡ b → get_or (drop 1 (row G P v)) k 0 ≡ pivot_or P.count b k v places
    place k true e = held k (true_yes (holds? G P P.count v) e)
    place k false e = ap (λ (l : List ℕ). get_or l k 0) (row_fails G P v (false_no (holds? G P P.count v) e)) ∙ zeros_at 9 k

    pub row_is : (s : ℕ) → s ≡ prefixes G P v → row_from P.count v s places ≡ row G P v
    row_is s e = table_is (row_place P.count v s places) row_length (row G P v) (length-row G P v) (λ i h. at_place i)
      where
        at_place : (i : ℕ) → get_or (row G P v) i 0 ≡ row_place P.count v s places i
        at_place zero = row_first G P v ∙ sym e
        at_place (suc k) =
            after_first k ∙ place k (holds? G P P.count v) refl
            ∙ ap (λ (b : Bool). pivot_or P.count b k v places) (sym (ap (member (P.count - 1)) e ∙ last_bit))
