-- What the two phases leave gives the rows of the theory, and the count.
-- Assumes nothing.
use Prim.Native.Nat.{ℕ, zero, suc, ◌+◌, ◌-◌, ◌≤◌, ◌<◌}
use mathlib.Core.Path.{◌≡◌, refl, sym, ap, ap₂, ◌∙◌}
use mathlib.Core.Bool.{Bool, cond}
use mathlib.Core.List.{List, ◌++◌}
use native.Mathlib.Omega.{arith}
use lib.Dec.{T}
use lib.ListN.{get_or}
use Rattle.sets.specs.Sets.{member}
use Rattle.necklace.specs.Dag.{Dag}
use Rattle.necklace.specs.Necklace.{Pattern}
use Rattle.necklace.specs.Compute.{holds?, pivots}
use Rattle.necklace.proofs.RowMeaning.{prefixes_member}
use Rattle.layout.specs.Layout.{most_beads}
use Rattle.rows.specs.Rows.{pivot_at, rows_from, whole_from}
use Rattle.rows.proofs.Meaning.{row_is}
use Rattle.results.specs.Result.{rows_up_to, whole_up_to}
use Rattle.prefix_phase.specs.Marked.{PrefixesMarked}
use Rattle.walk_places.specs.Walked.{WalkedBack}
use Rattle.walk_places.proofs.PivotLaws.{pivot_is}

module _ (G : Dag) (P : Pattern) (some : 1 ≤ P.count) (n : ℕ) (sets : List ℕ) (m : PrefixesMarked G P n sets) where
  -- The last bead's bit is in the set of a vertex exactly if the whole pattern holds there.
  whole_is : (v : ℕ) → v < n → member (P.count - 1) (get_or sets v 0) ≡ holds? G P P.count v
  whole_is v h =
      let e : suc (P.count - 1) ≡ P.count = omega arith in
      ap (member (P.count - 1)) (m.marked v h) ∙ prefixes_member G P v (P.count - 1) (omega arith) ∙ ap (λ (k : ℕ). holds? G P k v) e

  pub counted : (k : ℕ) → k ≤ n → whole_from P.count sets k ≡ whole_up_to G P k
  unfolding whole_from whole_up_to
  counted zero h = refl
  counted (suc k) h = ap₂ (λ (x : ℕ) (b : Bool). x + cond b 1 0) (counted k (omega arith)) (whole_is k (omega arith))

  module _ (few : P.count ≤ most_beads) (places : List ℕ) (w : WalkedBack G P n places) where
    -- What is put down for a vertex at which the whole pattern holds are its pivots.
    pub pivots_are : (k v : ℕ) → k ≤ P.count → v < n → T (holds? G P P.count v) → get_or places (pivot_at k v) 0 ≡ get_or (pivots G P P.count v) k 0
    pivots_are k v h l t =
        let e : k + (P.count - k) ≡ P.count = omega arith in
        w.places k v h l t ∙ sym (ap (λ (j : ℕ). get_or (pivots G P j v) k 0) (sym e) ∙ pivot_is G P k (P.count - k) v)

    pub rows_are : (k : ℕ) → k ≤ n → rows_from P.count sets places k ≡ rows_up_to G P k
    unfolding rows_from rows_up_to
    rows_are zero h = refl
    rows_are (suc k) h =
        ap₂ (λ (x y : List ℕ). x ++ y) (rows_are k (omega arith))
        (row_is G P some few k places (λ j g t. pivots_are j k g (omega arith) t) (get_or sets k 0) (m.marked k (omega arith)))
