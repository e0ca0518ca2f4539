-- The pivots that are picked, as the walk back over the beads finds them one by one.
-- Assumes nothing.
use Prim.Native.Nat.{ℕ, zero, suc, ◌+◌, ◌≤◌}
use mathlib.Core.Path.{◌≡◌, refl, sym, ap, ◌∙◌, subst}
use mathlib.Core.List.{List, [], ◌∷◌, ◌++◌}
use native.Mathlib.Omega.{arith}
use lib.Dec.{T}
use lib.ListN.{get_or, get_or-append}
use lib.Seq.{get_or_at}
use Rattle.necklace.specs.Dag.{Dag}
use Rattle.necklace.specs.Necklace.{Pattern}
use Rattle.necklace.specs.Compute.{before, pivots, holds?}
use Rattle.necklace.proofs.RowMeaning.{pivots_length}
use Rattle.necklace.proofs.Prefixes.{before_holds, before_le}
use Rattle.walk_places.specs.Walked.{pivot_back}

module _ (G : Dag) (P : Pattern) where
  pub back_none : (k v : ℕ) → pivot_back G P k zero v ≡ v
  unfolding pivot_back
  back_none k v = refl

  pub back_more : (k d v : ℕ) → pivot_back G P k (suc d) v ≡ before G P k (pivot_back G P (suc k) d v)
  unfolding pivot_back
  back_more k d v = refl

  -- The last bead first or the first bead last: the same pivots.
  back_shift : (k d v : ℕ) → pivot_back G P k d (before G P (k + d) v) ≡ before G P k (pivot_back G P (suc k) d v)
  back_shift k zero v =
      let e : k + 0 ≡ k = omega arith in
      back_none k (before G P (k + 0) v) ∙ ap (λ (j : ℕ). before G P j v) e ∙ ap (before G P k) (sym (back_none (suc k) v))
  back_shift k (suc d) v =
      let e : k + suc d ≡ suc k + d = omega arith in
      back_more k d (before G P (k + suc d) v) ∙ ap (λ (j : ℕ). before G P k (pivot_back G P (suc k) d (before G P j v))) e
      ∙ ap (before G P k) (back_shift (suc k) d v ∙ sym (back_more (suc k) d v))

  pivots_next : (k v : ℕ) → pivots G P (suc k) v ≡ pivots G P k (before G P k v) ++ (v ∷ [])
  unfolding pivots
  pivots_next k v = refl

  pivots_first : (v : ℕ) → pivots G P zero v ≡ v ∷ []
  unfolding pivots
  pivots_first v = refl

  last_pivot : (k v : ℕ) → get_or (pivots G P k v) k 0 ≡ v
  last_pivot zero v = ap (λ (l : List ℕ). get_or l 0 0) (pivots_first v)
  last_pivot (suc k) v =
      ap (λ (l : List ℕ). get_or l (suc k) 0) (pivots_next k v)
      ∙ get_or_at (pivots G P k (before G P k v)) v [] 0 (suc k) (pivots_length G P k (before G P k v))

  -- The k-th of the pivots of k + d beads.
  pub pivot_is : (k d v : ℕ) → get_or (pivots G P (k + d) v) k 0 ≡ pivot_back G P k d v
  pivot_is k zero v = let e : k + 0 ≡ k = omega arith in ap (λ (j : ℕ). get_or (pivots G P j v) k 0) e ∙ last_pivot k v ∙ sym (back_none k v)
  pivot_is k (suc d) v =
      let e : k + suc d ≡ suc (k + d) = omega arith in
      let n = pivots_length G P (k + d) (before G P (k + d) v) in
      ap (λ (j : ℕ). get_or (pivots G P j v) k 0) e ∙ ap (λ (l : List ℕ). get_or l k 0) (pivots_next (k + d) v)
      ∙ get_or-append (pivots G P (k + d) (before G P (k + d) v)) (v ∷ []) 0 k (omega arith)
      ∙ pivot_is k d (before G P (k + d) v) ∙ back_shift k d v ∙ sym (back_more k d v)

  -- Where a prefix holds, the earlier one holds at each pivot picked, and going back never goes up.
  pub back_holds : (k d v : ℕ) → T (holds? G P (k + d) v) → T (holds? G P k (pivot_back G P k d v)) × (pivot_back G P k d v ≤ v)
  back_holds k zero v t =
      let e = back_none k v in
      let z : k + 0 ≡ k = omega arith in
      (subst (λ (w : ℕ). T (holds? G P k w)) (sym e) (subst (λ (j : ℕ). T (holds? G P j v)) z t), omega arith)
  back_holds k (suc d) v t =
      let e = back_more k d v in
      let z : k + suc d ≡ suc k + d = omega arith in
      let g = back_holds (suc k) d v (subst (λ (j : ℕ). T (holds? G P j v)) z t) in
      let l = before_le G P k (pivot_back G P (suc k) d v) g.0 in
      let m = g.1 in
      (subst (λ (w : ℕ). T (holds? G P k w)) (sym e) (before_holds G P k (pivot_back G P (suc k) d v) g.0), omega arith)
