-- A place that is not 0 is at fault, and nothing further left is; where it is 0, nothing is.
-- Assumes nothing.
use Prim.Native.Nat.{ℕ, suc, ◌<◌}
use mathlib.Core.Path.{◌≡◌, refl}
use mathlib.Core.Bool.{Bool, true, false, cond}
use mathlib.Core.List.{List}
use native.Mathlib.Omega.{arith}
use borrow.Author.Tests.{ltb-true, ltb-false, not-true, not-false}
use lib.Dec.{ltb}
use lib.ListN.{length, get_or}
use Rattle.lists.specs.Leftmost.{leftmost}
use Rattle.lists.proofs.LeftmostLaws.{leftmost_passes, leftmost_first}
use Rattle.text.specs.Lines.{printable_byte}
use Rattle.fields.specs.Fields.{part_start}
use Rattle.line_places.specs.Place.{place_at, place_where, unprintable_at, unprintable_place}
use Rattle.line_places.specs.Fault.{FieldAtFault, ByteAtFault}

module _ (f : ℕ → Bool) (fs : List (List ℕ)) where
  abbrev there : ℕ
  there = leftmost f (length fs)

  pub field_at_fault : (place_where f fs ≡ 0 → ⊥) → FieldAtFault f fs (place_where f fs)
  unfolding place_at
  field_at_fault n = go (ltb there (length fs)) refl n
    where
      go : (t : Bool) → ltb there (length fs) ≡ t → (cond t (suc (part_start fs there)) 0 ≡ 0 → ⊥)
          → FieldAtFault f fs (cond (ltb there (length fs)) (suc (part_start fs there)) 0)
      go true e m =
          let h = ltb-true there (length fs) e in
          record {
            index = there;
            inside = h;
            is = rw e refl;
            cause = leftmost_passes f (length fs) h;
            first = leftmost_first f (length fs);
          }
      go false e m = absurd (m refl)

  pub no_field : place_where f fs ≡ 0 → (i : ℕ) → i < length fs → f i ≡ false
  unfolding place_at
  no_field z i h = go (ltb there (length fs)) refl z
    where
      go : (t : Bool) → ltb there (length fs) ≡ t → cond t (suc (part_start fs there)) 0 ≡ 0 → f i ≡ false
      go true e m = absurd (omega arith)
      go false e m = let k = ltb-false there (length fs) e in leftmost_first f (length fs) i (omega arith)

module _ (bs : List ℕ) where
  abbrev spot : ℕ
  spot = leftmost (unprintable_at bs) (length bs)

  pub byte_at_fault : (unprintable_place bs ≡ 0 → ⊥) → ByteAtFault bs (unprintable_place bs)
  unfolding unprintable_place
  byte_at_fault n = go (ltb spot (length bs)) refl n
    where
      go : (t : Bool) → ltb spot (length bs) ≡ t → (cond t (suc spot) 0 ≡ 0 → ⊥) → ByteAtFault bs (cond (ltb spot (length bs)) (suc spot) 0)
      go true e m =
          let h = ltb-true spot (length bs) e in
          record {
            index = spot;
            inside = h;
            is = rw e refl;
            cause = not-true (printable_byte (get_or bs spot 0)) (leftmost_passes (unprintable_at bs) (length bs) h);
            first = λ j k. not-false (printable_byte (get_or bs j 0)) (leftmost_first (unprintable_at bs) (length bs) j k);
          }
      go false e m = absurd (m refl)
