-- Writing a row, and rows one after the other.
-- Assumes nothing.
use Prim.Native.Nat.{ℕ, zero, suc, ◌+◌, ◌-◌, ◌*◌, ◌≤◌, ◌<◌}
use mathlib.Core.Path.{◌≡◌, refl, sym, ap, ap₂, ◌∙◌}
use mathlib.Core.Bool.{Bool, true, false, cond}
use mathlib.Core.List.{List, [], ◌∷◌, ◌++◌, append_assoc}
use native.Mathlib.Numerals.{add-one}
use native.Mathlib.Omega.{arith}
use borrow.Rule.Slice.PartMut.{put_mid}
use lib.ListN.{length, get_or, take, drop, set, length-append, length-drop}
use lib.Seq.{take_at, drop_at, drop-drop}
use Rattle.std.specs.List.{count_by}
use Rattle.std.proofs.lemmas.List.Sums.{count_by_more_yes, count_by_more_no}
use Rattle.lists.specs.Tables.{table}
use Rattle.lists.proofs.Tables.{length-table, part, part_more, part_all}
use Rattle.sets.specs.Sets.{member}
use Rattle.layout.specs.Layout.{row_length}
use Rattle.rows.specs.Rows.{pivot_or, row_place, row_from, rows_from, whole_from}

-- ---- one row

module _ (beads v prefixes : ℕ) (pivots : List ℕ) where
  abbrev places : ℕ → ℕ
  places i = row_place beads v prefixes pivots i

  -- The first j numbers of the row are written.
  pub row_part : ℕ → List ℕ → List ℕ
  row_part j l = part places j l

  pub row_start : (l : List ℕ) → length l ≡ row_length → set l 0 prefixes ≡ row_part 1 l
  unfolding row_part table
  row_start [] h = absurd (omega arith)
  row_start (x ∷ xs) h = refl

  pub row_more : (row l : List ℕ) (k x : ℕ) (whole : Bool) → length l ≡ row_length → k < 9 → whole ≡ member (beads - 1) prefixes → x ≡ pivot_or beads whole k v pivots
      → row ≡ row_part (k + 1) l → set row (k + 1) x ≡ row_part (k + 1 + 1) l
  unfolding row_part
  row_more row l k x whole n h ew ex inv =
      let e : x ≡ places (k + 1) = ex ∙ ap (λ (b : Bool). pivot_or beads b k v pivots) ew ∙ sym (ap places (add-one k)) in
      ap₂ (λ (r : List ℕ) (y : ℕ). set r (k + 1) y) inv e ∙ part_more places (k + 1) l (omega arith)

  pub row_end : (row l : List ℕ) (k : ℕ) → length l ≡ row_length → k ≤ 9 → 9 ≤ k → row ≡ row_part (k + 1) l → row ≡ row_from beads v prefixes pivots
  unfolding row_part
  row_end row l k n h g inv = let e : k + 1 ≡ row_length = omega arith in inv ∙ rw e (part_all places row_length l (omega arith))

pub ruleset row_kit = (row_start, row_more, row_end)

-- ---- rows

module _ (beads : ℕ) (prefixes pivots : List ℕ) where
  rows_next : (v : ℕ) → rows_from beads prefixes pivots (v + 1) ≡ rows_from beads prefixes pivots v ++ row_from beads v (get_or prefixes v 0) pivots
  unfolding rows_from
  rows_next v = rw add-one

  pub length_rows : (v : ℕ) → length (rows_from beads prefixes pivots v) ≡ row_length * v
  unfolding rows_from
  length_rows zero = refl
  length_rows (suc v) =
      length-append (rows_from beads prefixes pivots v) (row_from beads v (get_or prefixes v 0) pivots)
      ∙ omega (arith, length_rows v, length-table (row_place beads v (get_or prefixes v 0) pivots) row_length)

  pub rows_none : (l : List ℕ) → l ≡ rows_from beads prefixes pivots 0 ++ drop (row_length * 0) l
  unfolding rows_from
  rows_none l = refl

  -- The ten numbers lent for the row of v come back, written.
  pub row_put : (v : ℕ) (l room last : List ℕ) → room ≡ rows_from beads prefixes pivots v ++ drop (row_length * v) l → last ≡ row_from beads v (get_or prefixes v 0) pivots
      → put_mid (row_length * v) (row_length * v + row_length - row_length * v) room last ≡ rows_from beads prefixes pivots (v + 1) ++ drop (row_length * (v + 1)) l
  row_put v l room last e p =
      ap₂ (λ (x y : List ℕ). x ++ y) head (ap₂ (λ (x y : List ℕ). x ++ y) p tail)
      ∙ sym (append_assoc (rows_from beads prefixes pivots v) (row_from beads v (get_or prefixes v 0) pivots) (drop (row_length * (v + 1)) l))
      ∙ ap (λ (x : List ℕ). x ++ drop (row_length * (v + 1)) l) (sym (rows_next v))
    where
      head : take (row_length * v) room ≡ rows_from beads prefixes pivots v
      head = ap (take (row_length * v)) e ∙ take_at (rows_from beads prefixes pivots v) (drop (row_length * v) l) (row_length * v) (length_rows v)

      tail : drop (row_length * v + row_length - row_length * v) (drop (row_length * v) room) ≡ drop (row_length * (v + 1)) l
      tail =
          let n : row_length * v + (row_length * v + row_length - row_length * v) ≡ row_length * (v + 1) = omega arith in
          ap (λ (x : List ℕ). drop (row_length * v + row_length - row_length * v) (drop (row_length * v) x)) e
          ∙ ap (drop (row_length * v + row_length - row_length * v)) (drop_at (rows_from beads prefixes pivots v) (drop (row_length * v) l) (row_length * v) (length_rows v))
          ∙ drop-drop (row_length * v + row_length - row_length * v) (row_length * v) l ∙ ap (λ (k : ℕ). drop k l) n

  pub row_inside : (n v : ℕ) (l room : List ℕ) → v < n → row_length * n ≤ length l → room ≡ rows_from beads prefixes pivots v ++ drop (row_length * v) l → row_length * v + row_length ≤ length room
  row_inside n v l room h k e =
      let z = ap length e ∙ length-append (rows_from beads prefixes pivots v) (drop (row_length * v) l) in
      let r = length_rows v in
      let d = length-drop (row_length * v) l in
      omega arith

  pub rows_end : (n v : ℕ) (l room : List ℕ) → v ≤ n → n ≤ v → room ≡ rows_from beads prefixes pivots v ++ drop (row_length * v) l
      → room ≡ rows_from beads prefixes pivots n ++ drop (row_length * n) l
  rows_end n v l room a b e = let p : v ≡ n = omega arith in rw p at e

pub ruleset rows_kit = (rows_none, row_put, row_inside, rows_end)

-- ---- the count

abbrev whole : ℕ → ℕ → Bool
whole beads set = member (beads - 1) set

pub counted : (beads : ℕ) (prefixes : List ℕ) (n : ℕ) → n ≤ length prefixes → count_by (whole beads) (take n prefixes) ≡ whole_from beads prefixes n
unfolding whole_from
counted beads prefixes zero h = refl
counted beads prefixes (suc n) h = go (whole beads (get_or prefixes n 0)) refl (counted beads prefixes n (omega arith))
  where
    go : (b : Bool) → whole beads (get_or prefixes n 0) ≡ b → count_by (whole beads) (take n prefixes) ≡ whole_from beads prefixes n
        → count_by (whole beads) (take (suc n) prefixes) ≡ whole_from beads prefixes n + cond b 1 0
    go true e i = rw (add-one n) at (count_by_more_yes (whole beads) prefixes n 0 h e) ∙ ap (λ (k : ℕ). k + 1) i
    go false e i = rw (add-one n) at (count_by_more_no (whole beads) prefixes n 0 h e) ∙ i ∙ omega arith
