-- The byte by number and line, test by test; and how far it can be.
-- Assumes nothing.
use mathlib.Core.Path.{◌≡◌, refl, sym, ap, ◌∙◌}
use mathlib.Core.Bool.{Bool, true, false, cond, ◌&&◌}
use mathlib.Core.List.{List}
use Prim.Native.Nat.{ℕ, ◌+◌, ◌-◌, ◌^◌, ◌≤◌, ◌<◌}
use native.Mathlib.Omega.{arith}
use borrow.Author.Tests.{lt-ltb, le-ltb, leb-true, eq-eqb, ne_eqb}
use lib.Dec.{eqb, leb, ltb}
use lib.ListN.{length, take, drop}
use Rattle.text.specs.Split.{split}
use Rattle.text.specs.Lines.{TextLine, printable, whole}
use Rattle.line_places.specs.Place.{as_place, place_at, unprintable_place, broken_at, ranked_at, line_at, found_line}
use Rattle.std.specs.Prelude.{Option, None, unwrap_or, Result, Ok, Err}
use Rattle.line_places.proofs.PlaceLaws.{place_out, place_most}
use Rattle.line_places.proofs.LineLaws.{unprintable_most, ranked_broken, ranked_whole, whole_ordered, whole_inside}
use Rattle.layout.specs.Layout.{most_line}
use Rattle.log_line.specs.Header.{Columns}
use Rattle.log_line.specs.Answers.{order_of}
use Rattle.log_line.specs.declared.header.ColumnOrder.{ColumnOrder}
use Rattle.log_line.specs.Step.{step_at, link_count}
use Rattle.log_places.specs.Place.{header_at, malformed_at, limit_at}
use Rattle.log_byte.specs.Byte.{columns_named, steps_before, place_in, log_byte}

-- ---- a byte is at most 241

cond_most : (t : Bool) (a b m : ℕ) → a ≤ m → b ≤ m → cond t a b ≤ m
cond_most true a b m h k = h
cond_most false a b m h k = k

in_most : (text : List ℕ) (number n : ℕ) (bs : List ℕ) → place_in text number n bs ≤ length bs + 1
unfolding place_in
in_most text number n bs =
    cond_most (eqb number 21) _ _ (length bs + 1) (cond_most (eqb (length (split 32 bs)) 4) _ _ (length bs + 1) (place_most bs _) (omega arith))
    (cond_most (eqb number 22) _ _ (length bs + 1) (place_most bs _)
    (cond_most (eqb number 23) _ _ (length bs + 1) (place_most bs _)
    (cond_most (eqb number 24) _ _ (length bs + 1) (place_most bs _)
    (cond_most (eqb number 25) _ _ (length bs + 1) (place_most bs _)
    (cond_most (eqb number 26) _ _ (length bs + 1) (cond_most (eqb n 1) _ _ (length bs + 1) (omega arith) (place_most bs _)) (omega arith))))))

and_first : (a b : Bool) → (a && b) ≡ true → a ≡ true
and_first true b e = refl
and_first false b e = e

ranked_most : (most : ℕ) (l : TextLine) (p : ℕ) → p ≤ length l.bytes + 1 → ranked_at most l p ≤ most + 1
unfolding ranked_at
ranked_most most l p h = go (whole most l) refl
  where
    broken : (t : Bool) → (leb (length l.bytes) most && l.newline) ≡ t → cond t (unprintable_place l.bytes) 0 ≤ most + 1
    broken true e =
        let k = leb-true (length l.bytes) most (and_first (leb (length l.bytes) most) l.newline e) in
        let u = unprintable_most l.bytes in
        omega arith
    broken false e = omega arith

    go : (t : Bool) → whole most l ≡ t → cond t p (broken_at most l) ≤ most + 1
    go true e =
        let k = leb-true (length l.bytes) most (and_first (leb (length l.bytes) most) (l.newline && printable l.bytes) e) in
        omega arith
    go false e = broken (leb (length l.bytes) most && l.newline) refl

-- Whatever the text, the number and the line.
pub byte_fits : (text : List ℕ) (number n : ℕ) → log_byte text number n ≤ most_line + 1
unfolding log_byte
byte_fits text number n =
    cond_most (ltb number 21) 0 _ (most_line + 1) (omega arith)
    (ranked_most most_line (line_at text n) (place_in text number n (line_at text n).bytes) (in_most text number n (line_at text n).bytes))

-- ---- the answer of `byte_of`

pub byte_early : (text : List ℕ) (number n : ℕ) → number < 21 → 0 ≡ log_byte text number n
unfolding log_byte
byte_early text number n h = sym (simp (lt-ltb number 21 h))

module _ (text : List ℕ) (number n : ℕ) (o : Option ℕ) (given : o ≡ as_place (ranked_at most_line (line_at text n) (place_in text number n (line_at text n).bytes)))
    (v : ℕ) (e : v ≡ unwrap_or o 0) where
  value : v ≡ ranked_at most_line (line_at text n) (place_in text number n (line_at text n).bytes)
  value = e ∙ ap (λ (p : Option ℕ). unwrap_or p 0) given ∙ place_out (ranked_at most_line (line_at text n) (place_in text number n (line_at text n).bytes))

  pub ranked_fits : v < 2 ^ 16
  ranked_fits =
      let f = value in
      let h = ranked_most most_line (line_at text n) (place_in text number n (line_at text n).bytes) (in_most text number n (line_at text n).bytes) in
      omega arith

  pub byte_ranked : 21 ≤ number → v ≡ log_byte text number n
  unfolding log_byte
  byte_ranked late = value ∙ sym (simp (le-ltb number 21 late))

pub ruleset byte_kit = (byte_early, ranked_fits, byte_ranked)

-- ---- a line by its number

module _ (text : List ℕ) (number n : ℕ) (r : Result (ℕ × ℕ) (Option ℕ)) (given : r ≡ found_line most_line text n) where
  pub line_broken : (p : Option ℕ) → r ≡ Err p → p ≡ as_place (ranked_at most_line (line_at text n) (place_in text number n (line_at text n).bytes))
  line_broken p q = ranked_broken most_line text n r given p (place_in text number n (line_at text n).bytes) q

  module _ (x y : ℕ) (q : r ≡ Ok (x, y)) where
    pub line_whole : (v : Option ℕ) → v ≡ as_place (place_in text number n (take (y - x) (drop x text)))
        → v ≡ as_place (ranked_at most_line (line_at text n) (place_in text number n (line_at text n).bytes))
    line_whole v e = ranked_whole most_line text n r given x y q (place_in text number n) v e

pub ruleset line_kit = (line_broken, whole_ordered, whole_inside, line_whole)

-- ---- 26

module _ (text bs : List ℕ) (n : ℕ) where
  pub over_first : n ≡ 1 → None ≡ as_place (cond (eqb n 1) 0 (limit_at (link_count (steps_before text n)) (columns_named text) (step_at n) (split 32 bs)))
  unfolding as_place
  over_first h = sym (rw (eq-eqb n 1 h) refl)

  pub over_below : (n ≡ 1 → ⊥) → (c : Columns) → c ≡ columns_named text → (v : ℕ) → v ≡ step_at n → (k : ℕ) → k ≡ link_count (steps_before text n)
      → (p : Option ℕ) → p ≡ as_place (limit_at k c v (split 32 bs))
      → p ≡ as_place (cond (eqb n 1) 0 (limit_at (link_count (steps_before text n)) (columns_named text) (step_at n) (split 32 bs)))
  over_below h c e v f k g p q = q ∙ rw (e, f, g, ne_eqb n 1 h) refl

pub preds_named : (o : ColumnOrder) (text : List ℕ) → order_of o ≡ columns_named text → o.preds ≡ (columns_named text).preds
preds_named o text e = ap (λ (c : Columns). c.preds) e

pub ruleset over_kit = (over_first, over_below, preds_named)

-- ---- the place by the number

module _ (text bs : List ℕ) (number n : ℕ) (p : Option ℕ) where
  pub in_header : number ≡ 22 → p ≡ as_place (header_at (split 32 bs)) → p ≡ as_place (place_in text number n bs)
  unfolding place_in
  in_header h e = e ∙ sym (rw h refl)

  pub in_limit : number ≡ 26 → p ≡ as_place (cond (eqb n 1) 0 (limit_at (link_count (steps_before text n)) (columns_named text) (step_at n) (split 32 bs)))
      → p ≡ as_place (place_in text number n bs)
  unfolding place_in
  in_limit h e = e ∙ sym (rw h refl)

  module _ (c : Columns) (named : c ≡ columns_named text) where
    pub in_malformed : number ≡ 21 → p ≡ as_place (malformed_at c (split 32 bs)) → p ≡ as_place (place_in text number n bs)
    unfolding place_in
    in_malformed h e = e ∙ ap (λ (d : Columns). as_place (malformed_at d (split 32 bs))) named ∙ sym (rw h refl)

    pub in_vertex : number ≡ 23 → p ≡ as_place (place_at (split 32 bs) c.vertex) → p ≡ as_place (place_in text number n bs)
    unfolding place_in
    in_vertex h e = e ∙ ap (λ (d : Columns). as_place (place_at (split 32 bs) d.vertex)) named ∙ sym (rw h refl)

    pub in_preds : number ≡ 24 → p ≡ as_place (place_at (split 32 bs) c.preds) → p ≡ as_place (place_in text number n bs)
    unfolding place_in
    in_preds h e = e ∙ ap (λ (d : Columns). as_place (place_at (split 32 bs) d.preds)) named ∙ sym (rw h refl)

    pub in_labels : number ≡ 25 → p ≡ as_place (place_at (split 32 bs) c.labels) → p ≡ as_place (place_in text number n bs)
    unfolding place_in
    in_labels h e = e ∙ ap (λ (d : Columns). as_place (place_at (split 32 bs) d.labels)) named ∙ sym (rw h refl)

pub in_none : (text bs : List ℕ) (number n : ℕ) → (number ≡ 21 → ⊥) → (number ≡ 22 → ⊥) → (number ≡ 23 → ⊥) → (number ≡ 24 → ⊥) → (number ≡ 25 → ⊥) → (number ≡ 26 → ⊥)
    → None ≡ as_place (place_in text number n bs)
unfolding place_in as_place
in_none text bs number n a b c d e f = sym (rw (ne_eqb number 21 a, ne_eqb number 22 b, ne_eqb number 23 c, ne_eqb number 24 d, ne_eqb number 25 e, ne_eqb number 26 f) refl)

pub ruleset in_kit = (in_header, in_limit, in_malformed, in_vertex, in_preds, in_labels, in_none)
