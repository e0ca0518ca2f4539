-- The place at fault, as the code finds it by the refusal's number; and how large it can be.
-- Assumes nothing.
use mathlib.Core.Path.{◌≡◌, refl, sym, ap, ◌∙◌}
use mathlib.Core.Bool.{Bool, true, false, cond, ◌&&◌}
use mathlib.Core.List.{List}
use Prim.Native.Nat.{ℕ, ◌+◌, ◌-◌, ◌^◌, ◌≤◌, ◌<◌}
use native.Mathlib.Omega.{arith}
use borrow.Author.Tests.{lt-ltb, le-ltb, leb-true, ne_eqb}
use lib.Dec.{eqb, leb, ltb}
use lib.ListN.{length, take, drop}
use Rattle.std.specs.Prelude.{Option, None, unwrap_or, Result, Ok, Err}
use Rattle.layout.specs.Layout.{most_line}
use Rattle.text.specs.Split.{split}
use Rattle.text.specs.Lines.{TextLine, printable}
use Rattle.line_places.specs.Place.{as_place, place_at, line_at, ranked_at, unprintable_place, found_line}
use Rattle.line_places.proofs.PlaceLaws.{place_out, place_most}
use Rattle.line_places.proofs.LineLaws.{ranked_broken, whole_ordered, whole_inside, ranked_whole, unprintable_most}
use Rattle.pattern_order.specs.StateLine.{StateLine}
use Rattle.pattern_row.specs.Fields.{row_of}
use Rattle.pattern_store.specs.Next.{states_of}
use Rattle.pattern_places.specs.Place.{header_at, malformed_at, disordered_at, straying_at, ambiguous_at, bead_wrong, state_wrong}
use Rattle.pattern_byte.specs.Byte.{labels_named, rows_below, row_before, place_in, pattern_byte}

-- ---- by number

module _ (text bytes : List ℕ) (k n : ℕ) (p : Option ℕ) where
  pub in_malformed : k ≡ 11 → (c : ℕ) → c ≡ labels_named text → p ≡ as_place (malformed_at c (split 32 bytes)) → p ≡ as_place (place_in text k n bytes)
  unfolding place_in
  in_malformed e c f g = g ∙ sym (rw (e, sym f) refl)

  pub in_header : k ≡ 12 → p ≡ as_place (header_at (split 32 bytes)) → p ≡ as_place (place_in text k n bytes)
  unfolding place_in
  in_header e g = g ∙ sym (rw e refl)

  pub in_order : k ≡ 13 → p ≡ as_place (cond (eqb n 1) 0 (disordered_at (row_before text n) (split 32 bytes))) → p ≡ as_place (place_in text k n bytes)
  unfolding place_in
  in_order e g = g ∙ sym (rw e refl)

  pub in_rule : k ≡ 14 → p ≡ as_place (place_at (split 32 bytes) 1) → p ≡ as_place (place_in text k n bytes)
  unfolding place_in
  in_rule e g = g ∙ sym (rw e refl)

  pub in_straying : k ≡ 15 → (b c : ℕ) → b ≡ (row_of (split 32 bytes)).bead → c ≡ states_of (rows_below text) b
      → p ≡ as_place (straying_at c (split 32 bytes)) → p ≡ as_place (place_in text k n bytes)
  unfolding place_in
  in_straying e b c f g q = q ∙ ap (λ (m : ℕ). as_place (straying_at m (split 32 bytes))) (g ∙ ap (states_of (rows_below text)) f) ∙ sym (rw e refl)

  pub in_ambiguous : k ≡ 16 → p ≡ as_place (ambiguous_at (split 32 bytes)) → p ≡ as_place (place_in text k n bytes)
  unfolding place_in
  in_ambiguous e g = g ∙ sym (rw e refl)

pub in_none : (text bytes : List ℕ) (k n : ℕ) → (k ≡ 11 → ⊥) → (k ≡ 12 → ⊥) → (k ≡ 13 → ⊥) → (k ≡ 14 → ⊥) → (k ≡ 15 → ⊥) → (k ≡ 16 → ⊥)
    → None ≡ as_place (place_in text k n bytes)
unfolding place_in as_place
in_none text bytes k n a b c d e f = sym (rw (ne_eqb k 11 a, ne_eqb k 12 b, ne_eqb k 13 c, ne_eqb k 14 d, ne_eqb k 15 e, ne_eqb k 16 f) refl)

pub ruleset in_kit = (in_malformed, in_header, in_order, in_rule, in_straying, in_ambiguous, in_none)

-- ---- a line by its number

module _ (text : List ℕ) (k n : ℕ) (r : Result (ℕ × ℕ) (Option ℕ)) (given : r ≡ found_line most_line text n) where
  pub line_broken : (p : Option ℕ) → r ≡ Err p → p ≡ as_place (ranked_at most_line (line_at text n) (place_in text k n (line_at text n).bytes))
  line_broken p e = ranked_broken most_line text n r given p (place_in text k n (line_at text n).bytes) e

  module _ (x y : ℕ) (q : r ≡ Ok (x, y)) where
    pub line_whole : (v : Option ℕ) → v ≡ as_place (place_in text k n (take (y - x) (drop x text)))
        → v ≡ as_place (ranked_at most_line (line_at text n) (place_in text k n (line_at text n).bytes))
    line_whole v e = ranked_whole most_line text n r given x y q (place_in text k n) v e

pub ruleset line_kit = (line_broken, whole_ordered, whole_inside, line_whole)

-- ---- a place is at most 241

either : (t : Bool) (a b m : ℕ) → a ≤ m → b ≤ m → cond t a b ≤ m
either true a b m h k = h
either false a b m h k = k

module _ (text bytes : List ℕ) (k n : ℕ) where
  abbrev fs : List (List ℕ)
  fs = split 32 bytes

  at_most : (i : ℕ) → place_at fs i ≤ length bytes + 1
  at_most i = place_most bytes i

  order_most : (before : List StateLine) → disordered_at before fs ≤ length bytes + 1
  unfolding disordered_at
  order_most before = either (bead_wrong before (row_of fs)) _ _ _ (at_most 0) (either (state_wrong before (row_of fs)) _ _ _ (at_most 2) (at_most 3))

  shape_most : (c : ℕ) → malformed_at c fs ≤ length bytes + 1
  shape_most c = either (eqb (length fs) (4 + c)) _ _ _ (at_most _) (omega arith)

  -- At most 1 plus the bytes of the line.
  pub place_in_most : place_in text k n bytes ≤ length bytes + 1
  unfolding place_in
  place_in_most =
      either (eqb k 11) _ _ _ (shape_most (labels_named text))
      (either (eqb k 12) _ _ _ (at_most _)
      (either (eqb k 13) _ _ _ (either (eqb n 1) _ _ _ (omega arith) (order_most (row_before text n)))
      (either (eqb k 14) _ _ _ (at_most 1) (either (eqb k 15) _ _ _ (at_most _) (either (eqb k 16) _ _ _ (at_most _) (omega arith))))))

module _ (text : List ℕ) (k n : ℕ) where
  ranked_most : ranked_at most_line (line_at text n) (place_in text k n (line_at text n).bytes) ≤ most_line + 1
  unfolding ranked_at
  ranked_most = go (line_at text n) (leb (length (line_at text n).bytes) most_line) refl (line_at text n).newline (printable (line_at text n).bytes)
    where
      go : (l : TextLine) (a : Bool) → leb (length l.bytes) most_line ≡ a → (b c : Bool)
          → cond (a && (b && c)) (place_in text k n l.bytes) (cond (a && b) (unprintable_place l.bytes) 0) ≤ most_line + 1
      go l true e true true = let h = leb-true (length l.bytes) most_line e in let m = place_in_most text l.bytes k n in omega arith
      go l true e true false = let h = leb-true (length l.bytes) most_line e in let m = unprintable_most l.bytes in omega arith
      go l true e false c = omega arith
      go l false e b c = omega arith

  -- The byte fits 16 bits.
  pub byte_fits : pattern_byte text k n ≤ most_line + 1
  unfolding pattern_byte
  byte_fits = either (ltb k 11) _ _ _ (omega arith) ranked_most

  pub byte_none : k < 11 → 0 ≡ pattern_byte text k n
  unfolding pattern_byte
  byte_none h = sym (rw (lt-ltb k 11 h) refl)

  module _ (o : Option ℕ) (given : o ≡ as_place (ranked_at most_line (line_at text n) (place_in text k n (line_at text n).bytes))) (v : ℕ) (e : v ≡ unwrap_or o 0) where
    value : v ≡ ranked_at most_line (line_at text n) (place_in text k n (line_at text n).bytes)
    value = e ∙ ap (λ (p : Option ℕ). unwrap_or p 0) given ∙ place_out (ranked_at most_line (line_at text n) (place_in text k n (line_at text n).bytes))

    pub byte_ranked : 11 ≤ k → v ≡ pattern_byte text k n
    unfolding pattern_byte
    byte_ranked h = value ∙ sym (rw (le-ltb k 11 h) refl)

    pub ranked_fits : v < 2 ^ 16
    ranked_fits = let f = value in let m = ranked_most in omega arith

pub ruleset byte_kit = (byte_none, byte_ranked, ranked_fits)
