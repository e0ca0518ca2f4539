-- `header_at_fault`: where a header text is refused, the byte stands where the table says, and for the reason that it gives.
-- Assumes nothing.
use Prim.Native.Nat.{ℕ, suc, ◌<◌}
use mathlib.Core.Path.{◌≡◌, refl, sym, ap, ◌∙◌, subst}
use mathlib.Core.Bool.{Bool, true, false, cond, ◌&&◌}
use mathlib.Core.List.{List, [], ◌∷◌}
use native.Mathlib.Omega.{arith}
use native.Mathlib.Decide.{ℕ_discrete}
use borrow.Author.Tests.{leb-true, leb-false, eq-eqb, eqb-false}
use lib.Dec.{leb, eqb}
use lib.ListN.{length}
use Rattle.lists.proofs.LeftmostLaws.{clash}
use Rattle.text.specs.Split.{split}
use Rattle.text.specs.Lines.{TextLine, lines_of, printable, whole}
use Rattle.line_places.specs.Place.{place_where, unprintable_place, ranked_at}
use Rattle.line_places.proofs.LineLaws.{place_printable}
use Rattle.line_places.proofs.FaultLaws.{field_at_fault, byte_at_fault}
use Rattle.layout.specs.Layout.{most_line}
use Rattle.pattern_header.specs.Header.{is_header, label_count}
use Rattle.pattern_places.specs.Place.{wrong_name, header_at}
use Rattle.pattern_byte.specs.Header.{one_line_at, header_text_at}
use Rattle.pattern_faults.proofs.Causes.{names_missing}
use Rattle.pattern_writer.specs.Writer.{names as named, one_header, header_fits}
use Rattle.pattern_written.specs.HeaderFault.{OneLine, HeaderPlaced, lines, long, unended, unprintable, name, names, labels}

module _ (c : ℕ) (header : List ℕ) where
  module _ (l : TextLine) (one : lines_of header ≡ l ∷ []) where
    fs : List (List ℕ)
    fs = split 32 l.bytes

    -- a whole line
    of_names : whole most_line l ≡ true → named c l.bytes ≡ false → HeaderPlaced c header (header_at (split 32 l.bytes))
    of_names w n = go (ℕ_discrete (header_at (split 32 l.bytes)) 0) (is_header (split 32 l.bytes)) refl
      where
        right : OneLine header l
        right = record { one = one; whole_passes = w }

        go : Dec (header_at (split 32 l.bytes) ≡ 0) → (t : Bool) → is_header (split 32 l.bytes) ≡ t → HeaderPlaced c header (header_at (split 32 l.bytes))
        go (no d) t h = name l right (field_at_fault (wrong_name (split 32 l.bytes)) (split 32 l.bytes) d)
        go (yes d) false h = rw d (names l right (names_missing (split 32 l.bytes) h d))
        go (yes d) true h = rw d (labels l right h (eqb-false (label_count (split 32 l.bytes)) c (differs (eqb (label_count (split 32 l.bytes)) c) h n)))
          where
            differs : (e : Bool) → is_header (split 32 l.bytes) ≡ true → (is_header (split 32 l.bytes) && e) ≡ false → e ≡ false
            differs e h n = sym (rw h refl) ∙ n

    of_line : one_header c (l ∷ []) ≡ false → HeaderPlaced c header (ranked_at most_line l (header_at (split 32 l.bytes)))
    unfolding ranked_at
    of_line e = go (leb (length l.bytes) most_line) refl l.newline refl (printable l.bytes) refl
      where
        go : (a : Bool) → leb (length l.bytes) most_line ≡ a → (b : Bool) → l.newline ≡ b → (p : Bool) → printable l.bytes ≡ p
            → HeaderPlaced c header (cond (leb (length l.bytes) most_line && (l.newline && printable l.bytes)) (header_at (split 32 l.bytes)) (cond (leb (length l.bytes) most_line && l.newline) (unprintable_place l.bytes) 0))
        go false x b y p z = rw x (long l one (leb-false (length l.bytes) most_line x))
        go true x false y p z = rw (x, y) (unended l one (leb-true (length l.bytes) most_line x) y)
        go true x true y false z =
            rw (x, y, z) (unprintable l one (leb-true (length l.bytes) most_line x) y
            (byte_at_fault l.bytes (λ d. clash (printable l.bytes) (place_printable l.bytes d) z)))
        go true x true y true z = rw (x, y, z) (of_names (rw (x, y, z) refl) (sym (rw (x, y, z) refl) ∙ e))

  pub header_at_fault : header_fits c header ≡ false → HeaderPlaced c header (header_text_at header)
  unfolding header_fits header_text_at
  header_at_fault e = go (lines_of header) refl e
    where
      go : (ls : List TextLine) → lines_of header ≡ ls → one_header c (lines_of header) ≡ false → HeaderPlaced c header (one_line_at (lines_of header))
      go [] q f = rw q (lines (λ z. let y = ap length q in absurd (omega arith)))
      go (l ∷ []) q f = rw q (of_line l q (sym (ap (one_header c) q) ∙ f))
      go (l ∷ (m ∷ ls)) q f = rw q (lines (λ z. let y = ap length q in absurd (omega arith)))
