-- A header text: whether it is one line with its newline, and the place at fault in that.
-- Assumes nothing.
use mathlib.Core.Path.{◌≡◌, refl, sym, ap, ◌∙◌}
use mathlib.Core.Bool.{Bool, true, false, cond, ◌&&◌}
use mathlib.Core.List.{List, [], ◌∷◌}
use Prim.Native.Nat.{ℕ, suc, ◌+◌, ◌*◌, ◌^◌, ◌≤◌, ◌<◌}
use native.Mathlib.Omega.{arith}
use native.Mathlib.Numerals.{add-one}
use borrow.Author.Tests.{leb-true}
use lib.Dec.{leb}
use lib.ListN.{length, get_or, take, drop, length-drop, drop_of_length-le}
use lib.Seq.{length-take-le}
use Rattle.layout.specs.Layout.{most_line}
use Rattle.text.specs.Split.{split, first_part}
use Rattle.text.specs.Lines.{TextLine, last_line, as_lines, lines_of, printable}
use Rattle.text.proofs.SplitLaws.{split_some, split_empty, first_short, Cut, uncut, cut, cut_of}
use Rattle.line_places.specs.Place.{unprintable_place, ranked_at, line_at}
use Rattle.line_places.proofs.PlaceLaws.{place_most}
use Rattle.line_places.proofs.LineLaws.{unprintable_most}
use Rattle.lists.specs.Leftmost.{leftmost}
use Rattle.pattern_line.specs.Answers.{refusal_number}
use Rattle.pattern_line.specs.declared.refusals.Refusal.TheVariants.{Header}
use Rattle.pattern_places.specs.Place.{header_at, wrong_name}
use Rattle.pattern_byte.specs.Byte.{place_in, pattern_byte}
use Rattle.pattern_byte.specs.Header.{one_line_at, header_text_at}

-- ---- how many lines

no_newline : (bs : List ℕ) (in_fields : ℕ) → ranked_at most_line (record { bytes = bs; newline = false }) in_fields ≡ 0
unfolding ranked_at
no_newline bs in_fields = go (leb (length bs) most_line)
  where
    go : (a : Bool) → cond (a && (false && printable bs)) in_fields (cond (a && false) (unprintable_place bs) 0) ≡ 0
    go true = refl
    go false = refl

last_none : (m : List ℕ) → 0 ≡ one_line_at (last_line m)
last_none [] = refl
last_none (x ∷ xs) = sym (no_newline (x ∷ xs) (header_at (split 32 (x ∷ xs))))

more_none : (p q : List ℕ) (ps : List (List ℕ)) → (length q ≡ 0 → ⊥) → 0 ≡ one_line_at (as_lines (p ∷ (q ∷ ps)))
unfolding as_lines
more_none p [] [] n = absurd (n refl)
more_none p (x ∷ q) [] n = refl
more_none p q (o ∷ ps) n = refl

two_none : (p q o : List ℕ) (ps : List (List ℕ)) → 0 ≡ one_line_at (as_lines (p ∷ (q ∷ (o ∷ ps))))
unfolding as_lines
two_none p q o ps = refl

one_asked : (p : List ℕ) → one_line_at (as_lines (p ∷ ([] ∷ []))) ≡ ranked_at most_line (get_or (as_lines (p ∷ ([] ∷ []))) 0 (record { bytes = []; newline = false })) (header_at (split 32 (get_or (as_lines (p ∷ ([] ∷ []))) 0 (record { bytes = []; newline = false })).bytes))
unfolding as_lines
one_asked p = refl

last_one : (m : List ℕ) → as_lines (m ∷ []) ≡ last_line m
unfolding as_lines
last_one m = refl

header_most : (bs : List ℕ) → header_at (split 32 bs) ≤ length bs + 1
header_most bs = place_most bs (leftmost (wrong_name (split 32 bs)) (length (split 32 bs)))

module _ (header : List ℕ) (n : ℕ) (given : n ≡ length (first_part 10 header)) where
  pub next_fits : length header * 1 < 2 ^ 63 → n + 1 < 2 ^ 64
  next_fits h = let k = first_short 10 header in omega arith

  -- What follows the first newline has a byte, so it is a line too.
  after : (k : ℕ) → suc k < length header → split 10 header ≡ take k header ∷ split 10 (drop (suc k) header) → 0 ≡ header_text_at header
  unfolding header_text_at
  after k h s = go (split_some 10 (drop (suc k) header))
    where
      go : (p : List ℕ) × (ps : List (List ℕ)) × (split 10 (drop (suc k) header) ≡ p ∷ ps) → 0 ≡ one_line_at (lines_of header)
      go (p, [], e) =
          more_none (take k header) p [] (λ z. let d = length-drop (suc k) header in let w = whole_part e in let l = ap length w in absurd (omega arith))
          ∙ sym (ap (λ (ps : List (List ℕ)). one_line_at (as_lines ps)) (s ∙ ap (λ (ps : List (List ℕ)). take k header ∷ ps) e))
        where
          whole_part : split 10 (drop (suc k) header) ≡ p ∷ [] → drop (suc k) header ≡ p
          whole_part e = alone (cut_of 10 (drop (suc k) header)) e
            where
              alone : Cut 10 (drop (suc k) header) → split 10 (drop (suc k) header) ≡ p ∷ [] → drop (suc k) header ≡ p
              alone (uncut f t) e = let z : drop (suc k) header ∷ [] ≡ p ∷ [] = sym t ∙ e in cc
              alone (cut j i f t) e =
                  let r = split_some 10 (drop (suc j) (drop (suc k) header)) in
                  let z = ap length (sym e ∙ t ∙ ap (λ (ps : List (List ℕ)). take j (drop (suc k) header) ∷ ps) r.2) in
                  absurd (omega arith)
      go (p, q ∷ ps, e) =
          two_none (take k header) p q ps ∙ sym (ap (λ (ls : List (List ℕ)). one_line_at (as_lines ls)) (s ∙ ap (λ (ls : List (List ℕ)). take k header ∷ ls) e))

  pub not_one : (n + 1 ≡ length header → ⊥) → 0 ≡ header_text_at header
  unfolding header_text_at
  not_one h = go (cut_of 10 header)
    where
      go : Cut 10 header → 0 ≡ one_line_at (lines_of header)
      go (uncut f s) = last_none header ∙ sym (ap one_line_at (ap as_lines s ∙ last_one header))
      go (cut k i f s) =
          let z : n ≡ k = given ∙ ap length f ∙ length-take-le k header (omega arith) in
          after k (further (λ e. h (let w = add-one n in omega arith)) i) s
        where
          further : (suc k ≡ length header → ⊥) → k < length header → suc k < length header
          further m l = omega arith

  module _ (one : n + 1 ≡ length header) where
    asked : header_text_at header ≡ ranked_at most_line (line_at header 1) (header_at (split 32 (line_at header 1).bytes))
    unfolding header_text_at
    asked = go (cut_of 10 header)
      where
        go : Cut 10 header → one_line_at (lines_of header) ≡ ranked_at most_line (line_at header 1) (header_at (split 32 (line_at header 1).bytes))
        go (uncut f s) = let z = ap length f in absurd (omega arith)
        go (cut k i f s) =
            let z : n ≡ k = given ∙ ap length f ∙ length-take-le k header (omega arith) in
            let t : split 10 header ≡ take k header ∷ ([] ∷ [])
            = s ∙ ap (λ (m : List ℕ). take k header ∷ split 10 m) (drop_of_length-le header {i = suc k} (omega arith)) ∙ ap (λ (ps : List (List ℕ)). take k header ∷ ps) (split_empty 10) in
            rw t (one_asked (take k header))

    read_so : pattern_byte header 12 1 ≡ ranked_at most_line (line_at header 1) (header_at (split 32 (line_at header 1).bytes))
    unfolding pattern_byte place_in
    read_so = refl

    pub one_line : (k : ℕ) → k ≡ refusal_number Header → (b : ℕ) → b ≡ pattern_byte header k 1 → b ≡ header_text_at header
    one_line k is b e = e ∙ ap (λ (m : ℕ). pattern_byte header m 1) is ∙ read_so ∙ sym asked

pub ruleset header_kit = (next_fits, not_one, one_line)

-- ---- a header text's byte is at most 241

line_most : (l : TextLine) → ranked_at most_line l (header_at (split 32 l.bytes)) ≤ most_line + 1
unfolding ranked_at
line_most l = go (leb (length l.bytes) most_line) refl l.newline (printable l.bytes)
  where
    go : (a : Bool) → leb (length l.bytes) most_line ≡ a → (b c : Bool)
        → cond (a && (b && c)) (header_at (split 32 l.bytes)) (cond (a && b) (unprintable_place l.bytes) 0) ≤ most_line + 1
    go true e true true = let h = leb-true (length l.bytes) most_line e in let m = header_most l.bytes in omega arith
    go true e true false = let h = leb-true (length l.bytes) most_line e in let m = unprintable_most l.bytes in omega arith
    go true e false c = omega arith
    go false e b c = omega arith

pub header_text_most : (header : List ℕ) → header_text_at header ≤ most_line + 1
unfolding header_text_at
header_text_most header = go (lines_of header)
  where
    go : (ls : List TextLine) → one_line_at ls ≤ most_line + 1
    go [] = omega arith
    go (l ∷ []) = line_most l
    go (l ∷ (m ∷ ls)) = omega arith
