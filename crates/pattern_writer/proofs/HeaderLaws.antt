-- The header text: one whole line that is a header.
-- Assumes nothing.
use Prim.Native.Nat.{ℕ, ◌+◌, ◌^◌, ◌≤◌, ◌<◌}
use mathlib.Core.Path.{◌≡◌, refl, sym, ap, ◌∙◌, subst}
use mathlib.Core.Bool.{Bool, true, false, cond}
use mathlib.Core.List.{List, [], ◌∷◌, ◌++◌}
use native.Mathlib.Omega.{arith}
use borrow.Author.Tests.{eqb-true}
use lib.Dec.{eqb, leb}
use lib.ListN.{length, take, drop, length-drop, drop_of_length-le}
use lib.Seq.{length-take-le}
use Rattle.std.specs.Prelude.{Result, Ok, Err}
use Rattle.layout.specs.Layout.{most_line}
use Rattle.text.specs.Split.{split, joined}
use Rattle.text.specs.Lines.{TextLine, last_line, as_lines, lines_of, line_of, whole}
use Rattle.text.specs.declared.lines.LineFault.{LineFault}
use Rattle.text.proofs.SplitLaws.{joined_split}
use Rattle.text.proofs.LineLaws.{Lead, unended, ends, lead_of}
use Rattle.text.proofs.Spelled.{no_lines}
use Rattle.text.proofs.WalkLaws.{next_line, stuck_line}
use Rattle.pattern_line.specs.declared.refusals.Refusal.{Refusal}
use Rattle.pattern_line.specs.declared.refusals.Refusal.TheVariants.{Header}
use Rattle.pattern_header.specs.Header.{is_header, label_count}
use Rattle.pattern_header.specs.inner.Answers.{header_judged}
use Rattle.pattern_texts.specs.Spelled.{Heads}
use Rattle.sets.proofs.Truth.{both_true}
use Rattle.pattern_writer.specs.Writer.{names, one_header, header_fits}

-- ---- the line's fields

module _ (c : ℕ) (line : List ℕ) (r : Result ℕ Refusal) (e : r ≡ header_judged (split 32 line)) where
  pub unnamed : (f : Refusal) → r ≡ Err f → false ≡ names c line
  unfolding header_judged
  unnamed f p = go (is_header (split 32 line)) refl (sym p ∙ e)
    where
      go : (t : Bool) → is_header (split 32 line) ≡ t → ◌≡◌ {A = Result ℕ Refusal} (Err f) (cond t (Ok (label_count (split 32 line))) (Err Header)) → false ≡ names c line
      go false h z = rw h refl
      go true h z = let y : ◌≡◌ {A = ℕ} 0 1 = cc in absurd (omega arith)

  pub named : (n : ℕ) → r ≡ Ok n → eqb n c ≡ names c line
  unfolding header_judged
  named n p = go (is_header (split 32 line)) refl (sym p ∙ e)
    where
      go : (t : Bool) → is_header (split 32 line) ≡ t → ◌≡◌ {A = Result ℕ Refusal} (Ok n) (cond t (Ok (label_count (split 32 line))) (Err Header))
          → eqb n c ≡ names c line
      go true h z = let y : n ≡ label_count (split 32 line) = cc in rw h (ap (λ (k : ℕ). eqb k c) y)
      go false h z = let y : ◌≡◌ {A = ℕ} 0 1 = cc in absurd (omega arith)

pub ruleset name_kit = (unnamed, named)

-- ---- the lines

-- Where a byte is left, a line is.
some_line : (m : List ℕ) → 0 < length m → (l : TextLine) × (ls : List TextLine) × (lines_of m ≡ l ∷ ls)
some_line m h = go (lead_of m)
  where
    last : (k : List ℕ) → 0 < length k → (l : TextLine) × (ls : List TextLine) × (last_line k ≡ l ∷ ls)
    last [] z = absurd (omega arith)
    last (x ∷ xs) z = (record { bytes = x ∷ xs; newline = false }, [], refl)

    go : Lead m → (l : TextLine) × (ls : List TextLine) × (lines_of m ≡ l ∷ ls)
    go (unended f s) = let r = last m h in (r.0, r.1, s ∙ r.2)
    go (ends n i f s) = (record { bytes = take n m; newline = true }, lines_of (drop (n + 1) m), s)

module _ (c : ℕ) (header : List ℕ) (r : Result ℕ LineFault) (given : r ≡ line_of most_line header) where
  pub broken : (f : LineFault) → r ≡ Err f → false ≡ header_fits c header
  unfolding header_fits
  broken f p = go header refl
    where
      stuck : (l : TextLine) (ls : List TextLine) → whole most_line l ≡ false → false ≡ one_header c (l ∷ ls)
      stuck l [] h = rw h refl
      stuck l (m ∷ ls) h = refl

      go : (m : List ℕ) → header ≡ m → false ≡ one_header c (lines_of header)
      go [] e = sym (ap (λ (m : List ℕ). one_header c (lines_of m)) e ∙ ap (one_header c) no_lines)
      go (x ∷ xs) e =
          let s = stuck_line most_line header f (let z = ap length e in omega arith) (sym given ∙ p) in
          stuck s.first s.others s.not_whole ∙ sym (ap (one_header c) s.lines)

  module _ (n : ℕ) (p : r ≡ Ok n) where
    inside : n < length header
    inside = (next_line most_line header n (sym given ∙ p)).inside

    pub line_fits : length header < 2 ^ 64 → n + 1 < 2 ^ 64
    line_fits h = let i = inside in omega arith

    pub line_in : n ≤ length header
    line_in = let i = inside in omega arith

    pub line_counts : n ≡ length (take n header)
    line_counts = sym (length-take-le n header line_in)

    abbrev line : TextLine
    line = record { bytes = take n header; newline = true }

    pub more_lines : n + 1 < length header → false ≡ header_fits c header
    unfolding header_fits
    more_lines h =
        let s = next_line most_line header n (sym given ∙ p) in
        let o = some_line (drop (n + 1) header) (let d = length-drop (n + 1) header in omega arith) in
        sym (ap (one_header c) (s.lines ∙ ap (λ (ls : List TextLine). line ∷ ls) o.2))

    pub one_line : (t : Bool) → length header ≤ n + 1 → t ≡ names c (take n header) → t ≡ header_fits c header
    unfolding header_fits
    one_line t h e =
        let s = next_line most_line header n (sym given ∙ p) in
        e
        ∙ sym (ap (one_header c) (s.lines ∙ ap (λ (ls : List TextLine). line ∷ ls) (ap lines_of (drop_of_length-le header h) ∙ no_lines))
        ∙ rw s.whole_passes refl)

pub ruleset header_kit = (broken, line_fits, line_in, line_counts, more_lines, one_line)

-- ---- a header text that fits is a header's line

-- The line, without its newline.
pub record Headed (c : ℕ) (header : List ℕ) : Type 0 where
  pub line : List ℕ
  pub ended : header ≡ line ++ (10 ∷ [])
  pub heads : Heads c line

parts_headed : (c : ℕ) (ps : List (List ℕ)) → one_header c (as_lines ps) ≡ true → Headed c (joined 10 ps)
unfolding as_lines joined
parts_headed c [] e = let z : ◌≡◌ {A = ℕ} 0 1 = cc in absurd (omega arith)
parts_headed c ([] ∷ []) e = let z : ◌≡◌ {A = ℕ} 0 1 = cc in absurd (omega arith)
parts_headed c ((x ∷ p) ∷ []) e =
    let w = both_true (whole most_line (record { bytes = x ∷ p; newline = false })) (names c (x ∷ p)) e in
    let v = both_true (leb (length (x ∷ p)) most_line) false w.0 in
    let z : ◌≡◌ {A = ℕ} 0 1 = cc in
    absurd (omega arith)
parts_headed c (p ∷ ([] ∷ [])) e =
    let w = both_true (whole most_line (record { bytes = p; newline = true })) (names c p) e in
    let v = both_true (is_header (split 32 p)) (eqb (label_count (split 32 p)) c) w.1 in
    record {
      line = p;
      ended = refl;
      heads = record { whole_passes = w.0; header_ok = v.0; names = eqb-true (label_count (split 32 p)) c v.1 };
    }
parts_headed c (p ∷ ((x ∷ q) ∷ [])) e = let z : ◌≡◌ {A = ℕ} 0 1 = cc in absurd (omega arith)
parts_headed c (p ∷ (q ∷ (o ∷ ps))) e = let z : ◌≡◌ {A = ℕ} 0 1 = cc in absurd (omega arith)

pub headed : (c : ℕ) (header : List ℕ) → header_fits c header ≡ true → Headed c header
unfolding header_fits
headed c header e = subst (λ (l : List ℕ). Headed c l) (joined_split 10 header) (parts_headed c (split 10 header) e)
