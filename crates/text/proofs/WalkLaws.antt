-- How a reader's loop follows the walk over the lines: the answer for the whole text is the answer for what is left of it.
-- Assumes nothing.
use mathlib.Core.Path.{◌≡◌, refl, sym, ap, ap₂, ◌∙◌}
use mathlib.Core.Bool.{Bool, true, false}
use mathlib.Core.List.{List, [], ◌∷◌}
use Prim.Native.Nat.{ℕ, ◌+◌, ◌-◌, ◌≤◌, ◌<◌}
use native.Mathlib.Omega.{arith}
use borrow.Author.Tests.{le-leb, lt-leb, le-ltb, ne_eqb, ltb-true, ltb-false}
use lib.Dec.{ltb}
use lib.ListN.{length, take, drop, drop_of_length-le, length-drop}
use lib.Seq.{drop-drop, length-take-le}
use Rattle.text.specs.Lines.{TextLine, last_line, lines_of, printable, first_line, answer_of, line_of, whole}
use Rattle.text.specs.Walk.{Judged, refused, passed, Outcome, accepted, faulty, proceed, walk, Format, judge_by, read_text}
use Rattle.text.specs.declared.lines.LineFault.{LineFault}
use Rattle.text.specs.declared.lines.LineFault.TheVariants.{Long, Unended, Unprintable}
use Rattle.std.specs.Prelude.{Result, Ok, Err}
use Rattle.lists.proofs.Parts.{rest_part}
use Rattle.text.proofs.Spelled.{no_lines}
use Rattle.text.proofs.LineLaws.{Lead, unended, ends, lead_of}

-- ---- the walk, line by line

pub accepted_same : {S : Type 0} (s t : S) → accepted s ≡ accepted t → s ≡ t
accepted_same s t e = cc

pub walk_nil : {S L : Type 0} (judge : S → ℕ → L → Judged S) (s : S) (n : ℕ) → walk judge s n [] ≡ accepted s
unfolding walk
walk_nil judge s n = refl

pub walk_cons : {S L : Type 0} (judge : S → ℕ → L → Judged S) (s : S) (n : ℕ) (l : L) (ls : List L)
    → walk judge s n (l ∷ ls) ≡ proceed n (judge s n l) (λ t. walk judge t (n + 1) ls)
unfolding walk
walk_cons judge s n l ls = refl

-- An accepted walk passes its first line, and the rest of it is accepted.
pub walk_step : {S L : Type 0} (judge : S → ℕ → L → Judged S) (s : S) (n : ℕ) (l : L) (ls : List L) (t : S) → walk judge s n (l ∷ ls) ≡ accepted t
    → (u : S) × (judge s n l ≡ passed u) × (walk judge u (n + 1) ls ≡ accepted t)
walk_step judge s n l ls t e = go (judge s n l) refl (sym (walk_cons judge s n l ls) ∙ e)
  where
    go : (j : Judged _) → judge s n l ≡ j → proceed n j (λ t. walk judge t (n + 1) ls) ≡ accepted t
        → (u : _) × (judge s n l ≡ passed u) × (walk judge u (n + 1) ls ≡ accepted t)
    go (refused k) p q = let z : ◌≡◌ {A = ℕ} 0 1 = cc in absurd (omega arith)
    go (passed u) p q = (u, p, q)

-- ---- what a first line's answer says of the lines

-- Which way the answer came about, from the three tests.
pub data Tested (most : ℕ) (l : TextLine) : Type 0 where
  whole_passes : answer_of most l ≡ Ok (length l.bytes) → whole most l ≡ true → l.newline ≡ true → Tested most l
  is_broken : (f : LineFault) → answer_of most l ≡ Err f → whole most l ≡ false → Tested most l

pub tested : (most : ℕ) (l : TextLine) → Tested most l
tested most l = go (ltb most (length l.bytes)) refl l.newline refl (printable l.bytes) refl
  where
    go : (t : Bool) → ltb most (length l.bytes) ≡ t → (u : Bool) → l.newline ≡ u → (v : Bool) → printable l.bytes ≡ v → Tested most l
    go true e u f v g = is_broken Long (rw e) (rw (lt-leb (length l.bytes) most (ltb-true most (length l.bytes) e)))
    go false e false f v g = is_broken Unended (rw (e, f)) (rw (le-leb (length l.bytes) most (ltb-false most (length l.bytes) e), f))
    go false e true f false g = is_broken Unprintable (rw (e, f, g)) (rw (le-leb (length l.bytes) most (ltb-false most (length l.bytes) e), f, g))
    go false e true f true g = whole_passes (rw (e, f, g)) (rw (le-leb (length l.bytes) most (ltb-false most (length l.bytes) e), f, g)) f

-- A whole first line of n bytes, and the lines after it.
pub record Next (most : ℕ) (m : List ℕ) (n : ℕ) : Type 0 where
  pub inside : n < length m
  pub lines : lines_of m ≡ record { bytes = take n m; newline = true } ∷ lines_of (drop (n + 1) m)
  pub whole_passes : whole most (record { bytes = take n m; newline = true }) ≡ true

pub next_line : (most : ℕ) (m : List ℕ) (n : ℕ) → line_of most m ≡ Ok n → Next most m n
next_line most m n e = go (lead_of m) (tested most (first_line m))
  where
    go : Lead m → Tested most (first_line m) → Next most m n
    go (unended f s) (whole_passes a w b) = let z : ◌≡◌ {A = Bool} false true = sym (ap (λ (x : TextLine). x.newline) f) ∙ b in let y : ◌≡◌ {A = ℕ} 0 1 = cc in absurd (omega arith)
    go (ends k h f s) (whole_passes a w b) =
        let z : Ok (length (first_line m).bytes) ≡ Ok n = sym a ∙ e in
        let y : length (first_line m).bytes ≡ n = cc in
        let x : k ≡ n = sym (length-take-le k m (omega arith)) ∙ sym (ap (λ (t : TextLine). length t.bytes) f) ∙ y in
        record { inside = omega arith; lines = rw (sym x) s; whole_passes = rw (sym x) (ap (whole most) (sym f) ∙ w) }
    go g (is_broken f a w) = let z : ◌≡◌ {A = Result ℕ LineFault} (Err f) (Ok n) = sym a ∙ e in let y : ◌≡◌ {A = ℕ} 0 1 = cc in absurd (omega arith)

-- A first line that is not whole.
pub record Stuck (most : ℕ) (m : List ℕ) : Type 0 where
  pub first : TextLine
  pub others : List TextLine
  pub lines : lines_of m ≡ first ∷ others
  pub not_whole : whole most first ≡ false

pub stuck_line : (most : ℕ) (m : List ℕ) (f : LineFault) → 0 < length m → line_of most m ≡ Err f → Stuck most m
stuck_line most m f h e = go (lead_of m) (tested most (first_line m))
  where
    last : (k : List ℕ) → 0 < length k → last_line k ≡ record { bytes = k; newline = false } ∷ []
    last [] h = absurd (omega arith)
    last (x ∷ xs) h = refl

    go : Lead m → Tested most (first_line m) → Stuck most m
    go g (whole_passes a w b) = let z : ◌≡◌ {A = Result ℕ LineFault} (Ok (length (first_line m).bytes)) (Err f) = sym a ∙ e in let y : ◌≡◌ {A = ℕ} 0 1 = cc in absurd (omega arith)
    go (unended k s) (is_broken q a w) = record {
      first = record { bytes = m; newline = false };
      others = [];
      lines = s ∙ last m h;
      not_whole = ap (whole most) (sym k) ∙ w;
    }
    go (ends n i k s) (is_broken q a w) = record {
      first = record { bytes = take n m; newline = true };
      others = lines_of (drop (n + 1) m);
      lines = s;
      not_whole = ap (whole most) (sym k) ∙ w;
    }

-- ---- the walk

walk_end : {S : Type 0} (judge : S → ℕ → TextLine → Judged S) (s : S) (n : ℕ) → walk judge s n [] ≡ accepted s
unfolding walk
walk_end judge s n = refl

walk_line : {S : Type 0} (judge : S → ℕ → TextLine → Judged S) (s : S) (n : ℕ) (l : TextLine) (ls : List TextLine)
    → walk judge s n (l ∷ ls) ≡ proceed n (judge s n l) (λ t. walk judge t (n + 1) ls)
unfolding walk
walk_line judge s n l ls = refl

-- A turn of a reader's loop. `all` is the answer for the whole text; s is known before the line n, which begins at the place `at`; and
-- `r` is what `read_line` says of the text from there on.
module _ {S : Type 0} (judge : S → ℕ → TextLine → Judged S) (s : S) (n : ℕ) (text : List ℕ) (at : ℕ) (all : Outcome S)
    (inv : all ≡ walk judge s n (lines_of (drop at text))) where
  pub text_end : length text ≤ at → all ≡ accepted s
  text_end h = inv ∙ ap (λ (m : List ℕ). walk judge s n (lines_of m)) (drop_of_length-le text h) ∙ ap (walk judge s n) no_lines ∙ walk_end judge s n

  module _ (most : ℕ) (r : Result ℕ LineFault) (given : r ≡ line_of most (take (length text - at) (drop at text))) where
    said : r ≡ line_of most (drop at text)
    said = given ∙ ap (line_of most) (rest_part text at)

    -- every format refuses a line that is not whole, with one number
    pub text_broken : (k : ℕ) → ((t : S) (m : ℕ) (l : TextLine) → whole most l ≡ false → judge t m l ≡ refused k)
        → at < length text → (f : LineFault) → r ≡ Err f → all ≡ faulty k n
    text_broken k strict h f p =
        let w = stuck_line most (drop at text) f (let d = length-drop at text in omega arith) (sym said ∙ p) in
        inv ∙ ap (walk judge s n) w.lines ∙ walk_line judge s n w.first w.others
        ∙ ap (λ (j : Judged S). proceed n j (λ t. walk judge t (n + 1) w.others)) (strict s n w.first w.not_whole)

    module _ (e : ℕ) (p : r ≡ Ok e) where
      next : Next most (drop at text) e
      next = next_line most (drop at text) e (sym said ∙ p)

      -- the line's bytes, as they are lent
      abbrev pub lent : TextLine
      lent = record { bytes = take (at + e - at) (drop at text); newline = true }

      lent_is : lent ≡ record { bytes = take e (drop at text); newline = true }
      lent_is = let z : at + e - at ≡ e = omega arith in rw z

      pub lent_whole : whole most lent ≡ true
      lent_whole = ap (whole most) lent_is ∙ next.whole_passes

      forward : all ≡ proceed n (judge s n lent) (λ t. walk judge t (n + 1) (lines_of (drop (at + e + 1) text)))
      forward =
          let z : at + (e + 1) ≡ at + e + 1 = omega arith in
          inv ∙ ap (walk judge s n) next.lines ∙ walk_line judge s n (record { bytes = take e (drop at text); newline = true }) (lines_of (drop (e + 1) (drop at text)))
          ∙ ap₂ (λ (j : Judged S) (m : List ℕ). proceed n j (λ t. walk judge t (n + 1) (lines_of m))) (ap (judge s n) (sym lent_is))
          (drop-drop (e + 1) at text ∙ ap (λ (k : ℕ). drop k text) z)

      pub text_refused : (k : ℕ) → judge s n lent ≡ refused k → all ≡ faulty k n
      text_refused k q = forward ∙ ap (λ (j : Judged S). proceed n j (λ t. walk judge t (n + 1) (lines_of (drop (at + e + 1) text)))) q

      pub text_passed : (t : S) → judge s n lent ≡ passed t → all ≡ walk judge t (n + 1) (lines_of (drop (at + e + 1) text))
      text_passed t q = forward ∙ ap (λ (j : Judged S). proceed n j (λ u. walk judge u (n + 1) (lines_of (drop (at + e + 1) text)))) q

-- ---- the size, before all lines

pub size_right : {S : Type 0} (F : Format S) (text : List ℕ) → (length text ≡ 0 → ⊥) → length text ≤ F.most
    → read_text F text ≡ walk (judge_by F) F.start 1 (lines_of (drop 0 text))
size_right F text n h = simp (ne_eqb (length text) 0 n, le-ltb F.most (length text) h)
