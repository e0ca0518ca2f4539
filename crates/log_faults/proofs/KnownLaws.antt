-- What is known when a line is judged: the columns that the header names, and the steps of the lines between.
-- Assumes nothing.
use Prim.Native.Nat.{ℕ, zero, suc, ◌+◌, ◌-◌, ◌<◌}
use mathlib.Core.Path.{◌≡◌, refl, sym, ap, ◌∙◌, subst}
use mathlib.Core.Bool.{Bool, true, false, cond}
use mathlib.Core.List.{List, [], ◌∷◌, ◌++◌, map}
use native.Mathlib.Omega.{arith}
use borrow.Author.Tests.{ne_eqb}
use lib.ListN.{length, get_or, take, drop, length-append}
use Rattle.text.specs.Split.{split}
use Rattle.text.specs.Lines.{TextLine, lines_of, whole}
use Rattle.text.specs.Walk.{Judged, refused, passed}
use Rattle.text.specs.FirstBad.{AllPass, done, next, FirstBad, here, later}
use Rattle.line_places.specs.Place.{line_at, lines_bytes}
use Rattle.layout.specs.Layout.{most_line}
use Rattle.log_line.specs.Header.{columns_of, is_header}
use Rattle.log_line.specs.Step.{Step, step_of, step_at, malformed, misnumbered, mislinked, mislabelled, over_limit}
use Rattle.log_line.specs.Format.{Known, judge_line}
use Rattle.log_byte.specs.Byte.{columns_named, steps_before}

-- ---- a line that passes

no : {A : Type 0} {k : ℕ} {t : Known} → ◌≡◌ {A = Judged Known} (refused k) (passed t) → A
no e = let z : ◌≡◌ {A = ℕ} 0 1 = cc in absurd (omega arith)

pub record HeaderPassed (l : TextLine) (t : Known) : Type 0 where
  pub whole : whole most_line l ≡ true
  pub header : is_header (split 32 l.bytes) ≡ true
  pub columns : t.columns ≡ columns_of (split 32 l.bytes)
  pub steps : t.steps ≡ []

pub header_passed : (count : ℕ) (s t : Known) (l : TextLine) → judge_line count s 1 l ≡ passed t → HeaderPassed l t
header_passed count s t l e = go (whole most_line l) refl (is_header (split 32 l.bytes)) refl e
  where
    go : (a : Bool) → whole most_line l ≡ a → (b : Bool) → is_header (split 32 l.bytes) ≡ b
        → cond a (cond b (passed (record { columns = columns_of (split 32 l.bytes); steps = [] })) (refused 22)) (refused 21) ≡ passed t → HeaderPassed l t
    go false p b q f = no f
    go true p false q f = no f
    go true p true q f =
        let z : record { columns = columns_of (split 32 l.bytes); steps = [] } ≡ t = cc in
        record { whole = p; header = q; columns = sym (ap (λ (k : Known). k.columns) z); steps = sym (ap (λ (k : Known). k.steps) z) }

pub record StepPassed (s : Known) (l : TextLine) (t : Known) : Type 0 where
  pub columns : t.columns ≡ s.columns
  pub steps : t.steps ≡ s.steps ++ (step_of s.columns (split 32 l.bytes) ∷ [])

module _ (count : ℕ) (s t : Known) (n : ℕ) (l : TextLine) (below : 1 < n) where
  abbrev grown : Known
  grown = record { columns = s.columns; steps = s.steps ++ (step_of s.columns (split 32 l.bytes) ∷ []) }

  pub step_passed : judge_line count s n l ≡ passed t → StepPassed s l t
  step_passed e =
      go (whole most_line l)
      (malformed s.columns (split 32 l.bytes))
      (misnumbered s.columns n (split 32 l.bytes))
      (mislinked (step_at n) (step_of s.columns (split 32 l.bytes)).preds)
      (mislabelled count (step_at n) (step_of s.columns (split 32 l.bytes)).labels)
      (over_limit s.steps (step_at n) (step_of s.columns (split 32 l.bytes)).preds)
      (sym (rw (ne_eqb n 1 (λ z. absurd (omega arith))) refl) ∙ e)
    where
      go : (a b c d f g : Bool)
          → cond a (cond b (refused 21) (cond c (refused 23) (cond d (refused 24) (cond f (refused 25) (cond g (refused 26) (passed grown)))))) (refused 21) ≡ passed t
          → StepPassed s l t
      go false b c d f g e = no e
      go true true c d f g e = no e
      go true false true d f g e = no e
      go true false false true f g e = no e
      go true false false false true g e = no e
      go true false false false false true e = no e
      go true false false false false false e =
          let z : grown ≡ t = cc in
          record { columns = sym (ap (λ (k : Known). k.columns) z); steps = sym (ap (λ (k : Known). k.steps) z) }

-- ---- the lines of a text by their numbers

drop_head : {A : Type 0} (xs : List A) (i : ℕ) (d l : A) (ls : List A) → l ∷ ls ≡ drop i xs → (l ≡ get_or xs i d) × (ls ≡ drop (suc i) xs) × (i < length xs)
drop_head [] zero d l ls e = let z : ◌≡◌ {A = ℕ} 0 1 = cc in absurd (omega arith)
drop_head [] (suc i) d l ls e = let z : ◌≡◌ {A = ℕ} 0 1 = cc in absurd (omega arith)
drop_head (x ∷ xs) zero d l ls e = let a : l ≡ x = cc in let b : ls ≡ xs = cc in (a, b, omega arith)
drop_head (x ∷ xs) (suc i) d l ls e = let r = drop_head xs i d l ls e in (r.0, r.1, let h = r.2 in omega arith)

abbrev none : TextLine
none = record { bytes = []; newline = false }

module _ (g : List ℕ → Step) where
  one_more : (ls : List TextLine) (i : ℕ) → i < length ls
      → map g (take (suc i) (map (λ l. l.bytes) ls)) ≡ map g (take i (map (λ l. l.bytes) ls)) ++ (g (get_or ls i none).bytes ∷ [])
  one_more [] i h = absurd (omega arith)
  one_more (l ∷ ls) zero h = refl
  one_more (l ∷ ls) (suc i) h = ap (λ (xs : List Step). g l.bytes ∷ xs) (one_more ls i (omega arith))

  below_more : (ls : List TextLine) (i : ℕ) → suc i < length ls
      → map g (take (suc i) (drop 1 (map (λ l. l.bytes) ls))) ≡ map g (take i (drop 1 (map (λ l. l.bytes) ls))) ++ (g (get_or ls (suc i) none).bytes ∷ [])
  below_more [] i h = absurd (omega arith)
  below_more (l ∷ ls) i h = one_more ls i (omega arith)

steps_more : (text : List ℕ) (n : ℕ) → 1 < n → n - 1 < length (lines_of text)
    → steps_before text (n + 1) ≡ steps_before text n ++ (step_of (columns_named text) (split 32 (line_at text n).bytes) ∷ [])
unfolding steps_before lines_bytes
steps_more text n h k =
    let a : n + 1 - 2 ≡ suc (n - 2) = omega arith in
    let b : suc (n - 2) ≡ n - 1 = omega arith in
    ap (λ (m : ℕ). map (λ bs. step_of (columns_named text) (split 32 bs)) (take m (drop 1 (map (λ l. l.bytes) (lines_of text))))) a
    ∙ below_more (λ bs. step_of (columns_named text) (split 32 bs)) (lines_of text) (n - 2) (omega arith)
    ∙ ap (λ (m : ℕ). map (λ bs. step_of (columns_named text) (split 32 bs)) (take (n - 2) (drop 1 (map (λ l. l.bytes) (lines_of text)))) ++ (step_of (columns_named text) (split 32 (get_or (lines_of text) m none).bytes) ∷ [])) b

-- ---- what is known before the n-th line

pub record KnownAt (text : List ℕ) (n : ℕ) (s : Known) : Type 0 where
  pub header : is_header (split 32 (line_at text 1).bytes) ≡ true
  pub columns : s.columns ≡ columns_named text
  pub steps : s.steps ≡ steps_before text n

module _ (text : List ℕ) where
  pub known_first : (count : ℕ) (s t : Known) → judge_line count s 1 (line_at text 1) ≡ passed t → KnownAt text 2 t
  unfolding columns_named steps_before
  known_first count s t e =
      let p = header_passed count s t (line_at text 1) e in
      record { header = p.header; columns = p.columns; steps = p.steps }

  known_more : (count : ℕ) (s t : Known) (n : ℕ) → 1 < n → n - 1 < length (lines_of text) → KnownAt text n s → judge_line count s n (line_at text n) ≡ passed t
      → KnownAt text (n + 1) t
  known_more count s t n h k known e =
      let p = step_passed count s t n (line_at text n) h e in
      record {
        header = known.header;
        columns = p.columns ∙ known.columns;
        steps = p.steps ∙ rw (known.columns, known.steps) (sym (steps_more text n h k));
      }

  -- The bad line, and what is known before it.
  pub record BadAt (count k m : ℕ) : Type 0 where
    pub later : 1 < m
    pub known : Known
    pub at : KnownAt text m known
    pub judged : judge_line count known m (line_at text m) ≡ refused k

  pub bad_below : (count : ℕ) {s : Known} {n k m : ℕ} {ls : List TextLine} → FirstBad (judge_line count) s n ls k m → 1 < n → ls ≡ drop (n - 1) (lines_of text) → KnownAt text n s
      → BadAt count k m
  bad_below count (here {s = s} {n = n} {k = k} {l = l} {ls = ls} e) h d known =
      let r = drop_head (lines_of text) (n - 1) none l ls d in
      record { later = h; known = s; at = known; judged = subst (λ (x : TextLine). judge_line count s n x ≡ refused k) r.0 e }
  bad_below count (later {s = s} {t = t} {n = n} {l = l} {ls = ls} e rest) h d known =
      let r = drop_head (lines_of text) (n - 1) none l ls d in
      let f = subst (λ (x : TextLine). judge_line count s n x ≡ passed t) r.0 e in
      let i : suc (n - 1) ≡ n + 1 - 1 = omega arith in
      bad_below count rest (omega arith) (r.1 ∙ ap (λ (j : ℕ). drop j (lines_of text)) i) (known_more count s t n h r.2 known f)

-- Each line below the header that passes is a step.
pub steps_counted : (count : ℕ) {s u : Known} {n : ℕ} {ls : List TextLine} → AllPass (judge_line count) s n ls u → 1 < n → length u.steps ≡ length s.steps + length ls
steps_counted count done h = omega arith
steps_counted count (next {s = s} {t = t} {u = u} {n = n} {l = l} {ls = ls} e rest) h =
    let r = steps_counted count rest (omega arith) in
    let p = ap length (step_passed count s t n l h e).steps ∙ length-append s.steps (step_of s.columns (split 32 l.bytes) ∷ []) in
    omega arith
