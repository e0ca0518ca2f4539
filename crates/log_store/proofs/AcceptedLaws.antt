-- The steps of an accepted log fit, and there is one.
-- Assumes nothing.
use mathlib.Core.Path.{◌≡◌, refl, sym, ap, ◌∙◌, subst}
use mathlib.Core.Bool.{Bool, true, false, not, cond, ◌||◌}
use mathlib.Core.List.{List, [], ◌∷◌, ◌++◌}
use Prim.Native.Nat.{ℕ, ◌+◌, ◌≤◌}
use native.Mathlib.Omega.{arith}
use borrow.Author.Tests.{ne_eqb, ltb-false, eqb-false}
use lib.Dec.{ltb, eqb}
use lib.ListN.{length, length-append}
use Rattle.text.proofs.WalkLaws.{walk_nil, walk_cons}
use Rattle.text.specs.Split.{split}
use Rattle.text.specs.Lines.{TextLine, lines_of, whole}
use Rattle.text.specs.Walk.{Judged, refused, passed, Outcome, accepted, faulty, proceed, walk, bad_size}
use Rattle.layout.specs.Layout.{most_board, most_line, most_log_text, most_steps, most_links}
use Rattle.log_line.specs.Header.{columns_of, is_header}
use Rattle.log_line.specs.Step.{Step, step_of, step_at, are_numbers_at, malformed, misnumbered, mislinked, mislabelled, link_count, over_limit}
use Rattle.log_line.specs.Format.{Known, judge_header, judge_step, judge_line, conclude, log_text}
use Rattle.log_step.specs.Limits.{InLimits}
use Rattle.log_step.proofs.StepLaws.{in_limits}
use Rattle.log_store.specs.inner.Accepted.{StepFits, StepsFit, none, more}
use Rattle.log_store.proofs.BufferLaws.{count_end, count_more}

-- ---- one line

-- What is known grew by one step that fits.
record Grown (count : ℕ) (k t : Known) : Type 0 where
  pub step : Step
  pub fits : StepFits count k.steps step
  pub steps : t.steps ≡ k.steps ++ (step ∷ [])

or_third : (a b c d : Bool) → (a || (b || (c || d))) ≡ false → c ≡ false
or_third false false false d e = refl
or_third false false true d e = let z : ◌≡◌ {A = ℕ} 0 1 = cc in absurd (omega arith)
or_third false true c d e = let z : ◌≡◌ {A = ℕ} 0 1 = cc in absurd (omega arith)
or_third true b c d e = let z : ◌≡◌ {A = ℕ} 0 1 = cc in absurd (omega arith)

module _ (count : ℕ) (k t : Known) (n : ℕ) (l : TextLine) (line : n ≡ length k.steps + 2) where
  v : ℕ
  v = length k.steps

  fs : List (List ℕ)
  fs = split 32 l.bytes

  x : Step
  x = step_of k.columns (split 32 l.bytes)

  values_passed : (a : Bool) → mislinked (step_at n) x.preds ≡ a → (b : Bool) → mislabelled count (step_at n) x.labels ≡ b
      → (d : Bool) → over_limit k.steps (step_at n) x.preds ≡ d → x.board ≤ most_board
      → cond a (refused 24) (cond b (refused 25) (cond d (refused 26) (passed (record { columns = k.columns; steps = k.steps ++ (x ∷ []) })))) ≡ passed t → Grown count k t
  unfolding x
  values_passed true p b q d r h e = let z : ◌≡◌ {A = ℕ} 0 1 = cc in absurd (omega arith)
  values_passed false p true q d r h e = let z : ◌≡◌ {A = ℕ} 0 1 = cc in absurd (omega arith)
  values_passed false p false q true r h e = let z : ◌≡◌ {A = ℕ} 0 1 = cc in absurd (omega arith)
  values_passed false p false q false r h e =
      let s : step_at n ≡ length k.steps = omega arith in
      let u : record { columns = k.columns; steps = k.steps ++ (x ∷ []) } ≡ t = cc in
      record {
        step = x;
        fits = record { board = h; linked = rw (← s) p; labelled = rw (← s) q; limits = rw (← s) r };
        steps = sym (ap (λ (m : Known). m.steps) u);
      }

  step_passed : (a : Bool) → malformed k.columns (split 32 l.bytes) ≡ a → (b : Bool) → misnumbered k.columns n (split 32 l.bytes) ≡ b
      → judge_step count k n (split 32 l.bytes) ≡ passed t → Grown count k t
  unfolding x
  step_passed true p b q e = let z : ◌≡◌ {A = Judged Known} (refused 21) (passed t) = sym (rw p) ∙ e in let y : ◌≡◌ {A = ℕ} 0 1 = cc in
      absurd (omega arith)
  step_passed false p true q e = let z : ◌≡◌ {A = Judged Known} (refused 23) (passed t) = sym (rw (p, q)) ∙ e in let y : ◌≡◌ {A = ℕ} 0 1 = cc in
      absurd (omega arith)
  step_passed false p false q e =
      let c = or_third (not (eqb (length (split 32 l.bytes)) 4)) (not (are_numbers_at k.columns (split 32 l.bytes)))
      (ltb most_board x.board) _ p in
      values_passed (mislinked (step_at n) x.preds) refl (mislabelled count (step_at n) x.labels) refl
      (over_limit k.steps (step_at n) x.preds) refl
      (ltb-false most_board x.board c) (sym (rw (p, q)) ∙ e)

  line_passed : judge_line count k n l ≡ passed t → Grown count k t
  line_passed e = go (whole most_line l) refl e
    where
      go : (a : Bool) → whole most_line l ≡ a
          → cond a (cond (eqb n 1) (judge_header (split 32 l.bytes)) (judge_step count k n (split 32 l.bytes))) (refused 21) ≡ passed t
          → Grown count k t
      go false p f = let z : ◌≡◌ {A = ℕ} 0 1 = cc in absurd (omega arith)
      go true p f =
          let m : eqb n 1 ≡ false = ne_eqb n 1 (λ (z : n ≡ 1). omega arith) in
          step_passed (malformed k.columns (split 32 l.bytes)) refl (misnumbered k.columns n (split 32 l.bytes)) refl (sym (rw m) ∙ f)

-- ---- the lines

below_fits : (count : ℕ) (ls : List TextLine) (k out : Known) (n : ℕ) → n ≡ length k.steps + 2 → StepsFit count k.steps
    → walk (judge_line count) k n ls ≡ accepted out → StepsFit count out.steps
below_fits count [] k out n line f e =
    let z : accepted k ≡ accepted out = sym (walk_nil (judge_line count) k n) ∙ e in
    let y : k ≡ out = cc in
    subst (λ (m : Known). StepsFit count m.steps) y f
below_fits count (l ∷ ls) k out n line f e =
    go (judge_line count k n l) refl (sym (walk_cons (judge_line count) k n l ls) ∙ e) (λ t h g q. below_fits count ls t out (n + 1) h g q)
  where
    go : (j : Judged Known) → judge_line count k n l ≡ j → proceed n j (λ t. walk (judge_line count) t (n + 1) ls) ≡ accepted out
        → ((t : Known) → n + 1 ≡ length t.steps + 2 → StepsFit count t.steps → walk (judge_line count) t (n + 1) ls ≡ accepted out → StepsFit count out.steps)
        → StepsFit count out.steps
    go (refused m) p q rest = let z : ◌≡◌ {A = ℕ} 0 1 = cc in absurd (omega arith)
    go (passed t) p q rest =
        let g = line_passed count k t n l line p in
        let s = ap length g.steps ∙ length-append k.steps (g.step ∷ []) in
        rest t (omega arith) (subst (λ (xs : List Step). StepsFit count xs) (sym g.steps) (more f g.fits)) q

header_none : (count : ℕ) (k t : Known) (l : TextLine) → judge_line count k 1 l ≡ passed t → t.steps ≡ []
header_none count k t l e = go (whole most_line l) (is_header (split 32 l.bytes)) e
  where
    go : (a b : Bool) → cond a (cond b (passed (record { columns = columns_of (split 32 l.bytes); steps = [] })) (refused 22))
        (refused 21) ≡ passed t → t.steps ≡ []
    go false b f = let z : ◌≡◌ {A = ℕ} 0 1 = cc in absurd (omega arith)
    go true false f = let z : ◌≡◌ {A = ℕ} 0 1 = cc in absurd (omega arith)
    go true true f = let z : record { columns = columns_of (split 32 l.bytes); steps = [] } ≡ t = cc in sym (ap (λ (m : Known). m.steps) z)

all_fit : (count : ℕ) (ls : List TextLine) (k out : Known) → k.steps ≡ [] → walk (judge_line count) k 1 ls ≡ accepted out
    → StepsFit count out.steps
all_fit count [] k out s e =
    let z : accepted k ≡ accepted out = sym (walk_nil (judge_line count) k 1) ∙ e in
    let y : k ≡ out = cc in
    subst (λ (xs : List Step). StepsFit count xs) (sym s ∙ ap (λ (m : Known). m.steps) y) none
all_fit count (l ∷ ls) k out s e = go (judge_line count k 1 l) refl (sym (walk_cons (judge_line count) k 1 l ls) ∙ e)
  where
    go : (j : Judged Known) → judge_line count k 1 l ≡ j → proceed 1 j (λ t. walk (judge_line count) t (1 + 1) ls) ≡ accepted out
        → StepsFit count out.steps
    go (refused m) p q = let z : ◌≡◌ {A = ℕ} 0 1 = cc in absurd (omega arith)
    go (passed t) p q =
        let h = header_none count k t l p in
        let m = ap length h in
        below_fits count ls t out 2 (omega arith) (subst (λ (xs : List Step). StepsFit count xs) (sym h) none) q

-- ---- the text

pub accepted_fit : (count : ℕ) (text : List ℕ) (out : Known) → log_text count text ≡ accepted out → StepsFit count out.steps
    × (length out.steps ≡ 0 → ⊥)
accepted_fit count text out e = go (bad_size most_log_text text) refl e
  where
    last : (r : Outcome Known) → walk (judge_line count) (record { columns = columns_of []; steps = [] }) 1 (lines_of text) ≡ r
        → conclude r ≡ accepted out
        → StepsFit count out.steps × (length out.steps ≡ 0 → ⊥)
    last (faulty m n) p q = let z : ◌≡◌ {A = ℕ} 0 1 = cc in absurd (omega arith)
    last (accepted k) p q = end (eqb (length k.steps) 0) refl q
      where
        end : (a : Bool) → eqb (length k.steps) 0 ≡ a → cond a (faulty 26 1) (accepted k) ≡ accepted out → StepsFit count out.steps
            × (length out.steps ≡ 0 → ⊥)
        end true r f = let z : ◌≡◌ {A = ℕ} 0 1 = cc in absurd (omega arith)
        end false r f =
            let y : k ≡ out = cc in (
              all_fit count (lines_of text) (record { columns = columns_of []; steps = [] }) out refl (p ∙ ap accepted y),
              λ z. eqb-false (length k.steps) 0 r (ap (λ (m : Known). length m.steps) y ∙ z),
            )

    go : (a : Bool) → bad_size most_log_text text ≡ a
        → conclude (cond a (faulty 20 0) (walk (judge_line count) (record { columns = columns_of []; steps = [] }) 1 (lines_of text))) ≡ accepted out
        → StepsFit count out.steps × (length out.steps ≡ 0 → ⊥)
    go true p f = let z : ◌≡◌ {A = ℕ} 0 1 = cc in absurd (omega arith)
    go false p f = last (walk (judge_line count) (record { columns = columns_of []; steps = [] }) 1 (lines_of text)) refl f

-- ---- so they are in the buffer's limits

fit_limits : (count : ℕ) (before : List Step) (x : Step) → StepFits count before x → InLimits (length x.preds) (length before) (link_count before)
fit_limits count before x f = in_limits (length x.preds) (length before) (link_count before) f.limits

pub few_steps : {count : ℕ} {xs : List Step} → StepsFit count xs → length xs ≤ most_steps
few_steps none = omega arith
few_steps {count} (more {xs} {x} f s) = let h = (fit_limits count xs x s).step in let e = length-append xs (x ∷ []) in omega arith

pub few_links : {count : ℕ} {xs : List Step} → StepsFit count xs → link_count xs ≤ most_links
few_links none = let e = count_end in omega arith
few_links {count} (more {xs} {x} f s) = let h = (fit_limits count xs x s).all in let e = count_more xs x in omega arith
