-- What refusals 24, 25 and 26 leave of a step: which links and which labels it may have; and the steps of an accepted log, one by one.
-- Assumes nothing.
use Prim.Native.Nat.{ℕ, zero, suc, ◌+◌, ◌^◌, ◌≤◌, ◌<◌}
use mathlib.Core.Path.{◌≡◌, refl, sym, subst}
use mathlib.Core.Bool.{Bool, true, false, not, cond, ◌||◌}
use mathlib.Core.List.{List, [], ◌∷◌, ◌++◌}
use native.Mathlib.Omega.{arith}
use borrow.Author.Tests.{lt-ltb, le-ltb, ltb-true, ltb-false, eq-eqb, ne_eqb, eqb-true, eqb-false, not-false}
use lib.Dec.{ltb, eqb}
use lib.ListN.{length, get_or, length-append, get_or-append}
use lib.Seq.{get_or-append_seam}
use Rattle.sets.proofs.Truth.{both_true}
use Rattle.sets.specs.Sets.{within}
use Rattle.text.specs.Walk.{accepted}
use Rattle.layout.specs.Layout.{most_board, most_steps, most_links, most_preds}
use Rattle.log_line.specs.Step.{Step, rising_below, mislinked, mislabelled, link_count}
use Rattle.log_line.specs.Format.{Known, log_text}
use Rattle.log_step.proofs.StepLaws.{in_limits}
use Rattle.log_store.specs.inner.Accepted.{StepFits, StepsFit, none, more}
use Rattle.log_store.proofs.AcceptedLaws.{accepted_fit}

-- ---- links

rising_next : (v : ℕ) (us : List ℕ) → rising_below v us ≡ true → (k : ℕ) → suc k < length us → get_or us k 0 < get_or us (suc k) 0
unfolding rising_below
rising_next v [] e k h = absurd (omega arith)
rising_next v (u ∷ []) e k h = absurd (omega arith)
rising_next v (u ∷ (w ∷ us)) e zero h = ltb-true u w (both_true (ltb u w) (rising_below v (w ∷ us)) e).0
rising_next v (u ∷ (w ∷ us)) e (suc k) h = rising_next v (w ∷ us) (both_true (ltb u w) (rising_below v (w ∷ us)) e).1 k (omega arith)

rising_below_lem : (v : ℕ) (us : List ℕ) → rising_below v us ≡ true → (k : ℕ) → k < length us → get_or us k 0 < v
unfolding rising_below
rising_below_lem v [] e k h = absurd (omega arith)
rising_below_lem v (u ∷ []) e zero h = ltb-true u v e
rising_below_lem v (u ∷ []) e (suc k) h = absurd (omega arith)
rising_below_lem v (u ∷ (w ∷ us)) e zero h =
    let p = both_true (ltb u w) (rising_below v (w ∷ us)) e in
    let l = ltb-true u w p.0 in
    let r = rising_below_lem v (w ∷ us) p.1 0 (omega arith) in
    omega arith
rising_below_lem v (u ∷ (w ∷ us)) e (suc k) h = rising_below_lem v (w ∷ us) (both_true (ltb u w) (rising_below v (w ∷ us)) e).1 k (omega arith)

rising_in : (v : ℕ) (us : List ℕ) → ((k : ℕ) → k < length us → get_or us k 0 < v) → ((k : ℕ) → suc k < length us → get_or us k 0 < get_or us (suc k) 0)
    → rising_below v us ≡ true
unfolding rising_below
rising_in v [] below next = refl
rising_in v (u ∷ []) below next = lt-ltb u v (below 0 (omega arith))
rising_in v (u ∷ (w ∷ us)) below next =
    simp (lt-ltb u w (next 0 (omega arith))) (rising_in v (w ∷ us) (λ k h. below (suc k) (omega arith)) (λ k h. next (suc k) (omega arith)))

-- Links that 24 does not refuse: none into step 0; some, rising and below the step, into any other.
pub record Linked (v : ℕ) (us : List ℕ) : Type 0 where
  pub first : v ≡ 0 → length us ≡ 0
  pub others : (v ≡ 0 → ⊥) → 0 < length us
  pub below : (k : ℕ) → k < length us → get_or us k 0 < v
  pub rises : (k : ℕ) → suc k < length us → get_or us k 0 < get_or us (suc k) 0

pub linked_out : (v : ℕ) (us : List ℕ) → mislinked v us ≡ false → Linked v us
linked_out v us e = go (eqb v 0) refl (eqb (length us) 0) refl (rising_below v us) refl e
  where
    go : (a : Bool) → eqb v 0 ≡ a → (c : Bool) → eqb (length us) 0 ≡ c → (r : Bool) → rising_below v us ≡ r
        → cond a (not c) (c || not r) ≡ false → Linked v us
    go true p true q r s f =
        let z = eqb-true (length us) 0 q in
        record { first = λ y. z; others = λ n. absurd (n (eqb-true v 0 p)); below = λ k h. absurd (omega arith); rises = λ k h. absurd (omega arith) }
    go true p false q r s f = let z : ◌≡◌ {A = ℕ} 0 1 = cc in absurd (omega arith)
    go false p true q r s f = let z : ◌≡◌ {A = ℕ} 0 1 = cc in absurd (omega arith)
    go false p false q false s f = let z : ◌≡◌ {A = ℕ} 0 1 = cc in absurd (omega arith)
    go false p false q true s f =
        record {
          first = λ y. absurd (eqb-false v 0 p y);
          others = λ n. positive (length us) (eqb-false (length us) 0 q);
          below = rising_below_lem v us s;
          rises = rising_next v us s;
        }
      where
        positive : (n : ℕ) → (n ≡ 0 → ⊥) → 0 < n
        positive n h = omega arith

pub linked_in : (v : ℕ) (us : List ℕ) → Linked v us → mislinked v us ≡ false
linked_in v us l = go (eqb v 0) refl
  where
    go : (a : Bool) → eqb v 0 ≡ a → cond a (not (eqb (length us) 0)) (eqb (length us) 0 || not (rising_below v us)) ≡ false
    go true p = simp (eq-eqb (length us) 0 (l.first (eqb-true v 0 p)))
    go false p =
        simp (ne_eqb (length us) 0 (λ z. let h = l.others (eqb-false v 0 p) in absurd (omega arith)), rising_in v us l.below l.rises)

-- ---- labels

pub labelled_out : (count v s : ℕ) → mislabelled count v s ≡ false → (v ≡ 0 → s ≡ 0) × ((v ≡ 0 → ⊥) → s < 2 ^ count)
labelled_out count v s e = go (eqb v 0) refl e
  where
    go : (a : Bool) → eqb v 0 ≡ a → cond a (not (eqb s 0)) (not (within count s)) ≡ false → (v ≡ 0 → s ≡ 0) × ((v ≡ 0 → ⊥) → s < 2 ^ count)
    go true p f = (λ z. eqb-true s 0 (not-false (eqb s 0) f), λ n. absurd (n (eqb-true v 0 p)))
    go false p f = (λ z. absurd (eqb-false v 0 p z), λ n. ltb-true s (2 ^ count) (not-false (within count s) f))

pub labelled_in : (count v s : ℕ) → (v ≡ 0 → s ≡ 0) → ((v ≡ 0 → ⊥) → s < 2 ^ count) → mislabelled count v s ≡ false
labelled_in count v s f g = go (eqb v 0) refl
  where
    go : (a : Bool) → eqb v 0 ≡ a → cond a (not (eqb s 0)) (not (within count s)) ≡ false
    go true p = simp (eq-eqb s 0 (f (eqb-true v 0 p)))
    go false p = simp (lt-ltb s (2 ^ count) (g (eqb-false v 0 p)))

-- ---- a step of a log

-- no step: what stands past the last
abbrev pub no_step : Step
no_step = record { board = 0; labels = 0; preds = [] }

-- What holds of a step by itself, given its number v.
pub record StepHolds (count v : ℕ) (x : Step) : Type 0 where
  pub linked : mislinked v x.preds ≡ false
  pub labelled : mislabelled count v x.labels ≡ false
  pub at_most : length x.preds ≤ most_preds
  pub boarded : x.board ≤ most_board

fit_holds : (count : ℕ) (before : List Step) (x : Step) → StepFits count before x → StepHolds count (length before) x
fit_holds count before x f = record {
  linked = f.linked;
  labelled = f.labelled;
  at_most = (in_limits (length x.preds) (length before) (link_count before) f.limits).few;
  boarded = f.board;
}

pub hold_fits : (count : ℕ) (before : List Step) (x : Step) → StepHolds count (length before) x → length before < most_steps
    → link_count before + length x.preds ≤ most_links → StepFits count before x
hold_fits count before x h l m = record {
  board = h.boarded;
  linked = h.linked;
  labelled = h.labelled;
  limits = simp
      (le-ltb most_preds (length x.preds) h.at_most, lt-ltb (length before) most_steps l, le-ltb most_links (link_count before + length x.preds) m);
}

pub hold_at : {count : ℕ} {xs : List Step} → StepsFit count xs → (v : ℕ) → v < length xs → StepHolds count v (get_or xs v no_step)
hold_at none v l = absurd (omega arith)
hold_at {count} (more {xs} {x} f s) v l = go (ltb v (length xs)) refl (λ m. hold_at f v m)
  where
    go : (t : Bool) → ltb v (length xs) ≡ t → (v < length xs → StepHolds count v (get_or xs v no_step))
        → StepHolds count v (get_or (xs ++ (x ∷ [])) v no_step)
    go true e rest =
        let m = ltb-true v (length xs) e in
        subst (StepHolds count v) (sym (get_or-append xs (x ∷ []) no_step v m)) (rest m)
    go false e rest =
        let m = ltb-false v (length xs) e in
        let n = length-append xs (x ∷ []) in
        let z : length xs ≡ v = omega arith in
        subst (λ (w : ℕ). StepHolds count w (get_or (xs ++ (x ∷ [])) w no_step)) z
        (subst (StepHolds count (length xs)) (sym (get_or-append_seam xs x [] no_step)) (fit_holds count xs x s))

-- The steps of a log.
pub record Whole (count : ℕ) (xs : List Step) : Type 0 where
  pub some : 1 ≤ length xs
  pub fit : StepsFit count xs

pub accepted_whole : (count : ℕ) (text : List ℕ) (k : Known) → log_text count text ≡ accepted k → Whole count k.steps
accepted_whole count text k e =
    let f = accepted_fit count text k e in
    record { some = positive (length k.steps) f.1; fit = f.0 }
  where
    positive : (n : ℕ) → (n ≡ 0 → ⊥) → 1 ≤ n
    positive n h = omega arith
