-- The tests of a line below the header, after rows in order: they pass if and only if the row follows the last one and fits.
use Prim.Native.Nat.{ℕ, ◌+◌, ◌<◌}
use mathlib.Core.Path.{◌≡◌, refl, sym, ◌∙◌}
use mathlib.Core.Logic.{◌⊎◌, inl, inr}
use mathlib.Core.Bool.{Bool, true, false, not, cond, ◌&&◌, ◌||◌}
use mathlib.Core.List.{List, [], ◌∷◌, ◌++◌}
use native.Mathlib.Omega.{arith}
use borrow.Author.Tests.{eq-eqb, ne_eqb, lt-ltb, le-ltb, eqb-true, eqb-false, ltb-true, ltb-false, not-false}
use lib.Dec.{T, eqb, ltb}
use lib.ListN.{length, get_or, drop, length-drop, length-map}
use Rattle.rules.specs.Rules.{is_rule}
use Rattle.sets.proofs.Truth.{yes_true, true_yes, both_true, both_false}
use Rattle.rules.proofs.RuleLaws.{rule_not_0}
use Rattle.numbers.specs.Numbers.{is_number, value_of}
use Rattle.layout.specs.Layout.{most_beads, most_states}
use Rattle.pattern_order.specs.StateLine.{StateLine, follows_last, disordered, breaks_turns, misruled}
use Rattle.pattern_row.specs.Fields.{row_of, malformed}
use Rattle.numbers.specs.Listed.{are_numbers}
use Rattle.pattern_texts.proofs.Ordered.{Follows, same_bead, next_bead, Fits, Ordered, start, more, bead_positive}

-- ---- tests as Bools

one_true : (a b : Bool) → (a || b) ≡ true → (a ≡ true) ⊎ (b ≡ true)
one_true true b e = inl refl
one_true false b e = inr e

-- ---- after a last row

abbrev step : StateLine → StateLine → Bool
step p r = (eqb r.bead p.bead && eqb r.state (p.state + 1)) || (eqb r.bead (p.bead + 1) && eqb r.state 0)

abbrev breaks : StateLine → StateLine → Bool
breaks p r = cond (eqb r.bead p.bead) (not (eqb r.rule p.rule)) (eqb r.rule p.rule)

follows_snoc : (rs : List StateLine) (p r : StateLine) → follows_last (rs ++ (p ∷ [])) r ≡ step p r
unfolding follows_last
follows_snoc [] p r = refl
follows_snoc (x ∷ []) p r = refl
follows_snoc (x ∷ (y ∷ ys)) p r = follows_snoc (y ∷ ys) p r

breaks_snoc : (rs : List StateLine) (p r : StateLine) → breaks_turns (rs ++ (p ∷ [])) r ≡ breaks p r
unfolding breaks_turns
breaks_snoc [] p r = refl
breaks_snoc (x ∷ []) p r = refl
breaks_snoc (x ∷ (y ∷ ys)) p r = breaks_snoc (y ∷ ys) p r

follows_first : (r : StateLine) → follows_last [] r ≡ (eqb r.bead 1 && eqb r.state 0)
unfolding follows_last
follows_first r = refl

breaks_first : (r : StateLine) → breaks_turns [] r ≡ false
unfolding breaks_turns
breaks_first r = refl

-- ---- what the tests say

step_out : (p r : StateLine) → 0 < p.bead → step p r ≡ true → breaks p r ≡ false → Follows p r
step_out p r h s b = go (one_true inside next s)
  where
    inside : Bool
    inside = eqb r.bead p.bead && eqb r.state (p.state + 1)

    next : Bool
    next = eqb r.bead (p.bead + 1) && eqb r.state 0

    go : (inside ≡ true) ⊎ (next ≡ true) → Follows p r
    go (inl e) =
        let w = both_true (eqb r.bead p.bead) (eqb r.state (p.state + 1)) e in
        let k : not (eqb r.rule p.rule) ≡ false = rw w.0 at b in
        same_bead h (eqb-true r.bead p.bead w.0) (eqb-true r.state (p.state + 1) w.1)
        (eqb-true r.rule p.rule (not-false (eqb r.rule p.rule) k))
    go (inr e) =
        let w = both_true (eqb r.bead (p.bead + 1)) (eqb r.state 0) e in
        let d = eqb-true r.bead (p.bead + 1) w.0 in
        let k : eqb r.rule p.rule ≡ false = rw (ne_eqb r.bead p.bead (λ z. omega arith)) at b in
        next_bead d (eqb-true r.state 0 w.1) (eqb-false r.rule p.rule k)

step_in : (p r : StateLine) → Follows p r → (step p r ≡ true) × (breaks p r ≡ false)
step_in p r (same_bead h e q u) =
    (simp (eq-eqb r.bead p.bead e, eq-eqb r.state (p.state + 1) q), simp (eq-eqb r.bead p.bead e, eq-eqb r.rule p.rule u))
step_in p r (next_bead e q u) =
    let n : eqb r.bead p.bead ≡ false = ne_eqb r.bead p.bead (λ z. omega arith) in
    (simp (n, eq-eqb r.bead (p.bead + 1) e, eq-eqb r.state 0 q), simp (n, ne_eqb r.rule p.rule u))

pub follows_out : {c : ℕ} {rs : List StateLine} {p : StateLine} → Ordered c rs p → (r : StateLine) → T (is_rule r.rule) → follows_last rs r ≡ true → breaks_turns rs r ≡ false
    → Follows p r
follows_out start r h s b =
    let w = both_true (eqb r.bead 1) (eqb r.state 0) (sym (follows_first r) ∙ s) in
    next_bead (eqb-true r.bead 1 w.0) (eqb-true r.state 0 w.1) (rule_not_0 r.rule h)
follows_out (more {rs = rs} p o f l) r h s b =
    step_out p r (bead_positive f) (sym (follows_snoc rs p r) ∙ s) (sym (breaks_snoc rs p r) ∙ b)

pub follows_in : {c : ℕ} {rs : List StateLine} {p : StateLine} → Ordered c rs p → (r : StateLine) → Follows p r → (follows_last rs r ≡ true) × (breaks_turns rs r ≡ false)
follows_in start r (same_bead h e q u) = absurd (omega arith)
follows_in start r (next_bead e q u) = (follows_first r ∙ simp (eq-eqb r.bead 1 e, eq-eqb r.state 0 q), breaks_first r)
follows_in (more {rs = rs} p o f l) r g = let w = step_in p r g in (follows_snoc rs p r ∙ w.0, breaks_snoc rs p r ∙ w.1)

-- ---- the tests of 13 and 14, after rows in order

pub row_out : {c : ℕ} {rs : List StateLine} {p : StateLine} → Ordered c rs p → (r : StateLine) → length r.next ≡ c → disordered rs r ≡ false
    → misruled rs r ≡ false → Follows p r × Fits c r
row_out {c} {rs} {p} o r k d m =
    let d1 = both_false (not (follows_last rs r)) (ltb most_beads r.bead || (not (ltb r.state most_states) || ltb 1 r.accepting)) d in
    let d2 = both_false (ltb most_beads r.bead) (not (ltb r.state most_states) || ltb 1 r.accepting) d1.1 in
    let d3 = both_false (not (ltb r.state most_states)) (ltb 1 r.accepting) d2.1 in
    let m1 = both_false (not (is_rule r.rule)) (breaks_turns rs r) m in
    let known : T (is_rule r.rule) = true_yes (is_rule r.rule) (not-false (is_rule r.rule) m1.0) in (
      follows_out o r known (not-false (follows_last rs r) d1.0) m1.1,
      record {
        bead_most = ltb-false most_beads r.bead d2.0;
        state_most = ltb-true r.state most_states (not-false (ltb r.state most_states) d3.0);
        accepting_most = ltb-false 1 r.accepting d3.1;
        rule_known = known;
        labelled = k;
      },
    )

pub row_in_order : {c : ℕ} {rs : List StateLine} {p : StateLine} → Ordered c rs p → (r : StateLine) → Follows p r → Fits c r
    → (disordered rs r ≡ false) × (misruled rs r ≡ false)
row_in_order {c} {rs} {p} o r f l =
    let w = follows_in o r f in (
      simp (
        w.0,
        le-ltb most_beads r.bead l.bead_most,
        lt-ltb r.state most_states l.state_most,
        le-ltb 1 r.accepting l.accepting_most,
      ),
      simp (yes_true (is_rule r.rule) l.rule_known, w.1),
    )

-- ---- the row that a line's fields give

pub labelled_out : (c : ℕ) (fs : List (List ℕ)) → malformed c fs ≡ false → length (row_of fs).next ≡ c
labelled_out c fs m =
    let w = both_false (not (eqb (length fs) (4 + c)))
    (not (is_number (get_or fs 0 []) && (is_number (get_or fs 2 []) && (is_number (get_or fs 3 []) && are_numbers (drop 4 fs))))) m
    in
    let e : length fs ≡ 4 + c = eqb-true (length fs) (4 + c) (not-false (eqb (length fs) (4 + c)) w.0) in
    length-map (drop 4 fs) value_of ∙ length-drop 4 fs ∙ omega arith
