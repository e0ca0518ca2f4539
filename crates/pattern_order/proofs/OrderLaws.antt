-- The order of a line after the line before and its rule, as the code tests them.
-- Assumes nothing.
use mathlib.Core.Path.{◌≡◌, refl, sym, ap, ◌∙◌}
use mathlib.Core.Bool.{Bool, true, false, not, cond, ◌&&◌, ◌||◌, or-false}
use mathlib.Core.List.{List, [], ◌∷◌}
use Prim.Native.Nat.{ℕ, ◌+◌}
use native.Mathlib.Omega.{arith}
use borrow.Author.Tests.{eq-eqb, ne_eqb}
use lib.Dec.{eqb}
use Rattle.std.specs.Prelude.{Option, Some, None, Ok, Err}
use Rattle.rules.specs.Rules.{is_rule}
use Rattle.pattern_line.specs.Answers.{refusal}
use Rattle.pattern_line.specs.declared.refusals.Refusal.TheVariants.{Order, Rule as Misruled}
use Rattle.pattern_order.specs.StateLine.{StateLine, follows_last, breaks_turns, disordered, misruled}
use Rattle.pattern_order.specs.inner.Answers.{line_said, order_judged, order_said, row_for, rows_at}
use Rattle.pattern_order.specs.declared.LineValues.{LineValues}

not-not : (t : Bool) → not (not t) ≡ t
not-not true = refl
not-not false = refl

-- ---- the order

module _ (v : LineValues) (last : Option LineValues) where
  module _ (none : last ≡ None) where
    pub follows_first : v.bead ≡ 1 → eqb v.state 0 ≡ follows_last (rows_at last) (row_for v)
    unfolding follows_last
    follows_first e = sym (rw (none, e) refl)

    pub first_astray : (v.bead ≡ 1 → ⊥) → eqb v.bead 1 ≡ follows_last (rows_at last) (row_for v)
    unfolding follows_last
    first_astray n = sym (rw (none, ne_eqb v.bead 1 n) refl)

    pub turns_none : false ≡ breaks_turns (rows_at last) (row_for v)
    unfolding breaks_turns
    turns_none = sym (rw none refl)

  module _ (l : LineValues) (some : last ≡ Some l) where
    at_later : follows_last (rows_at last) (row_for v) ≡ ((eqb v.bead l.bead && eqb v.state (l.state + 1)) || (eqb v.bead (l.bead + 1) && eqb v.state 0))
    unfolding follows_last
    at_later = rw some refl

    pub follows_inside : v.bead ≡ l.bead → (s t : ℕ) → s ≡ v.state → t ≡ l.state → eqb s (t + 1) ≡ follows_last (rows_at last) (row_for v)
    follows_inside e s t p q =
        sym (at_later ∙ rw (p, q, eq-eqb v.bead l.bead e, ne_eqb v.bead (l.bead + 1) (λ q. let l = e in omega arith)) (or-false (eqb v.state (l.state + 1))))

    module _ (n : v.bead ≡ l.bead → ⊥) (b c : ℕ) (p : b ≡ v.bead) (q : c ≡ l.bead) where
      pub follows_next : b ≡ c + 1 → eqb v.state 0 ≡ follows_last (rows_at last) (row_for v)
      follows_next e = sym (at_later ∙ rw (ne_eqb v.bead l.bead n, eq-eqb v.bead (l.bead + 1) (omega arith)) refl)

      pub later_astray : (b ≡ c + 1 → ⊥) → eqb b (c + 1) ≡ follows_last (rows_at last) (row_for v)
      later_astray m = sym (at_later ∙ rw (p, q, ne_eqb v.bead l.bead n, ne_eqb v.bead (l.bead + 1) (λ e. m (omega arith))) refl)

    pub turns_inside : v.bead ≡ l.bead → not (eqb v.rule l.rule) ≡ breaks_turns (rows_at last) (row_for v)
    unfolding breaks_turns
    turns_inside e = sym (rw (some, eq-eqb v.bead l.bead e) refl)

    pub turns_next : (v.bead ≡ l.bead → ⊥) → eqb v.rule l.rule ≡ breaks_turns (rows_at last) (row_for v)
    unfolding breaks_turns
    turns_next n = sym (rw (some, ne_eqb v.bead l.bead n) refl)

pub ruleset follows_kit = (follows_first, first_astray, follows_inside, follows_next, later_astray)

pub ruleset turns_kit = (turns_none, turns_inside, turns_next)

-- ---- the values

module _ (v : LineValues) (before : List StateLine) where
  module _ (t : Bool) (g : t ≡ is_rule v.rule) where
    pub rule_missing : t ≡ false → t ≡ not (misruled before (row_for v))
    rule_missing e = sym (rw (sym g ∙ e) (sym e))

    pub rule_there : t ≡ true → (u : Bool) → u ≡ breaks_turns before (row_for v) → not u ≡ not (misruled before (row_for v))
    rule_there e u k = ap not (k ∙ sym (rw (sym g ∙ e) refl))

pub ruleset ruled_kit = (rule_missing, rule_there)

-- The answer in numbers is the one that the definition in numbers gives.
pub judged_said : (before : List StateLine) (v : LineValues) → line_said (order_judged before v) ≡ order_said before (row_for v)
unfolding order_judged order_said
judged_said before v = go (disordered before (row_for v)) (misruled before (row_for v))
  where
    go : (t u : Bool) → line_said (cond t (Err Order) (cond u (Err Misruled) (Ok v))) ≡ cond t (refusal 13) (cond u (refusal 14) (line_said (Ok v)))
    go true u = refl
    go false true = refl
    go false false = refl

module _ (before : List StateLine) (v : LineValues) (t : Bool) (g : t ≡ not (disordered before (row_for v))) where
  pub order_broken : not t ≡ true → Err Order ≡ order_judged before v
  unfolding order_judged
  order_broken e = sym (rw (sym (not-not (disordered before (row_for v))) ∙ ap not (sym g) ∙ e) refl)

  pub order_broken_said : not t ≡ true → refusal 13 ≡ order_said before (row_for v)
  order_broken_said e = ap line_said (order_broken e) ∙ judged_said before v

  module _ (e : not t ≡ false) (u : Bool) (k : u ≡ not (misruled before (row_for v))) where
    pub rule_broken : not u ≡ true → Err Misruled ≡ order_judged before v
    unfolding order_judged
    rule_broken f = sym (rw (sym (not-not (disordered before (row_for v))) ∙ ap not (sym g) ∙ e, sym (not-not (misruled before (row_for v))) ∙ ap not (sym k) ∙ f) refl)

    pub values_right : not u ≡ false → Ok v ≡ order_judged before v
    unfolding order_judged
    values_right f = sym (rw (sym (not-not (disordered before (row_for v))) ∙ ap not (sym g) ∙ e, sym (not-not (misruled before (row_for v))) ∙ ap not (sym k) ∙ f) refl)

    pub rule_broken_said : not u ≡ true → refusal 14 ≡ order_said before (row_for v)
    rule_broken_said f = ap line_said (rule_broken f) ∙ judged_said before v

    pub values_right_said : not u ≡ false → line_said (Ok v) ≡ order_said before (row_for v)
    values_right_said f = ap line_said (values_right f) ∙ judged_said before v

pub ruleset values_kit = (order_broken, rule_broken, values_right, order_broken_said, rule_broken_said, values_right_said)

-- ---- the next sets left out

-- 13 and 14 do not look at the next sets.
follows_values : (rows : List StateLine) (r s : StateLine) → r.bead ≡ s.bead → r.state ≡ s.state → follows_last rows r ≡ follows_last rows s
unfolding follows_last
follows_values [] r s b q = rw (b, q) refl
follows_values (p ∷ []) r s b q = rw (b, q) refl
follows_values (p ∷ (o ∷ ps)) r s b q = follows_values (o ∷ ps) r s b q

turns_values : (rows : List StateLine) (r s : StateLine) → r.bead ≡ s.bead → r.rule ≡ s.rule → breaks_turns rows r ≡ breaks_turns rows s
unfolding breaks_turns
turns_values [] r s b q = refl
turns_values (p ∷ []) r s b q = rw (b, q) refl
turns_values (p ∷ (o ∷ ps)) r s b q = turns_values (o ∷ ps) r s b q

pub order_values : (rows : List StateLine) (r s : StateLine) → r.bead ≡ s.bead → r.rule ≡ s.rule → r.state ≡ s.state → r.accepting ≡ s.accepting
    → (disordered rows r ≡ disordered rows s) × (misruled rows r ≡ misruled rows s)
order_values rows r s b u q f = (rw (follows_values rows r s b q, b, q, f) refl, rw (turns_values rows r s b u, u) refl)

pub said_values : (rows : List StateLine) (v : LineValues) (s : StateLine) → v.bead ≡ s.bead → v.rule ≡ s.rule → v.state ≡ s.state → v.accepting ≡ s.accepting
    → order_said rows (row_for v) ≡ order_said rows s
unfolding order_said
said_values rows v s b u q f = let o = order_values rows (row_for v) s b u q f in rw (o.0, o.1, b, u, q, f) refl
