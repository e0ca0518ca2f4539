-- The wall chart, entry by entry 2 to the state, by one computed test over the whole of it; and the leaf that answers by it: a case is
-- ticked off against the chart, and no number below 16 is left for the last arm.
-- Assumes nothing.
use Prim.Native.Nat.{ℕ, ◌^◌, ◌≤◌, ◌<◌}
use mathlib.Core.Path.{◌≡◌, refl, sym, ap, ◌∙◌}
use mathlib.Core.Bool.{Bool, true}
use native.Mathlib.Omega.{arith}
use lib.Dec.{T, eqb, ltb, eqb→eq, ltb→lt}
use lib.ListN.{length, get_or}
use Rattle.sets.specs.Sets.{singleton, all_below}
use Rattle.sets.specs.Chart.{chart}
use Rattle.sets.proofs.Truth.{true_yes}
use Rattle.sets.proofs.Below.{all_out}

pub chart_length : length chart ≡ 16
chart_length = refl

abbrev power : ℕ → Bool
power i = eqb (get_or chart i 0) (2 ^ i)

computed : all_below 16 power ≡ true
unfolding all_below
computed = refl

pub chart_powers : (i : ℕ) → i < 16 → get_or chart i 0 ≡ 2 ^ i
chart_powers i h = eqb→eq (get_or chart i 0) (2 ^ i) (all_out 16 power (true_yes (all_below 16 power) computed) i h)

-- what the leaf answers is the chart's entry
pub chart_is_code : (i r : ℕ) → i < 16 → r ≡ singleton i → r ≡ get_or chart i 0
chart_is_code i r h e = e ∙ sym (chart_powers i h)

-- a case of the leaf: its value is the chart's for its state
pub case_is : (i k r : ℕ) → i ≡ k → T (ltb k 16) → T (eqb r (get_or chart k 0)) → r ≡ singleton i
case_is i k r e h t = eqb→eq r (get_or chart k 0) t ∙ chart_powers k (ltb→lt k 16 h) ∙ ap (λ (j : ℕ). 2 ^ j) (sym e)

-- where i is at least k and is not k, it is more
infixl 30 ◌past◌
◌past◌ : {k i : ℕ} → k ≤ i → (i ≡ k → ⊥) → k < i
l past n = omega arith

-- the arm behind the sixteen cases: no number below 16 is left for it
pub none_left : (i r : ℕ) → i < 16 → (i ≡ 0 → ⊥) → (i ≡ 1 → ⊥) → (i ≡ 2 → ⊥) → (i ≡ 3 → ⊥) → (i ≡ 4 → ⊥) → (i ≡ 5 → ⊥) → (i ≡ 6 → ⊥) → (i ≡ 7 → ⊥)
    → (i ≡ 8 → ⊥) → (i ≡ 9 → ⊥) → (i ≡ 10 → ⊥) → (i ≡ 11 → ⊥) → (i ≡ 12 → ⊥) → (i ≡ 13 → ⊥) → (i ≡ 14 → ⊥) → (i ≡ 15 → ⊥) → r ≡ singleton i
none_left i r h n0 n1 n2 n3 n4 n5 n6 n7 n8 n9 n10 n11 n12 n13 n14 n15 =
    let start : 0 ≤ i = omega arith in
    let end : 16 ≤ i = start past n0 past n1 past n2 past n3 past n4 past n5 past n6 past n7 past n8 past n9 past n10 past n11 past n12 past n13 past n14 past n15 in
    absurd (omega arith)

pub ruleset chart_kit = (case_is, none_left)
