-- Tests as Bools: what `||` and `&&` say, and the three ways to say that a test passes or fails.
use mathlib.Core.Path.{◌≡◌, refl, subst, ap, ◌∙◌}
use mathlib.Core.Logic.{◌⊎◌, inl, inr}
use mathlib.Core.Bool.{Bool, true, false, not, ◌&&◌, ◌||◌, and-eq-true_iff, and-false, or-false}
use lib.Dec.{T}

pub or_l : (a b : Bool) → T a → T (a || b)
or_l true b t = tt
or_l false b t = absurd t

pub or_r : (a b : Bool) → T b → T (a || b)
or_r true b t = tt
or_r false b t = t

pub or_cases : (a b : Bool) → T (a || b) → T a ⊎ T b
or_cases true b t = inl tt
or_cases false b t = inr t

pub and_i : (a b : Bool) → T a → T b → T (a && b)
and_i true b s t = t
and_i false b s t = absurd s

pub and_l : (a b : Bool) → T (a && b) → T a
and_l true b t = tt
and_l false b t = absurd t

pub and_r : (a b : Bool) → T (a && b) → T b
and_r true b t = t
and_r false b t = absurd t

-- the same with the values said
pub both_true : (a b : Bool) → (a && b) ≡ true → (a ≡ true) × (b ≡ true)
both_true a b e = (and-eq-true_iff a b).0 e

pub both_false : (a b : Bool) → (a || b) ≡ false → (a ≡ false) × (b ≡ false)
both_false true b e = absurd (subst T e tt)
both_false false b e = (refl, e)

-- a test of which one part fails adds nothing
pub or_none : (a b : Bool) → (a || (b && false)) ≡ a
or_none a b = ap (λ (t : Bool). a || t) (and-false b) ∙ or-false a

-- two tests that pass together are one
pub same : (a b : Bool) → (T a → T b) → (T b → T a) → a ≡ b
same true true f g = refl
same true false f g = absurd (f tt)
same false true f g = absurd (g tt)
same false false f g = refl

pub decide : (b : Bool) → T b ⊎ T (not b)
decide true = inl tt
decide false = inr tt

pub yes_true : (b : Bool) → T b → b ≡ true
yes_true true t = refl
yes_true false t = absurd t

pub true_yes : (b : Bool) → b ≡ true → T b
true_yes b e = rw e tt

pub no_false : (b : Bool) → (T b → ⊥) → b ≡ false
no_false true f = absurd (f tt)
no_false false f = refl

pub false_no : (b : Bool) → b ≡ false → T b → ⊥
false_no b e t = subst T e t
