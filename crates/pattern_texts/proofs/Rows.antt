-- What lists of rows say of a bead and of a state of it: by the first row that speaks of them, and by counting.
use Prim.Native.Nat.{ℕ, ◌+◌, ◌<◌}
use mathlib.Core.Path.{◌≡◌, refl, sym, ◌∙◌}
use mathlib.Core.Logic.{◌⊎◌, inl, inr}
use mathlib.Core.Bool.{Bool, true, false, cond}
use mathlib.Core.List.Memᴰ
use mathlib.Core.List.{List, [], ◌∷◌, ◌++◌, Memᴰ}
use native.Mathlib.Omega.{arith}
use borrow.Author.Tests.{eq-eqb, ne_eqb, eqb-true}
use lib.Dec.{eqb}
use lib.ListN.{get_or}
use Rattle.sets.proofs.Truth.{both_true}
use Rattle.pattern_order.specs.StateLine.{StateLine}
use Rattle.pattern_store.specs.Next.{states_of}
use Rattle.pattern_store.proofs.RowsLaws.{rule_append}
use Rattle.pattern_store.specs.Buffer.{rule_of_bead, is_at, accepting_of, next_of}

-- ---- how many states a bead has

pub states_nil : (β : ℕ) → states_of [] β ≡ 0
unfolding states_of
states_nil β = refl

pub states_append : (rs ss : List StateLine) (β : ℕ) → states_of (rs ++ ss) β ≡ states_of rs β + states_of ss β
unfolding states_of
states_append [] ss β = omega arith
states_append (r ∷ rs) ss β =
    let h = states_append rs ss β in
    let n : ℕ = cond (eqb r.bead β) 1 0 in
    omega arith

-- ---- the rule of a bead: that of its first row

pub rule_found : (rs ss : List StateLine) (β : ℕ) → 0 < states_of rs β → rule_of_bead (rs ++ ss) β ≡ rule_of_bead rs β
rule_found rs ss β h = rule_append rs ss β ∙ rw (ne_eqb (states_of rs β) 0 (λ z. omega arith))

-- ---- a state of a bead: its first row, or none

pub data Found (rs : List StateLine) (β q : ℕ) : Type 0 where
  found : (r : StateLine) → Memᴰ r rs → r.bead ≡ β → r.state ≡ q → accepting_of rs β q ≡ eqb r.accepting 1
      → ((a : ℕ) → next_of rs β q a ≡ get_or r.next a 0) → Found rs β q
  missing : ((r : StateLine) → Memᴰ r rs → r.bead ≡ β → r.state ≡ q → ⊥) → accepting_of rs β q ≡ false
      → ((a : ℕ) → next_of rs β q a ≡ 0) → Found rs β q

pub find : (rs : List StateLine) (β q : ℕ) → Found rs β q
unfolding accepting_of next_of
find [] β q = missing (λ r m e f. Memᴰ.not-nil m) refl (λ a. refl)
find (r ∷ rs) β q = go (is_at r β q) refl (find rs β q)
  where
    no_more : is_at r β q ≡ false → ((s : StateLine) → Memᴰ s rs → s.bead ≡ β → s.state ≡ q → ⊥)
        → (s : StateLine) → (s ≡ r) ⊎ Memᴰ s rs → s.bead ≡ β → s.state ≡ q → ⊥
    no_more e f s (inr m) p w = f s m p w
    no_more e f s (inl d) p w =
        let y : is_at r β q ≡ true = rw (← d) (simp (eq-eqb s.bead β p, eq-eqb s.state q w)) in
        let z : ◌≡◌ {A = Bool} false true = sym e ∙ y in
        let k : ◌≡◌ {A = ℕ} 0 1 = cc in
        omega arith

    go : (t : Bool) → is_at r β q ≡ t → Found rs β q → Found (r ∷ rs) β q
    go true e f =
        let w = both_true (eqb r.bead β) (eqb r.state q) e in
        found r (Memᴰ.head refl) (eqb-true r.bead β w.0) (eqb-true r.state q w.1) (rw e) (λ a. rw e)
    go false e (found s m p w x y) = found s (Memᴰ.tail m) p w (rw e x) (λ a. rw e (y a))
    go false e (missing f x y) = missing (λ s m p w. no_more e f s (Memᴰ.cases_cons m) p w) (rw e x) (λ a. rw e (y a))
