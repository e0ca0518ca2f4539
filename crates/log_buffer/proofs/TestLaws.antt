-- What the tests of a buffer's links say.
-- Assumes nothing.
use Prim.Native.Nat.{ℕ, zero, suc, ◌+◌, ◌-◌, ◌≤◌, ◌<◌}
use mathlib.Core.Path.{◌≡◌, refl, sym, ap, ◌∙◌, subst}
use mathlib.Core.Logic.{◌⊎◌, inl, inr}
use mathlib.Core.Bool.{Bool, true, false, cond, ◌&&◌}
use mathlib.Core.List.{List}
use native.Mathlib.Omega.{arith}
use borrow.Author.Tests.{lt-ltb, ltb-false}
use lib.Dec.{T, ltb, leb, eqb, ltb→lt, eqb→eq}
use Rattle.lists.specs.Places.{at}
use Rattle.sets.specs.Sets.{all_below}
use Rattle.sets.proofs.Truth.{same, and_l, or_l, or_r, or_cases, true_yes}
use Rattle.sets.proofs.Below.{all_out, all_in}
use Rattle.layout.specs.Layout.{most_steps, most_links, most_preds, begin_at, link_at}
use Rattle.log_buffer.specs.Meaning.{steps_in}
use Rattle.log_buffer.specs.Valid.{begin_ok, link_ok, links_ok, rest_ok}

-- ---- the links of a step

abbrev pub links : List ℕ → ℕ → ℕ → Bool
links b v k = link_ok b v (at b (begin_at v) + k)

pub links_told : (b : List ℕ) (v s e : ℕ) (r : Bool) → s ≡ at b (begin_at v) → e ≡ at b (begin_at (v + 1)) → v < steps_in b
    → r ≡ all_below (e - s) (λ k. link_ok b v (s + k)) → r ≡ links_ok b v
links_told b v s e r p q h told = told ∙ ap (λ (n : ℕ × ℕ). all_below (n.0 - n.1) (λ k. link_ok b v (n.1 + k))) (λ i. (q i, p i)) ∙ sym (simp (lt-ltb v (steps_in b) h))

-- ---- the links of all steps: their places are inside

-- A function that never falls between two neighbours never falls.
pub rises : (f : ℕ → ℕ) (n : ℕ) → ((v : ℕ) → v < n → f v ≤ f (v + 1)) → (d v : ℕ) → v + d ≤ n → f v ≤ f (v + d)
rises f n up zero v h = let z : v ≡ v + 0 = omega arith in let e = ap f z in omega arith
rises f n up (suc d) v h =
    let k = rises f n up d v (omega arith) in
    let m = up (v + d) (omega arith) in
    let z : v + suc d ≡ v + d + 1 = omega arith in
    let e = ap f z in
    omega arith

pub begin_up : (b : List ℕ) (v : ℕ) → v < steps_in b → T (begin_ok b v) → at b (begin_at v) ≤ at b (begin_at (v + 1))
begin_up b v h t = go (eqb v 0) (simp (lt-ltb v (steps_in b) h) at t)
  where
    go : (z : Bool) → T (cond z (eqb (at b (begin_at (v + 1))) (at b (begin_at v)))
        (ltb (at b (begin_at v)) (at b (begin_at (v + 1))) && leb (at b (begin_at (v + 1))) (at b (begin_at v) + most_preds)))
        → at b (begin_at v) ≤ at b (begin_at (v + 1))
    go true u = let e = eqb→eq (at b (begin_at (v + 1))) (at b (begin_at v)) u in omega arith
    go false u =
        let l = ltb→lt (at b (begin_at v)) (at b (begin_at (v + 1)))
        (and_l (ltb (at b (begin_at v)) (at b (begin_at (v + 1)))) (leb (at b (begin_at (v + 1))) (at b (begin_at v) + most_preds)) u) in
        omega arith

pub begin_in : (b : List ℕ) (v : ℕ) → steps_in b ≤ most_steps → all_below most_steps (begin_ok b) ≡ true → at b (begin_at (steps_in b)) ≤ most_links → v < steps_in b
    → at b (begin_at (v + 1)) ≤ most_links
begin_in b v few t most h =
    let each = all_out most_steps (begin_ok b) (true_yes (all_below most_steps (begin_ok b)) t) in
    let up : (w : ℕ) → w < steps_in b → at b (begin_at w) ≤ at b (begin_at (w + 1)) = λ w l. begin_up b w l (each w (omega arith)) in
    let d : ℕ = steps_in b - (v + 1) in
    let k = rises (λ w. at b (begin_at w)) (steps_in b) up d (v + 1) (omega arith) in
    let z : v + 1 + d ≡ steps_in b = omega arith in
    let e = ap (λ (w : ℕ). at b (begin_at w)) z in
    omega arith

-- ---- the places past the last link

pub rest_told : (b : List ℕ) (t : ℕ) (r : Bool) → t ≡ at b (begin_at (steps_in b)) → t ≤ most_links
    → r ≡ all_below (most_links - t) (λ k. eqb (at b (link_at (t + k))) 0) → r ≡ all_below most_links (rest_ok b)
rest_told b t r e few told = told ∙ same (all_below (most_links - t) zeros) (all_below most_links (rest_ok b)) forth back
  where
    zeros : ℕ → Bool
    zeros k = eqb (at b (link_at (t + k))) 0

    unused : ℕ → Bool
    unused i = eqb (at b (link_at i)) 0

    forth : T (all_below (most_links - t) zeros) → T (all_below most_links (rest_ok b))
    forth a = all_in most_links (rest_ok b) (λ i l. go i l (ltb i (at b (begin_at (steps_in b)))) refl)
      where
        go : (i : ℕ) → i < most_links → (c : Bool) → ltb i (at b (begin_at (steps_in b))) ≡ c → T (rest_ok b i)
        go i l true q = or_l (ltb i (at b (begin_at (steps_in b)))) (unused i) (true_yes (ltb i (at b (begin_at (steps_in b)))) q)
        go i l false q =
            let h = ltb-false i (at b (begin_at (steps_in b))) q in
            let z : t + (i - t) ≡ i = omega arith in
            or_r (ltb i (at b (begin_at (steps_in b)))) (unused i)
            (subst (λ (n : ℕ). T (unused n)) z (all_out (most_links - t) zeros a (i - t) (omega arith)))

    back : T (all_below most_links (rest_ok b)) → T (all_below (most_links - t) zeros)
    back a = all_in (most_links - t) zeros (λ k l. pick k (or_cases (ltb (t + k) (at b (begin_at (steps_in b)))) (unused (t + k)) (all_out most_links (rest_ok b) a (t + k) (omega arith))))
      where
        pick : (k : ℕ) → T (ltb (t + k) (at b (begin_at (steps_in b)))) ⊎ T (unused (t + k)) → T (zeros k)
        pick k (inl x) = let h = ltb→lt (t + k) (at b (begin_at (steps_in b))) x in absurd (omega arith)
        pick k (inr y) = y
