-- The last step to which each step has a link, link by link and step by step.
use Prim.Native.Nat.{ℕ, ◌+◌, ◌≤◌, ◌<◌}
use mathlib.Core.Path.{◌≡◌, refl, sym, ap, ◌∙◌, subst}
use mathlib.Core.Bool.{Bool, true, false, cond, ◌||◌, or-false, or-true, or_assoc}
use mathlib.Core.List.{List, [], ◌∷◌, ◌++◌}
use native.Mathlib.Decide.{ℕ_discrete}
use native.Mathlib.Numerals.{add-one}
use native.Mathlib.Omega.{arith}
use borrow.Author.Tests.{eq-eqb, ne_eqb}
use lib.Dec.{eqb}
use lib.ListN.{length, get_or, set, take, replicate}
use lib.Seq.{get_or-set_same, get_or-set_other, take_all, take-suc}
use Rattle.lists.proofs.Tables.{zeros_at}
use Rattle.sets.specs.Sets.{◌∈◌}
use Rattle.sets.proofs.Truth.{yes_true}
use Rattle.necklace.specs.Compute.{elem}
use Rattle.necklace.proofs.Lists.{elem_in}
use Rattle.layout.specs.Layout.{most_steps}
use Rattle.log_buffer.specs.Meaning.{steps_in, links_into}
use Rattle.log_links.specs.Links.{Laid, Inside, Noted, LastTo}

-- ---- listed steps

elem_last : (w u : ℕ) (ls : List ℕ) → elem w (ls ++ (u ∷ [])) ≡ (elem w ls || eqb w u)
elem_last w u [] = or-false (eqb w u)
elem_last w u (x ∷ ls) = ap (λ (b : Bool). eqb w x || b) (elem_last w u ls) ∙ sym (or_assoc (eqb w x) (elem w ls) (eqb w u))

noted_more : (ls : List ℕ) (u v : ℕ) (old l : List ℕ) → Noted ls v old l → u < length l → Noted (ls ++ (u ∷ [])) v old (set l u v)
noted_more ls u v old l p h = record { numbers = λ w. at_last w (ℕ_discrete w u) }
  where
    at_last : (w : ℕ) → Dec (w ≡ u) → get_or (set l u v) w 0 ≡ cond (elem w (ls ++ (u ∷ []))) v (get_or old w 0)
    at_last w (yes z) =
        let last : elem w (ls ++ (u ∷ [])) ≡ true = elem_last w u ls ∙ ap (λ (b : Bool). elem w ls || b) (eq-eqb w u z) ∙ or-true (elem w ls) in
        rw last (ap (λ (i : ℕ). get_or (set l u v) i 0) z ∙ get_or-set_same l u v 0 h)
    at_last w (no n) =
        let last : elem w (ls ++ (u ∷ [])) ≡ elem w ls = elem_last w u ls ∙ ap (λ (b : Bool). elem w ls || b) (ne_eqb w u n) ∙ or-false (elem w ls) in
        rw last (get_or-set_other l u w v 0 n ∙ p.numbers w)

pub note_none : (links : List ℕ) (v : ℕ) (l : List ℕ) → Noted (take 0 links) v l l
note_none links v l = record { numbers = λ w. refl }

pub note_end : (links : List ℕ) (i v : ℕ) (old l : List ℕ) → length links ≤ i → Noted (take i links) v old l → Noted links v old l
note_end links i v old l h p = rw (take_all i links h) at p

pub note_more : (links : List ℕ) (i u v : ℕ) (old l : List ℕ) → i < length links → u ≡ get_or links i 0 → Inside (length old) links
    → length l ≡ length old → Noted (take i links) v old l → Noted (take (i + 1) links) v old (set l u v)
note_more links i u v old l h link inside same p =
    let more : take (i + 1) links ≡ take i links ++ (u ∷ []) =
    ap (λ (j : ℕ). take j links) (add-one i) ∙ take-suc links i 0 h ∙ ap (λ (y : ℕ). take i links ++ (y ∷ [])) (sym link) in
    rw more (noted_more (take i links) u v old l p (let k = inside.below i h in omega arith))

pub ruleset note_kit = (note_none, note_end, note_more)

-- ---- a step, and all steps

pub last_none : (log old l : List ℕ) → Laid log → l ≡ replicate (length old) 0 → LastTo log 0 l
last_none log old l laid e = record {
  far = λ u v h m. absurd (omega arith);
  inside = λ u. let s = laid.some in let z : get_or l u 0 ≡ 0 = ap (λ (k : List ℕ). get_or k u 0) e ∙ zeros_at (length old) u in omega arith;
}

pub last_more : (log : List ℕ) (x : ℕ) (links old l : List ℕ) → links ≡ links_into log x → x < steps_in log → Noted links x old l → LastTo log x old
    → LastTo log (x + 1) l
last_more log x links old l e h made d = record { far = λ u v k m. far u v k m (ℕ_discrete v x); inside = λ u. inside u (elem u (links_into log x)) (p.numbers u) }
  where
    p : Noted (links_into log x) x old l
    p = rw e at made

    inside : (u : ℕ) (b : Bool) → get_or l u 0 ≡ cond b x (get_or old u 0) → get_or l u 0 < steps_in log
    inside u true e = omega arith
    inside u false e = let k = d.inside u in omega arith

    later : (u v : ℕ) → v < x → v ≤ get_or old u 0 → (b : Bool) → get_or l u 0 ≡ cond b x (get_or old u 0) → v ≤ get_or l u 0
    later u v k g true e = omega arith
    later u v k g false e = omega arith

    far : (u v : ℕ) → v < x + 1 → u ∈ links_into log v → Dec (v ≡ x) → v ≤ get_or l u 0
    far u v k m (yes z) =
        let t : elem u (links_into log x) ≡ true = yes_true (elem u (links_into log x)) (elem_in u (links_into log x) (subst (λ (i : ℕ). u ∈ links_into log i) z m)) in
        let e : get_or l u 0 ≡ x = p.numbers u ∙ ap (λ (b : Bool). cond b x (get_or old u 0)) t in
        omega arith
    far u v k m (no n) = let j : v < x = below k n in later u v j (d.far u v j m) (elem u (links_into log x)) (p.numbers u)
      where
        below : v < x + 1 → (v ≡ x → ⊥) → v < x
        below k n = omega arith

pub last_end : (log : List ℕ) (n x : ℕ) (l : List ℕ) → n ≡ steps_in log → n ≤ x → LastTo log x l → LastTo log (steps_in log) l
last_end log n x l e h d = record { far = λ u v k m. d.far u v (omega arith) m; inside = d.inside }

pub links_within : (links l : List ℕ) → Inside most_steps links → most_steps ≤ length l → Inside (length l) links
links_within links l p long = record { below = λ i k. let s = p.below i k in omega arith }

pub ruleset last_kit = (last_none, last_more, last_end, links_within)
