-- Starting steps, step by step.
use Prim.Native.Nat.{ℕ, ◌+◌, ◌≤◌, ◌<◌, min}
use mathlib.Core.Path.{◌≡◌, refl, sym, ap, ◌∙◌, subst}
use mathlib.Core.Logic.{◌⊎◌, inl, inr}
use mathlib.Core.Bool.{Bool, true, false, cond}
use mathlib.Core.List.{List}
use native.Mathlib.Decide.{ℕ_discrete}
use native.Mathlib.Omega.{arith}
use lib.Dec.{T, eqb→eq, eqb_refl}
use lib.ListN.{length, get_or, set}
use lib.Seq.{get_or-set_same, get_or-set_other}
use Rattle.std.proofs.lemmas.List.{length-set}
use Rattle.sets.specs.Sets.{member, singleton}
use Rattle.sets.proofs.Truth.{yes_true, true_yes, false_no}
use Rattle.sets.proofs.Bits.{member_empty}
use Rattle.sets.proofs.Laws.{member-singleton}
use Rattle.layout.specs.Layout.{most_lanes, most_steps}
use Rattle.starts.specs.Starts.{Seeded, StartsOf, Looked}

-- ---- one step

pub give_yes : (u lane x : ℕ) (b : Bool) (l : List ℕ) → x ≡ singleton lane → b ≡ true → set l u x ≡ set l u (cond b (singleton lane) 0)
give_yes u lane x b l e y = rw (y, e) refl

pub give_no : (u lane : ℕ) (b : Bool) (l : List ℕ) → b ≡ false → set l u 0 ≡ set l u (cond b (singleton lane) 0)
give_no u lane b l n = rw n refl

pub ruleset give_kit = (give_yes, give_no)

below_next : (w u : ℕ) → w < u + 1 → (w ≡ u → ⊥) → w < u
below_next w u h n = omega arith

-- a place of a room, by the room after it was written
pub written : (old new : List ℕ) (u x : ℕ) → u < most_steps → most_steps ≤ length new → new ≡ set old u x → u < length old
written old new u x h l e = omega (arith, ap length e, length-set old u x)

-- The step w has the lane i: it is the step looked at and has been given the lane, or it had it before.
abbrev pub Has : (u lane : ℕ) (b : Bool) (old : List ℕ) (i w : ℕ) → Type 0
Has u lane b old i w = ((w ≡ u) × (i ≡ lane) × (b ≡ true)) ⊎ ((w < u) × T (member i (get_or old w 0)))

module _ (u lane : ℕ) (b : Bool) (old new : List ℕ) (inside : u < length old) (e : new ≡ set old u (cond b (singleton lane) 0)) where
  own_seed : (w : ℕ) → w ≡ u → get_or new w 0 ≡ cond b (singleton lane) 0
  own_seed w z = ap (λ (k : ℕ). get_or new k 0) z ∙ ap (λ (l : List ℕ). get_or l u 0) e ∙ get_or-set_same old u (cond b (singleton lane) 0) 0 inside

  other_seed : (w : ℕ) → (w ≡ u → ⊥) → get_or new w 0 ≡ get_or old w 0
  other_seed w n = ap (λ (l : List ℕ). get_or l w 0) e ∙ get_or-set_other old u w (cond b (singleton lane) 0) 0 n

  pub has : (i w : ℕ) → w < u + 1 → T (member i (get_or new w 0)) → Has u lane b old i w
  has i w h m = go (ℕ_discrete w u)
    where
      lane_is : (c : Bool) → T (member i (cond c (singleton lane) 0)) → (i ≡ lane) × (c ≡ true)
      lane_is true t = (eqb→eq i lane (subst T (member-singleton i lane) t), refl)
      lane_is false t = absurd (false_no (member i 0) (member_empty i) t)

      go : Dec (w ≡ u) → Has u lane b old i w
      go (yes z) = let r = lane_is b (subst (λ (s : ℕ). T (member i s)) (own_seed w z) m) in inl (z, r.0, r.1)
      go (no n) = inr (below_next w u h n, subst (λ (s : ℕ). T (member i s)) (other_seed w n) m)

-- ---- one more step

module _ (f : ℕ → Bool) (from first until u lane : ℕ) (b : Bool) (old new : List ℕ) (d : Looked f from first until u old) (up : from ≤ u) (free : lane < most_lanes)
    (inside : u < most_steps) (long : most_steps ≤ length new) (test : b ≡ f u) (e : new ≡ set old u (cond b (singleton lane) 0)) where
  here : u < length old
  here = written old new u (cond b (singleton lane) 0) inside long e

  which : (i w : ℕ) → w < u + 1 → T (member i (get_or new w 0)) → Has u lane b old i w
  which i w h m = has u lane b old new here e i w h m

  seeded : Seeded f from (u + 1) new
  seeded = record { covers = λ w l h t. covers w l h t (ℕ_discrete w u); only = λ i w l h m. only i w l (which i w h m) }
    where
      covers : (w : ℕ) → from ≤ w → w < u + 1 → T (f w) → Dec (w ≡ u) → (i : ℕ) × (i < most_lanes) × T (member i (get_or new w 0))
      covers w l h t (yes z) =
          let y : b ≡ true = test ∙ ap f (sym z) ∙ yes_true (f w) t in
          let s : get_or new w 0 ≡ singleton lane = own_seed u lane b old new here e w z ∙ ap (λ (c : Bool). cond c (singleton lane) 0) y in
          (lane, free, subst (λ (k : ℕ). T (member lane k)) (sym s) (subst T (sym (member-singleton lane lane)) (eqb_refl lane)))
      covers w l h t (no n) =
          let r = d.seeded.covers w l (below_next w u h n) t in
          (r.0, r.1, subst (λ (s : ℕ). T (member r.0 s)) (sym (other_seed u lane b old new here e w n)) r.2)

      only : (i w : ℕ) → from ≤ w → Has u lane b old i w → T (f w)
      only i w l (inl p) = true_yes (f w) (ap f p.0 ∙ sym test ∙ p.2)
      only i w l (inr p) = d.seeded.only i w l p.0 p.1

  pub looked_yes : (next : ℕ) → next ≡ min first u → Looked f from next (u + 1) (u + 1) new
  looked_yes next m = record { begin = let k = d.begin in omega arith; end = omega arith; seeded = seeded; between = λ i w l h t. between i w l (which i w h t) }
    where
      between : (i w : ℕ) → from ≤ w → Has u lane b old i w → (next ≤ w) × (w < u + 1)
      between i w l (inl p) = let z = p.0 in (omega arith, omega arith)
      between i w l (inr p) = let o = d.between i w l p.0 p.1 in let q = p.0 in (omega arith, omega arith)

  pub looked_no : b ≡ false → Looked f from first until (u + 1) new
  looked_no n = record { begin = d.begin; end = let k = d.end in omega arith; seeded = seeded; between = λ i w l h t. between i w l (which i w h t) }
    where
      between : (i w : ℕ) → from ≤ w → Has u lane b old i w → (first ≤ w) × (w < until)
      between i w l (inl p) = let z : true ≡ false = sym p.2 ∙ n in cc
      between i w l (inr p) = d.between i w l p.0 p.1

-- ---- the loop

pub looked_none : (f : ℕ → Bool) (from n : ℕ) (l : List ℕ) → from < n → Looked f from n from from l
looked_none f from n l some = record {
  begin = omega arith;
  end = omega arith;
  seeded = record { covers = λ u h k t. absurd (omega arith); only = λ i u h k m. absurd (omega arith) };
  between = λ i u h k m. absurd (omega arith);
}

pub starts_end : (f : ℕ → Bool) (from n first until u : ℕ) (l : List ℕ) → from < n → n ≤ u → u ≤ n → Looked f from first until u l
    → StartsOf f from n (record { first = first; until = until; to = n }) l
starts_end f from n first until u l some h k looked =
    record { some = some; inside = omega arith; begin = d.begin; end = d.end; seeded = d.seeded; between = d.between }
  where
    d : Looked f from first until n l
    d = let e : u ≡ n = omega arith in rw e at looked
