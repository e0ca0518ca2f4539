-- A lane each for the starting steps.
use Prim.Native.Nat.{ℕ, ◌+◌, ◌≤◌, ◌<◌}
use mathlib.Core.Path.{◌≡◌, sym, ap, ◌∙◌}
use mathlib.Core.Logic.{inl, inr}
use mathlib.Core.Bool.{Bool, true, false, cond}
use mathlib.Core.List.{List}
use native.Mathlib.Omega.{arith}
use lib.Dec.{T}
use lib.ListN.{length, get_or, set}
use Rattle.sets.specs.Sets.{member, singleton}
use Rattle.layout.specs.Layout.{most_lanes, most_steps}
use Rattle.starts.specs.Starts.{Apart, StartsOf, Looked, LanesBelow, ApartIf, lane_after}
use Rattle.starts.specs.declared.Lanes.{Lanes}
use Rattle.starts.specs.declared.Lanes.TheVariants.{Shared, Own}
use Rattle.starts.proofs.StartLaws.{Has, has, written}

module _ (lanes : Lanes) (from u lane : ℕ) (b : Bool) (old new : List ℕ) (d : LanesBelow lanes from u lane old) (inside : u < most_steps) (long : most_steps ≤ length new)
    (e : new ≡ set old u (cond b (singleton lane) 0)) where
  which : (i w : ℕ) → w < u + 1 → T (member i (get_or new w 0)) → Has u lane b old i w
  which i w h m = has u lane b old new (written old new u (cond b (singleton lane) 0) inside long e) e i w h m

  apart : lanes ≡ Own → Apart from (u + 1) new
  apart a = record { one = λ i w v l h k g m t. one i w v l k (which i w h m) (which i v g t) }
    where
      one : (i w v : ℕ) → from ≤ w → from ≤ v → Has u lane b old i w → Has u lane b old i v → w ≡ v
      one i w v l k (inl p) (inl q) = p.0 ∙ sym q.0
      one i w v l k (inl p) (inr q) = let z = p.1 in let s = d.used a i v k q.0 q.1 in absurd (omega arith)
      one i w v l k (inr p) (inl q) = let z = q.1 in let s = d.used a i w l p.0 p.1 in absurd (omega arith)
      one i w v l k (inr p) (inr q) = (d.apart a).one i w v l p.0 k q.0 p.1 q.1

  pub lane_given : (next : ℕ) → next ≡ lane_after lanes lane → LanesBelow lanes from (u + 1) next new
  unfolding lane_after
  lane_given next z = record { apart = apart; used = λ a i w l h m. used a i w l (which i w h m) (after a); few = let f = d.few in let k = most lanes in omega (arith, z) }
    where
      after : lanes ≡ Own → next ≡ lane + 1
      after a = z ∙ ap (λ (k : Lanes). lane_after k lane) a

      most : (k : Lanes) → lane_after k lane ≤ lane + 1
      most Shared = omega arith
      most Own = omega arith

      used : lanes ≡ Own → (i w : ℕ) → from ≤ w → Has u lane b old i w → next ≡ lane + 1 → i < next
      used a i w l (inl p) y = let q = p.1 in omega arith
      used a i w l (inr p) y = let s = d.used a i w l p.0 p.1 in omega arith

  pub lane_kept : b ≡ false → LanesBelow lanes from (u + 1) lane new
  lane_kept n = record { apart = apart; used = λ a i w l h m. used a i w l (which i w h m); few = let f = d.few in omega arith }
    where
      used : lanes ≡ Own → (i w : ℕ) → from ≤ w → Has u lane b old i w → i < lane
      used a i w l (inl p) = let q : true ≡ false = sym p.2 ∙ n in cc
      used a i w l (inr p) = d.used a i w l p.0 p.1

pub lane_most : (lanes : Lanes) (lane next : ℕ) → next ≡ lane_after lanes lane → lane < most_lanes → next ≤ most_lanes
unfolding lane_after
lane_most Shared lane next z h = omega arith
lane_most Own lane next z h = omega arith

-- ---- the loop

pub lanes_none : (lanes : Lanes) (from : ℕ) (l : List ℕ) → LanesBelow lanes from from 0 l
lanes_none lanes from l =
    record { apart = λ a. record { one = λ i u w h k g j m t. absurd (omega arith) }; used = λ a i u h k m. absurd (omega arith); few = omega arith }

-- all lanes are given: as many steps have been looked at
pub starts_full : (f : ℕ → Bool) (lanes : Lanes) (from n lane first until u : ℕ) (l : List ℕ) → lane ≡ most_lanes → LanesBelow lanes from u lane l → u ≤ n
    → Looked f from first until u l → StartsOf f from n (record { first = first; until = until; to = u }) l
starts_full f lanes from n lane first until u l full d k x =
    let m = d.few in record { some = omega arith; inside = k; begin = x.begin; end = x.end; seeded = x.seeded; between = x.between }

pub apart_full : (lanes : Lanes) (from u lane : ℕ) (l : List ℕ) → LanesBelow lanes from u lane l → ApartIf lanes from u l
apart_full lanes from u lane l d = record { apart = d.apart }

pub apart_end : (lanes : Lanes) (from n u lane : ℕ) (l : List ℕ) → n ≤ u → u ≤ n → LanesBelow lanes from u lane l → ApartIf lanes from n l
apart_end lanes from n u lane l h k d = let e : u ≡ n = omega arith in rw e at (apart_full lanes from u lane l d)
