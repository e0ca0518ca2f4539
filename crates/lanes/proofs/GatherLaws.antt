-- The lanes of a step added, and those of listed steps, step by step.
use Prim.Native.Nat.{ℕ, ◌+◌, ◌*◌, ◌≤◌, ◌<◌}
use mathlib.Core.Path.{◌≡◌, sym, ap, ◌∙◌}
use mathlib.Core.Bool.{Bool, cond, ◌&&◌, ◌||◌, or-false, or_assoc}
use mathlib.Core.List.{List, [], ◌∷◌, ◌++◌}
use native.Mathlib.Numerals.{add-one}
use native.Mathlib.Omega.{arith}
use borrow.Author.Tests.{le-leb, lt-leb, lt-ltb}
use lib.ListN.{length, get_or, set, take, replicate}
use lib.Seq.{take_all, take-suc}
use Rattle.lists.proofs.Tables.{zeros_at}
use Rattle.sets.specs.Sets.{member, union}
use Rattle.sets.proofs.Bits.{member_empty}
use Rattle.sets.proofs.Laws.{member_union}
use Rattle.necklace.specs.Compute.{some_of}
use Rattle.layout.specs.Layout.{most_states, most_lanes}
use Rattle.entering.specs.Entering.{Grown}
use Rattle.entering.proofs.GrowLaws.{grown_none, grown_end, grown_more}
use Rattle.lanes.specs.Lanes.{work_at, lane_in, lanes_at, Gathered}

-- ---- one step

module _ (work : List ℕ) (w j : ℕ) (old l : List ℕ) (d : Grown j (lanes_at work w) old l) (v : ℕ) where
  pub step_more : j < most_states → most_states ≤ length l → v ≡ union most_lanes (get_or l j 0) (get_or work (work_at w j) 0) → Grown (j + 1) (lanes_at work w) old (set l j v)
  unfolding lanes_at
  step_more h long e = grown_more (lanes_at work w) j old l d (omega arith) v e

pub ruleset step_kit = (grown_none, grown_end, step_more)

-- ---- one after the other

some_of_last : (f : ℕ → Bool) (u : ℕ) (ls : List ℕ) → some_of f (ls ++ (u ∷ [])) ≡ (some_of f ls || f u)
some_of_last f u [] = or-false (f u)
some_of_last f u (x ∷ ls) = ap (λ (b : Bool). f x || b) (some_of_last f u ls) ∙ sym (or_assoc (f x) (some_of f ls) (f u))

module _ (work : List ℕ) (first : ℕ) (links : List ℕ) (j w : ℕ) (link : w ≡ get_or links j 0) (h : j < length links) (old : List ℕ)
    (d : Gathered work first (take j links) old) where
  more : (i q : ℕ) → some_of (λ y. lane_in work first i y q) (take (j + 1) links) ≡ (some_of (λ y. lane_in work first i y q) (take j links) || lane_in work first i w q)
  more i q =
      let last : take (j + 1) links ≡ take j links ++ (w ∷ []) =
      ap (λ (k : ℕ). take k links) (add-one j) ∙ take-suc links j 0 h ∙ ap (λ (y : ℕ). take j links ++ (y ∷ [])) (sym link) in
      ap (some_of (λ y. lane_in work first i y q)) last ∙ some_of_last (λ y. lane_in work first i y q) w (take j links)

  pub link_yes : (new : List ℕ) → first ≤ w → Grown most_states (lanes_at work w) old new → Gathered work first (take (j + 1) links) new
  unfolding lane_in lanes_at
  link_yes new up g = record {
    lanes = λ i q l k.
        ap (member i) (g.numbers q ∙ ap (λ (b : Bool). cond b (union most_lanes (get_or old q 0) (lanes_at work w q)) (get_or old q 0)) (lt-ltb q most_states k))
        ∙ member_union most_lanes (get_or old q 0) (lanes_at work w q) i l ∙ ap (λ (b : Bool). b || member i (get_or work (work_at w q) 0)) (d.lanes i q l k)
        ∙ sym (more i q ∙ ap (λ (b : Bool). some_of (λ y. lane_in work first i y q) (take j links) || (b && member i (get_or work (work_at w q) 0))) (le-leb first w up));
  }

  pub link_no : w < first → Gathered work first (take (j + 1) links) old
  unfolding lane_in
  link_no low = record {
    lanes = λ i q l k.
        d.lanes i q l k
        ∙ sym (more i q ∙ ap (λ (b : Bool). some_of (λ y. lane_in work first i y q) (take j links) || (b && member i (get_or work (work_at w q) 0))) (lt-leb first w low) ∙ or-false _);
  }

pub ruleset link_kit = (link_yes, link_no)

pub gather_end : (work : List ℕ) (first : ℕ) (links : List ℕ) (j : ℕ) (l : List ℕ) → length links ≤ j → Gathered work first (take j links) l → Gathered work first links l
gather_end work first links j l h d = rw (take_all j links h) at d

-- an array of zeros has no lanes
pub gather_none : (work : List ℕ) (first : ℕ) (links : List ℕ) (n : ℕ) → Gathered work first (take 0 links) (replicate n 0)
gather_none work first links n = record { lanes = λ i q k m. ap (member i) (zeros_at n q) ∙ member_empty i }
