-- Where the lanes of a pass begin.
use Prim.Native.Nat.{ℕ, ◌≤◌, ◌<◌}
use mathlib.Core.Path.{◌≡◌, refl, ap, ◌∙◌}
use mathlib.Core.Bool.{Bool, true, false, cond, ◌&&◌}
use mathlib.Core.List.{List}
use borrow.Author.Tests.{lt-ltb, le-ltb, le-leb, lt-leb}
use lib.Dec.{ltb, leb}
use lib.ListN.{get_or}
use Rattle.sets.specs.Sets.{member}
use Rattle.sets.proofs.Bits.{member_empty}
use Rattle.pass_steps.specs.PassSteps.{starts_in, beginning_at}

module _ (seeds : List ℕ) (until x : ℕ) where
  pub begins_yes : x < until → get_or seeds x 0 ≡ beginning_at seeds until x
  unfolding beginning_at
  begins_yes h = rw (lt-ltb x until h) refl

  pub begins_no : until ≤ x → 0 ≡ beginning_at seeds until x
  unfolding beginning_at
  begins_no h = rw (le-ltb x until h) refl

pub ruleset begin_kit = (begins_yes, begins_no)

-- ---- by the lane

module _ (seeds : List ℕ) (first until i u : ℕ) where
  pub starts_before : u < first → starts_in seeds first until i u ≡ false
  unfolding starts_in
  starts_before h = rw (lt-leb first u h) refl

  pub starts_past : until ≤ u → starts_in seeds first until i u ≡ false
  unfolding starts_in
  starts_past h = ap (λ (b : Bool). leb first u && (b && member i (get_or seeds u 0))) (le-ltb u until h) ∙ and_no (leb first u)
    where
      and_no : (b : Bool) → (b && false) ≡ false
      and_no true = refl
      and_no false = refl

  pub starts_is : first ≤ u → member i (beginning_at seeds until u) ≡ starts_in seeds first until i u
  unfolding starts_in beginning_at
  starts_is h = rw (le-leb first u h) (go (ltb u until))
    where
      go : (b : Bool) → member i (cond b (get_or seeds u 0) 0) ≡ (b && member i (get_or seeds u 0))
      go true = refl
      go false = member_empty i
