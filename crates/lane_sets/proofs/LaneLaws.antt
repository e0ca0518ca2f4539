-- The lanes in some state of a set, and in no other.
use Prim.Native.Nat.{ℕ, ◌*◌}
use mathlib.Core.Path.{◌≡◌, refl, sym, ap, ap₂, ◌∙◌}
use mathlib.Core.Bool.{Bool, true, false, not, ◌&&◌}
use mathlib.Core.List.{List}
use lib.Dec.{eqb}
use Rattle.lists.specs.Places.{at}
use Rattle.sets.specs.Sets.{member, set_of, intersection, complement}
use Rattle.sets.proofs.Agree.{set_of_ext}
use Rattle.sets.proofs.Laws.{member-set_of, member_complement}
use Rattle.layout.specs.Layout.{rule_at, states_at, most_lanes, most_states}
use Rattle.entering.specs.Entering.{union_over}
use Rattle.lane_sets.specs.LaneSets.{lane_with, lane_holds}

pub with_is : (work : List ℕ) (x states all : ℕ) → all ≡ set_of most_lanes (union_over states work (most_states * x)) → all ≡ set_of most_lanes (lane_with work x states)
unfolding union_over lane_with
with_is work x states all e = e

-- ---- the lanes that are in states of the set alone

module _ (pattern : List ℕ) (k set : ℕ) (work : List ℕ) (x inside : ℕ) (ea : inside ≡ set_of most_lanes (lane_with work x set)) where
  pub reaching_some : (is_all : Bool) → is_all ≡ eqb (at pattern (rule_at k)) 2 → is_all ≡ false → inside ≡ set_of most_lanes (lane_holds pattern k set work x)
  unfolding lane_holds
  reaching_some t e n = ea ∙ set_of_ext most_lanes (lane_with work x set) (lane_holds pattern k set work x) (λ i l. rw (sym e ∙ n) refl)

  pub reaching_all : (is_all : Bool) (rest others less r : ℕ) → is_all ≡ eqb (at pattern (rule_at k)) 2 → is_all ≡ true → rest ≡ complement (at pattern (states_at k)) set
      → others ≡ set_of most_lanes (lane_with work x rest) → less ≡ complement most_lanes others → r ≡ intersection most_lanes inside less → r ≡ set_of most_lanes (lane_holds pattern k set work x)
  unfolding lane_holds
  reaching_all t rest others less r e y er eo el ei =
      ei ∙ set_of_ext most_lanes (λ i. member i inside && member i less) (lane_holds pattern k set work x)
      (λ i l. ap₂ (λ (a b : Bool). a && b) (ap (member i) ea ∙ member-set_of most_lanes (lane_with work x set) i l)
      (ap (member i) el ∙ member_complement most_lanes others i l ∙ ap not (ap (member i) eo ∙ member-set_of most_lanes (lane_with work x rest) i l ∙ ap (λ (s : ℕ). lane_with work x s i) er))
      ∙ rw (sym e ∙ y) refl)

pub ruleset reaching_kit = (reaching_some, reaching_all)
