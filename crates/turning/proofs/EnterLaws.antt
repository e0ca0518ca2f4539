-- The lanes that entering a step brings on, state by state.
use Prim.Native.Nat.{ℕ, ◌+◌, ◌≤◌}
use mathlib.Core.Path.{◌≡◌, refl, sym, ap, ap₂, ◌∙◌}
use mathlib.Core.Bool.{Bool, true, false, cond, ◌&&◌, ◌||◌, or-false}
use mathlib.Core.List.{List}
use native.Mathlib.Omega.{arith}
use borrow.Author.Tests.{lt-ltb}
use lib.ListN.{get_or, replicate}
use Rattle.lists.proofs.Tables.{zeros_at}
use Rattle.sets.specs.Sets.{member, set_of, union, some_below}
use Rattle.sets.proofs.Bits.{member_empty}
use Rattle.sets.proofs.Laws.{member-set_of, member_union, some_below_none, some_below_more}
use Rattle.necklace.specs.Automaton.{Automaton}
use Rattle.necklace.specs.inner.Forward.{reached}
use Rattle.layout.specs.Layout.{most_states, most_lanes}
use Rattle.entering.specs.Entering.{spread_over, Grown}
use Rattle.turning.specs.Turning.{EnteredTo}

module _ (A : Automaton) (labels here : List ℕ) where
  -- an array of zeros has no lanes
  pub entered_none : (n : ℕ) → EnteredTo A labels 0 here (replicate n 0)
  entered_none n = record {
    lanes = λ i r l k. ap (member i) (zeros_at n r) ∙ member_empty i ∙ sym (some_below_none (λ q. member i (get_or here q 0) && reached A labels q r));
  }

  pub entered_end : (q : ℕ) (next : List ℕ) → q ≤ most_states → most_states ≤ q → EnteredTo A labels q here next → EnteredTo A labels most_states here next
  entered_end q next h k d = let e : q ≡ most_states = omega arith in rw e at d

  module _ (q lanes : ℕ) (el : lanes ≡ get_or here q 0) (old : List ℕ) (d : EnteredTo A labels q here old) where
    pub entered_skip : lanes ≡ 0 → EnteredTo A labels (q + 1) here old
    entered_skip z = record {
      lanes = λ i r l k.
          d.lanes i r l k
          ∙ sym (some_below_more q (λ q. member i (get_or here q 0) && reached A labels q r)
          ∙ ap (λ (b : Bool). some_below q (λ q. member i (get_or here q 0) && reached A labels q r) || (b && reached A labels q r)) (ap (member i) (sym el ∙ z) ∙ member_empty i)
          ∙ or-false _);
    }

    pub entered_more : (set : ℕ) (new : List ℕ) → set ≡ set_of most_states (reached A labels q) → Grown most_states (spread_over set lanes) old new → EnteredTo A labels (q + 1) here new
    unfolding spread_over
    entered_more set new es g = record {
      lanes = λ i r l k.
          ap (member i) (g.numbers r ∙ ap (λ (b : Bool). cond b (union most_lanes (get_or old r 0) (spread_over set lanes r)) (get_or old r 0)) (lt-ltb r most_states k))
          ∙ member_union most_lanes (get_or old r 0) (spread_over set lanes r) i l
          ∙ ap₂ (λ (a b : Bool). a || b) (d.lanes i r l k)
          (picked (member r set) i ∙ ap₂ (λ (a b : Bool). a && b) (ap (member i) el) (ap (member r) es ∙ member-set_of most_states (reached A labels q) r k))
          ∙ sym (some_below_more q (λ q. member i (get_or here q 0) && reached A labels q r));
    }
      where
        picked : (b : Bool) (i : ℕ) → member i (cond b lanes 0) ≡ (member i lanes && b)
        picked true i = sym (and_yes (member i lanes))
          where
            and_yes : (a : Bool) → (a && true) ≡ a
            and_yes true = refl
            and_yes false = refl
        picked false i = member_empty i ∙ sym (and_no (member i lanes))
          where
            and_no : (a : Bool) → (a && false) ≡ false
            and_no true = refl
            and_no false = refl

pub ruleset kit = (entered_none, entered_end, entered_skip, entered_more)
