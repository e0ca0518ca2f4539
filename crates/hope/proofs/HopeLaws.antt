-- The states that lead on to an accepting one: next states label by label, rounds of growth, bead by bead.
use Prim.Native.Nat.{ℕ, ◌+◌, ◌≤◌, ◌<◌}
use mathlib.Core.Path.{◌≡◌, refl, sym, ap, ◌∙◌, subst}
use mathlib.Core.Bool.{Bool, true, ◌&&◌, ◌||◌}
use mathlib.Core.List.{List}
use native.Mathlib.Decide.{ℕ_discrete}
use native.Mathlib.Omega.{arith}
use lib.Dec.{T}
use lib.ListN.{length, get_or, set}
use lib.Seq.{get_or-set_same, get_or-set_other}
use Rattle.lists.specs.Places.{at}
use Rattle.lists.specs.inner.Filled.{Filled}
use Rattle.sets.specs.Sets.{◌∈◌, member, set_of, singleton, union, all_below}
use Rattle.sets.proofs.Truth.{or_l, or_r, and_i, true_yes}
use Rattle.sets.proofs.Laws.{set_of_none, set_of_put, set_of_skip, set_of_end}
use Rattle.sets.proofs.Laws.{member-set_of, member_union, some_below_none, some_below_more, some_below_in, members_out}
use Rattle.sets.proofs.Agree.{set_of_ext, set_of_empty}
use Rattle.sets.proofs.Below.{all_out}
use Rattle.layout.specs.Layout.{accepting_at, next_at, most_labels, most_beads, most_states}
use Rattle.pattern_buffer.specs.Meaning.{automaton_of}
use Rattle.pattern_buffer.proofs.Nexts.{next_inside}
use Rattle.entering.specs.Entering.{BeadIn}
use Rattle.hope.specs.Hope.{HopefulSet, Hopes, AllBeads, leads_by, onward_from, leads_into, Has, Closed}

-- ---- next states, label by label

module _ (b : List ℕ) (j q : ℕ) where
  pub onward_none : 0 ≡ set_of most_states (leads_by b j q 0)
  unfolding leads_by
  onward_none = sym (set_of_empty most_states (leads_by b j q 0) (λ r l. some_below_none (λ a. member r (at b (next_at j q a)))))

  module _ (a all : ℕ) (inv : all ≡ set_of most_states (leads_by b j q a)) where
    pub onward_more : (r : ℕ) → r ≡ union most_states all (get_or b (next_at j q a) 0) → r ≡ set_of most_states (leads_by b j q (a + 1))
    unfolding leads_by
    onward_more r u =
        u ∙ set_of_ext most_states (λ i. member i all || member i (at b (next_at j q a))) (leads_by b j q (a + 1))
        (λ i l. ap (λ (t : Bool). t || member i (at b (next_at j q a))) (ap (member i) inv ∙ member-set_of most_states (leads_by b j q a) i l)
        ∙ sym (some_below_more a (λ l. member i (at b (next_at j q l)))))

    pub onward_end : a ≤ most_labels → most_labels ≤ a → all ≡ onward_from b j q
    unfolding onward_from
    onward_end h k = let e : a ≡ most_labels = omega arith in rw e at inv

  next_onward : (a r : ℕ) → a < most_labels → r < most_states → T (member r (at b (next_at j q a))) → T (member r (onward_from b j q))
  unfolding leads_by onward_from
  next_onward a r h l t =
      subst T (sym (member-set_of most_states (leads_by b j q most_labels) r l)) (some_below_in most_states (λ c. member r (at b (next_at j q c))) a h t)

pub ruleset onward_kit = (onward_none, onward_more, onward_end)

-- ---- the states that lead into a set

pub value_at : (values : List ℕ) (q : ℕ) → Filled singleton most_states values → q < most_states → get_or values q 0 ≡ singleton q
value_at values q d h = d.number q h

pub ruleset leading_kit = (set_of_none, set_of_put, set_of_skip, set_of_end, value_at)

-- ---- rounds

pub has_itself : (s : ℕ) → Has s s
has_itself s = record { states = λ q l t. t }

module _ (onwards : List ℕ) (s set lead more : ℕ) (h : Has s set) (el : lead ≡ set_of most_states (leads_into onwards set)) (em : more ≡ union most_states set lead) where
  pub has_more : Has s more
  has_more = record {
    states = λ q l t.
        subst T (sym (ap (member q) em ∙ member_union most_states set lead q l)) (or_l (member q set) (member q lead) (h.states q l t));
  }

  pub closed : more ≡ set → Closed onwards s set
  closed e = record { first = h; before = before }
    where
      before : (q r : ℕ) → q < most_states → r < most_states → T (member r (get_or onwards q 0)) → T (member r set) → T (member q set)
      before q r l k on t =
          let into : T (leads_into onwards set q) =
          some_below_in most_states (λ i. member i (get_or onwards q 0) && member i set) r k (and_i (member r (get_or onwards q 0)) (member r set) on t) in
          let led : T (member q lead) = subst T (sym (ap (member q) el ∙ member-set_of most_states (leads_into onwards set) q l)) into in
          subst T (ap (member q) (sym em ∙ e)) (subst T (sym (member_union most_states set lead q l)) (or_r (member q set) (member q lead) led))

-- all states
all_states : all_below most_states (λ q. member q 65535) ≡ true
unfolding all_below
all_states = refl

every : (q : ℕ) → q < most_states → T (member q 65535)
every q l = all_out most_states (λ q. member q 65535) (true_yes (all_below most_states (λ q. member q 65535)) all_states) q l

pub closed_all : (onwards : List ℕ) (s : ℕ) → Closed onwards s 65535
closed_all onwards s = record { first = record { states = λ q l t. every q l }; before = λ q r l k on t. every q l }

pub ruleset grown_kit = (has_itself, has_more, closed, closed_all)

-- ---- a bead

pub hopeful_set : (b : List ℕ) (j : ℕ) (onwards : List ℕ) (r : ℕ) → Filled (onward_from b j) most_states onwards → Closed onwards (get_or b (accepting_at j) 0) r → HopefulSet b j r
hopeful_set b j onwards r d c = record { states = record { accepting = c.first.states; before = before } }
  where
    before : (q a s : ℕ) → q < most_states → s ∈ (automaton_of b j).next q a → T (member s r) → T (member q r)
    before q a s l m t =
        let i = next_inside b j q a s m in
        let n = members_out most_states (at b (next_at j q a)) s i.2 in
        c.before q s l n.0 (subst (λ (set : ℕ). T (member s set)) (sym (d.number q l)) (next_onward b j q a s i.1 n.0 n.1)) t

-- ---- bead by bead

-- The sets of the beads below n.
pub record HopesBelow (n : ℕ) (b hopes : List ℕ) : Type 0 where
  pub sets : (j : ℕ) → j < n → HopefulSet b j (get_or hopes j 0)

pub hopes_none : (b hopes : List ℕ) → HopesBelow 0 b hopes
hopes_none b hopes = record { sets = λ j h. absurd (omega arith) }

module _ (b hopes : List ℕ) (j : ℕ) (d : HopesBelow j b hopes) where
  pub hopes_more : (count r : ℕ) → AllBeads b → count ≡ get_or b 1 0 → j < count → most_beads ≤ length hopes → HopefulSet b j r → HopesBelow (j + 1) b (set hopes j r)
  hopes_more count r all e h long new = record { sets = λ i k. go i k (ℕ_discrete i j) }
    where
      go : (i : ℕ) → i < j + 1 → Dec (i ≡ j) → HopefulSet b i (get_or (set hopes j r) i 0)
      go i k (yes z) = rw z (rw (get_or-set_same hopes j r 0 (let f = all.few in omega arith)) new)
      go i k (no n) = rw (get_or-set_other hopes j i r 0 n) (d.sets i (omega arith))

  pub hopes_end : (count : ℕ) → count ≡ get_or b 1 0 → count ≤ j → Hopes b hopes
  hopes_end count e h = record { sets = λ i k. d.sets i (omega arith) }

pub bead_in : (b : List ℕ) (j count : ℕ) → AllBeads b → count ≡ get_or b 1 0 → j < count → BeadIn b j
bead_in b j count all e h = all.beads j (omega arith)

pub ruleset hopes_kit = (hopes_none, hopes_more, hopes_end, bead_in)
