-- Entering a step from a state, label by label.
use Prim.Native.Nat.{ℕ, ◌+◌, ◌*◌, ◌^◌, ◌≤◌, ◌<◌}
use mathlib.Core.Path.{◌≡◌, refl, sym, ap, ap₂, ◌∙◌}
use mathlib.Core.Bool.{Bool, true, false, cond, ◌&&◌, ◌||◌}
use mathlib.Core.List.{List, [], ◌∷◌}
use native.Mathlib.Omega.{arith}
use lib.Dec.{eqb}
use lib.ListN.{get_or}
use Rattle.lists.specs.inner.Filled.{Filled}
use Rattle.sets.specs.Sets.{◌∈◌, member, set_of, singleton, union, overlaps, some_below, members}
use Rattle.sets.proofs.Agree.{set_of_ext, set_of_empty, set_of_one, some_below_ext, members_empty, empty_members}
use Rattle.sets.proofs.Bits.{member_empty}
use Rattle.sets.proofs.Laws.{member-set_of, member-singleton, some_below_none, some_below_more, members_out, overlaps_singleton}
use Rattle.necklace.specs.Compute.{some_of, elem}
use Rattle.necklace.proofs.Lists.{elem_members, some_of_members}
use Rattle.layout.specs.Layout.{next_at, most_labels, most_states, set_width}
use Rattle.pattern_buffer.specs.Meaning.{automaton_of}
use Rattle.pattern_buffer.proofs.Nexts.{next_read, next_inside}
use Rattle.necklace.specs.inner.Forward.{reached}
use Rattle.entering.specs.Entering.{union_over}

-- ---- the union of some sets of a list, set by set

-- The same of the first n of them.
unfoldable pub union_to : ℕ → ℕ → List ℕ → ℕ → ℕ → Bool
union_to n set list from r = some_below n (λ q. member q set && member r (get_or list (from + q) 0))

module _ (set : ℕ) (list : List ℕ) (from : ℕ) where
  pub over_none : 0 ≡ set_of set_width (union_to 0 set list from)
  unfolding union_to
  over_none = sym (set_of_empty set_width (union_to 0 set list from) (λ r l. some_below_none (λ q. member q set && member r (get_or list (from + q) 0))))

  pub over_end : (i all : ℕ) → i ≤ set_width → set_width ≤ i → all ≡ set_of set_width (union_to i set list from) → all ≡ set_of set_width (union_over set list from)
  unfolding union_to union_over
  over_end i all h k e = let z : i ≡ set_width = omega arith in rw z at e

  pub over_more : (i all s : ℕ) (there : Bool) (more : ℕ) (values : List ℕ) → all ≡ set_of set_width (union_to i set list from) → i < set_width → Filled singleton most_states values
      → there ≡ overlaps set_width set (get_or values i 0) → more ≡ cond there (get_or list (from + i) 0) 0 → s ≡ union set_width all more
      → s ≡ set_of set_width (union_to (i + 1) set list from)
  unfolding union_to
  over_more i all s there more values inv h vs et em es =
      es ∙ set_of_ext set_width (λ r. member r all || member r more) (union_to (i + 1) set list from)
      (λ r l. ap₂ (λ (a b : Bool). a || b) (ap (member r) inv ∙ member-set_of set_width (union_to i set list from) r l) (ap (member r) em ∙ picked there is r)
      ∙ sym (some_below_more i (λ q. member q set && member r (get_or list (from + q) 0))))
    where
      is : there ≡ member i set
      is = et ∙ ap (overlaps set_width set) (vs.number i h) ∙ overlaps_singleton set_width set i h

      picked : (b : Bool) → b ≡ member i set → (r : ℕ) → member r (cond b (get_or list (from + i) 0) 0) ≡ (member i set && member r (get_or list (from + i) 0))
      picked true e r = rw (← e) refl
      picked false e r = rw (← e) (member_empty r)

pub ruleset over_kit = (over_none, over_end, over_more)

-- ---- entering a vertex

module _ (b : List ℕ) (j q labels : ℕ) where
  pub enter_bare : (r : ℕ) → q < most_states → labels ≡ 0 → r ≡ singleton q → r ≡ set_of most_states (reached (automaton_of b j) (members most_labels labels) q)
  enter_bare r h e f =
      let none : members most_labels labels ≡ [] = ap (members most_labels) e ∙ members_empty most_labels in
      f ∙ sym (ap (λ (ls : List ℕ). set_of most_states (reached (automaton_of b j) ls q)) none ∙ set_of_one most_states (λ r. eqb r q) q h (λ i l. sym (member-singleton i q)))

  pub enter_labels : (all : ℕ) → q < most_states → all ≡ set_of set_width (union_over labels b (next_at j q 0)) → labels < 2 ^ most_labels → (labels ≡ 0 → ⊥)
      → all ≡ set_of most_states (reached (automaton_of b j) (members most_labels labels) q)
  unfolding union_over
  enter_labels all h e fits some = e ∙ go (members most_labels labels) refl
    where
      f : ℕ → ℕ → Bool
      f r l = elem r ((automaton_of b j).next q l)

      leads : (i r : ℕ) → i < most_labels → r < most_states → f r i ≡ member r (get_or b (next_at j q 0 + i) 0)
      leads i r k l =
          let e : next_at j q i ≡ next_at j q 0 + i = omega arith in
          ap (elem r) (next_read b j q i h k) ∙ elem_members most_states (get_or b (next_at j q i) 0) r l ∙ ap (λ (n : ℕ). member r (get_or b n 0)) e

      gathered : ℕ → Bool
      gathered r = some_below most_labels (λ l. member l labels && member r (get_or b (next_at j q 0 + l) 0))

      go : (ls : List ℕ) → members most_labels labels ≡ ls → set_of most_states gathered ≡ set_of most_states (reached (automaton_of b j) ls q)
      go [] e = absurd (some (empty_members most_labels labels fits e))
      go (x ∷ ls) e =
          set_of_ext most_states gathered (reached (automaton_of b j) (x ∷ ls) q)
          (λ r l. some_below_ext most_labels (λ l. member l labels && member r (get_or b (next_at j q 0 + l) 0)) (λ l. member l labels && f r l)
          (λ i m. ap (λ (t : Bool). member i labels && t) (sym (leads i r m l)))
          ∙ sym (some_of_members most_labels labels (f r)) ∙ ap (some_of (f r)) e)

pub ruleset enter_kit = (enter_bare, enter_labels)

-- the next sets of a bead's automaton are within its states
pub next_within : (b : List ℕ) (j q a r : ℕ) → r ∈ (automaton_of b j).next q a → r < most_states
next_within b j q a r m = (members_out most_states (get_or b (next_at j q a) 0) r (next_inside b j q a r m).2).0
