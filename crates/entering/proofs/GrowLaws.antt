-- Sets of a list grown one after the other.
use Prim.Native.Nat.{ℕ, ◌+◌, ◌≤◌, ◌<◌}
use mathlib.Core.Path.{◌≡◌, refl, sym, ap, ◌∙◌}
use mathlib.Core.Bool.{Bool, cond}
use mathlib.Core.List.{List}
use native.Mathlib.Decide.{ℕ_discrete, dec_lt}
use native.Mathlib.Omega.{arith}
use borrow.Author.Tests.{lt-ltb, le-ltb}
use lib.Dec.{ltb}
use lib.ListN.{length, get_or, set}
use lib.Seq.{get_or-set_same, get_or-set_other}
use Rattle.lists.specs.inner.Filled.{Filled}
use Rattle.sets.specs.Sets.{member, singleton, union, overlaps}
use Rattle.sets.proofs.Laws.{overlaps_singleton}
use Rattle.layout.specs.Layout.{most_states, set_width}
use Rattle.entering.specs.Entering.{spread_over, Grown}

pub grown_none : (f : ℕ → ℕ) (l : List ℕ) → Grown 0 f l l
grown_none f l = record { numbers = λ r. rw (le-ltb r 0 (omega arith)) refl }

pub grown_end : (f : ℕ → ℕ) (j : ℕ) (old l : List ℕ) → j ≤ most_states → most_states ≤ j → Grown j f old l → Grown most_states f old l
grown_end f j old l h k d = let e : j ≡ most_states = omega arith in rw e at d

pub grown_more : (f : ℕ → ℕ) (j : ℕ) (old l : List ℕ) → Grown j f old l → j < length l → (v : ℕ) → v ≡ union set_width (get_or l j 0) (f j) → Grown (j + 1) f old (set l j v)
grown_more f j old l d h v e = record { numbers = λ r. go r (ℕ_discrete r j) }
  where
    later : (r : ℕ) → (r ≡ j → ⊥) → ltb r (j + 1) ≡ ltb r j
    later r n = at_last (dec_lt r j)
      where
        at_last : Dec (r < j) → ltb r (j + 1) ≡ ltb r j
        at_last (yes l) = lt-ltb r (j + 1) (omega arith) ∙ sym (lt-ltb r j l)
        at_last (no l) = le-ltb r (j + 1) (past n l) ∙ sym (le-ltb r j (omega arith))
          where
            past : (r ≡ j → ⊥) → (r < j → ⊥) → j + 1 ≤ r
            past n l = omega arith

    before : get_or l j 0 ≡ get_or old j 0
    before = d.numbers j ∙ ap (λ (b : Bool). cond b (union set_width (get_or old j 0) (f j)) (get_or old j 0)) (le-ltb j j (omega arith))

    go : (r : ℕ) → Dec (r ≡ j) → get_or (set l j v) r 0 ≡ cond (ltb r (j + 1)) (union set_width (get_or old r 0) (f r)) (get_or old r 0)
    go r (yes z) = rw (z, lt-ltb j (j + 1) (omega arith)) (get_or-set_same l j v 0 h ∙ e ∙ ap (λ (s : ℕ). union set_width s (f j)) before)
    go r (no n) = rw (later r n) (get_or-set_other l j r v 0 n ∙ d.numbers r)

-- ---- spreading

pub spread_more : (set' more j : ℕ) (old l : List ℕ) (v : ℕ) (there : Bool) (got : ℕ) (values : List ℕ) → Grown j (spread_over set' more) old l → j < most_states → most_states ≤ length l
    → Filled singleton most_states values → there ≡ overlaps most_states set' (get_or values j 0) → got ≡ cond there more 0 → v ≡ union set_width (get_or l j 0) got
    → Grown (j + 1) (spread_over set' more) old (set l j v)
unfolding spread_over
spread_more set' more j old l v there got values d h long vs et em ev =
    grown_more (spread_over set' more) j old l d (omega arith) v (ev ∙ ap (union set_width (get_or l j 0)) (em ∙ ap (λ (b : Bool). cond b more 0) is))
  where
    is : there ≡ member j set'
    is = et ∙ ap (overlaps most_states set') (vs.number j h) ∙ overlaps_singleton most_states set' j h

pub ruleset spread_kit = (grown_none, grown_end, spread_more)
