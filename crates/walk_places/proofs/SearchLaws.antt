-- The steps that still search for their pivot, found one after the other.
-- Assumes nothing.
use Prim.Native.Nat.{ℕ, ◌+◌, ◌-◌, ◌*◌, ◌≤◌, ◌<◌}
use mathlib.Core.Path.{◌≡◌, refl, sym, ap, ◌∙◌, subst}
use mathlib.Core.Bool.{Bool, true, false, not}
use mathlib.Core.List.{List, reverse}
use native.Mathlib.Decide.{ℕ_discrete}
use native.Mathlib.Omega.{arith}
use borrow.Author.Tests.{eqb-true, eq-eqb}
use lib.Dec.{eqb}
use lib.ListN.{length, get_or, take, drop}
use Rattle.std.specs.List.{list_all}
use Rattle.sets.proofs.Truth.{false_no}
use Rattle.marking.proofs.AddLaws.{reversed_all}
use Rattle.std.specs.Prelude.{Option, Some, None}
use Rattle.std.specs.Option.{MatchOption}
use Rattle.std.proofs.lemmas.Option.{same_Some, none-some}
use Rattle.layout.specs.Layout.{most_steps}
use Rattle.rows.specs.Rows.{pivot_at}
use Rattle.walk_places.specs.Search.{NoneSearch, LastsIn, LastAt, ServedAt, NoneLook, NextAt, NextStep}

-- ---- does no step search any more?

pub none_have : (k from n : ℕ) (pivots : List ℕ) (r : Bool)
    → r ≡ list_all (λ x. not (eqb x n)) (reverse (take (most_steps * k + n - (most_steps * k + from)) (drop (most_steps * k + from) pivots)))
    → (from ≤ n) × (most_steps * k + n ≤ length pivots) → NoneSearch k from n pivots r
none_have k from n pivots r e inside = record {
  found = λ y v h l z.
      let t = reversed_all (λ x. not (eqb x n)) (most_steps * k + from) (most_steps * k + n) pivots (omega arith) (sym e ∙ y) (pivot_at k v) (omega arith) (omega arith) in
      let f : eqb (get_or pivots (pivot_at k v) 0) n ≡ true = eq-eqb (get_or pivots (pivot_at k v) 0) n z in
      let g : false ≡ true = sym (ap not f) ∙ t in
      cc;
}

-- ---- the next step that has something to look for

pub last_at : (left n : ℕ) (pivots : List ℕ) → LastsIn left n pivots → (v p : ℕ) → v < n → p ≡ get_or pivots (pivot_at left v) 0 → LastAt left pivots v p
last_at left n pivots l v p h e = record { is = e; small = let i = l.inside v h in omega arith }

module _ (left n : ℕ) (found pivots : List ℕ) where
  module _ (v place : ℕ) (ep : place ≡ get_or pivots (pivot_at (left - 1) v) 0) where
    pub served_some : (p : ℕ) → place ≡ n → LastAt left pivots v p → ServedAt left n found pivots v (not (eqb (get_or found p 0) 0))
    served_some p es l = record {
      no = λ e s. ap (λ (x : ℕ). get_or found x 0) (sym l.is) ∙ none (eqb (get_or found p 0) 0) refl e;
      yes = λ e. sym ep ∙ es;
    }
      where
        none : (b : Bool) → eqb (get_or found p 0) 0 ≡ b → not b ≡ false → get_or found p 0 ≡ 0
        none true z e = eqb-true (get_or found p 0) 0 z
        none false z e = absurd (false_no true e tt)

    pub served_none : (place ≡ n → ⊥) → ServedAt left n found pivots v false
    served_none ne = record { no = λ e s. absurd (ne (ep ∙ s)); yes = λ e. absurd (false_no true (sym e) tt) }

  -- one vertex after the other, of which those before w have nothing to look for
  module _ (v w : ℕ) (low : v ≤ w) (t : NoneLook left n found pivots v w) where
    pub to_more : (r : Bool) → ServedAt left n found pivots w r → r ≡ false → NoneLook left n found pivots v (w + 1)
    to_more r s e = record { none = λ x a b. go x a b (ℕ_discrete x w) }
      where
        go : (x : ℕ) → v ≤ x → x < w + 1 → Dec (x ≡ w) → get_or pivots (pivot_at (left - 1) x) 0 ≡ n → ◌≡◌ {A = ℕ} (get_or found (get_or pivots (pivot_at left x) 0) 0) 0
        go x a b (yes z) = rw z (s.no e)
        go x a b (no z) = t.none x a (omega arith)

    pub to_found : (r : Bool) → ServedAt left n found pivots w r → r ≡ true → w < n → NextStep left n found pivots v (Some w)
    to_found r s e l = record {
      some = λ x z. subst (NextAt left n found pivots v) (same_Some _ _ z) (record { low = low; inside = l; before = t; search = s.yes e });
      none = λ z. absurd (none-some _ (sym z));
    }

  -- the first from v on for which a candidate serves, if there is one
  pub next_found : (v : ℕ) (r : Option ℕ)
      → MatchOption r ((k : ℕ) → v ≤ k → k < n → ServedAt left n found pivots k false)
      (λ w. (v ≤ w) × (w < n) × ServedAt left n found pivots w true × ((k : ℕ) → v ≤ k → k < w → ServedAt left n found pivots k false))
      → NextStep left n found pivots v r
  next_found v None m = record { some = λ w z. absurd (none-some _ z); none = λ z. record { none = λ x a b. (m x a b).no refl } }
  next_found v (Some w) m = record {
    some = λ x z. subst (NextAt left n found pivots v) (same_Some _ _ z) (record { low = m.0; inside = m.1; before = record { none = λ k a b. (m.3 k a b).no refl }; search = m.2.yes refl });
    none = λ z. absurd (none-some _ (sym z));
  }

pub ruleset served_kit = (served_some, served_none)
