-- The first k beads hold at v: the recursion of the definition, the test, and the search for the smallest number that passes.
use Prim.Native.Nat.{ℕ, zero, suc, ◌+◌, ◌≤◌, ◌<◌}
use mathlib.Core.Path.{◌≡◌, refl, sym, ◌∙◌, subst}
use mathlib.Core.Logic.{◌⊎◌, inl, inr, ◌↔◌}
use mathlib.Core.Bool.{Bool, true, false, cond}
use native.Mathlib.Nat.{not-suc-le-zero, eq-or-lt_of_le, lt_of_not-le}
use native.Mathlib.Omega.{arith}
use lib.Dec.{T, eqb→eq, eqb_refl, leb, leb→le, le→leb}
use Rattle.sets.specs.Sets.{some_below}
use Rattle.sets.proofs.Truth.{and_i, and_l, and_r, yes_true, no_false}
use Rattle.sets.proofs.Laws.{some_below_out, some_below_in}
use Rattle.necklace.specs.Dag.{Dag, WellFormed}
use Rattle.necklace.specs.Necklace.{Pattern, WellFormedPattern, Satisfies, Holds, Serves}
use Rattle.necklace.specs.Compute.{satisfies?, holds?, serves?, seek, before}
use Rattle.necklace.proofs.Paths.{route_le}
use Rattle.necklace.proofs.Modalities.{satisfies_agrees, satisfies_route}

-- No bead holds at vertex 0 alone; one bead more holds at v where some vertex serves as the pivot before it.
module _ {G : Dag} {P : Pattern} where
  pub holds_zero : (v : ℕ) → Holds G P 0 v ↔ (v ≡ 0)
  holds_zero v = (
    λ h. sym h.ends ∙ h.starts,
    λ e. record { pivot = λ j. 0; starts = refl; ends = sym e; beads = λ j l. absurd (not-suc-le-zero l) },
  )

  serves_of : (k v : ℕ) → Holds G P (suc k) v → (u : ℕ) × Serves G P k v u
  serves_of k v h = (
    h.pivot k,
    record {
      earlier = record { pivot = h.pivot; starts = h.starts; ends = refl; beads = λ j l. h.beads j (omega arith) };
      next = subst (λ (w : ℕ). Satisfies G (P.bead k) (h.pivot k) w) h.ends (h.beads k (omega arith));
    },
  )

  -- the pivots as before, and v from k + 1 on
  longer : (k v u : ℕ) → Serves G P k v u → Holds G P (suc k) v
  longer k v u s = record {
    pivot = put;
    starts = put_low 0 (omega arith) ∙ h.starts;
    ends = put_high (suc k) (omega arith);
    beads = λ j l. last j (eq-or-lt_of_le l);
  }
    where
      h : Holds G P k u
      h = s.earlier

      put : ℕ → ℕ
      put j = cond (leb j k) (h.pivot j) v

      put_low : (j : ℕ) → j ≤ k → put j ≡ h.pivot j
      put_low j l = rw (yes_true (leb j k) (le→leb j k l))

      put_high : (j : ℕ) → k < j → put j ≡ v
      put_high j l = rw (no_false (leb j k) (λ t. let z = leb→le j k t in omega arith))

      last : (j : ℕ) → (suc j ≡ suc k) ⊎ (suc j < suc k) → Satisfies G (P.bead j) (put j) (put (suc j))
      last j (inl e) = let q : j ≡ k = omega arith in rw (q, put_low k (omega arith), put_high (suc k) (omega arith), h.ends) s.next
      last j (inr l) = rw (put_low j (omega arith), put_low (suc j) (omega arith)) (h.beads j (omega arith))

  pub holds_suc : (k v : ℕ) → Holds G P (suc k) v ↔ ((u : ℕ) × Serves G P k v u)
  holds_suc k v = (serves_of k v, λ s. longer k v s.0 s.1)

module _ {c : ℕ} {G : Dag} (g : WellFormed c G) {P : Pattern} (p : WellFormedPattern c P) where
  -- a vertex that serves is not larger than the pivot after it
  pub serves_le : (k v u : ℕ) → Serves G P k v u → u ≤ v
  serves_le k v u s = route_le g (satisfies_route g (P.bead k) u v s.next)

  serves_by : (k v u : ℕ) → k < P.count → T (holds? G P k u) ↔ Holds G P k u → T (serves? G P k v u) ↔ Serves G P k v u
  serves_by k v u l f = (
    λ t. record {
      earlier = f.0 (and_l (holds? G P k u) (satisfies? G (P.bead k) u v) t);
      next = agrees.0 (and_r (holds? G P k u) (satisfies? G (P.bead k) u v) t);
    },
    λ s. and_i (holds? G P k u) (satisfies? G (P.bead k) u v) (f.1 s.earlier) (agrees.1 s.next),
  )
    where
      agrees : T (satisfies? G (P.bead k) u v) ↔ Satisfies G (P.bead k) u v
      agrees = satisfies_agrees g (P.bead k) (p.one_next k l) u v

  pub holds_agrees : (k v : ℕ) → k ≤ P.count → T (holds? G P k v) ↔ Holds G P k v
  unfolding holds?
  holds_agrees zero v l = (λ t. (holds_zero v).1 (eqb→eq v 0 t), λ h. rw ((holds_zero v).0 h) (eqb_refl 0))
  holds_agrees (suc k) v l = go (λ u. serves_by k v u l (holds_agrees k u (omega arith)))
    where
      go : ((u : ℕ) → T (serves? G P k v u) ↔ Serves G P k v u) → T (some_below (suc v) (serves? G P k v)) ↔ Holds G P (suc k) v
      go f = (
        λ t. let b = some_below_out (suc v) (serves? G P k v) t in (holds_suc k v).1 (b.0, (f b.0).0 b.2),
        λ h. let s = (holds_suc k v).0 h in some_below_in (suc v) (serves? G P k v) s.0 (let l = serves_le k v s.0 s.1 in omega arith) ((f s.0).1 s.1),
      )

  pub serves_agrees : (k v u : ℕ) → k < P.count → T (serves? G P k v u) ↔ Serves G P k v u
  serves_agrees k v u l = serves_by k v u l (holds_agrees k u (omega arith))

-- s is the smallest number, from i on, that passes.
pub record First (f : ℕ → Bool) (i s : ℕ) : Type 0 where
  pub from : i ≤ s
  pub passes : T (f s)
  pub smaller : (m : ℕ) → i ≤ m → m < s → T (f m) → ⊥

seek_yes : (f : ℕ → Bool) (d i : ℕ) → f i ≡ true → seek f (suc d) i ≡ i
unfolding seek
seek_yes f d i e = rw (e, seek)

seek_no : (f : ℕ → Bool) (d i : ℕ) → f i ≡ false → seek f (suc d) i ≡ seek f d (suc i)
unfolding seek
seek_no f d i e = rw (e, seek)

-- the search finds the smallest that passes, if one does
pub seek_first : (f : ℕ → Bool) (d i j : ℕ) → i ≤ j → j < i + d → T (f j) → First f i (seek f d i)
seek_first f zero i j l k t = absurd (omega arith)
seek_first f (suc d) i j l k t = go (f i) refl (eq-or-lt_of_le l) (λ h. seek_first f d (suc i) j h (omega arith) t)
  where
    go : (b : Bool) → f i ≡ b → (i ≡ j) ⊎ (i < j) → (i < j → First f (suc i) (seek f d (suc i))) → First f i (seek f (suc d) i)
    go true e c rest = rw (seek_yes f d i e) (record { from = omega arith; passes = rw e tt; smaller = λ m a b z. omega arith })
    go false e (inl q) rest = absurd (rw (sym q ∙ refl, e) at t)
    go false e (inr q) rest = let r = rest q in rw (seek_no f d i e) (record {
      from = (let z = r.from in omega arith);
      passes = r.passes;
      smaller = λ m a b z. step m b z r (eq-or-lt_of_le a);
    })
      where
        step : (m : ℕ) → m < seek f d (suc i) → T (f m) → First f (suc i) (seek f d (suc i)) → (i ≡ m) ⊎ (i < m) → ⊥
        step m b z r (inl x) = rw (sym x, e) at z
        step m b z r (inr x) = r.smaller m x b z

-- Where one bead more holds, the vertex picked before v is the smallest that serves, and it is not larger than v.
module _ (G : Dag) (P : Pattern) (k v : ℕ) (t : T (holds? G P (suc k) v)) where
  pub before_first : First (serves? G P k v) 0 (before G P k v)
  unfolding holds? before
  before_first =
      let b = some_below_out (suc v) (serves? G P k v) t in
      seek_first (serves? G P k v) (suc v) 0 b.0 (omega arith) (let l = b.1 in omega arith) b.2

  pub before_holds : T (holds? G P k (before G P k v))
  before_holds = and_l (holds? G P k (before G P k v)) (satisfies? G (P.bead k) (before G P k v) v) before_first.passes

  pub before_le : before G P k v ≤ v
  unfolding holds?
  before_le =
      let b = some_below_out (suc v) (serves? G P k v) t in
      let h : before G P k v < suc b.0 = lt_of_not-le (λ (l : b.0 < before G P k v). before_first.smaller b.0 (omega arith) l b.2) in
      let l = b.1 in
      omega arith
