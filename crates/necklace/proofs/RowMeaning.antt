-- The row of a vertex: its first number is the set of the prefixes that hold, and its pivots are the ones picked backwards, each the
-- smallest that serves. One list of ten numbers is a vertex's row, and no other.
use Prim.Native.Nat.{ℕ, zero, suc, ◌+◌, ◌-◌, ◌^◌, ◌≤◌, ◌<◌}
use mathlib.Core.Path.{◌≡◌, refl, sym, ap, ap₂, ◌∙◌, subst}
use mathlib.Core.Logic.{◌⊎◌, inl, inr, ◌↔◌}
use mathlib.Core.Bool.{not, cond}
use mathlib.Core.List.{List, [], ◌∷◌, ◌++◌}
use native.Mathlib.Nat.{not-suc-le-zero, eq-or-lt_of_le, le_antisymm, lt_of_not-le}
use native.Mathlib.Numerals.{add-one}
use native.Mathlib.Omega.{arith}
use lib.Dec.{T, eqb→eq, T_not}
use lib.ListN.{length, get_or, take, drop, replicate, length-append, length-take, length-replicate, get_or-append}
use lib.Seq.{get_or-append_seam}
use Rattle.sets.specs.Sets.{member}
use Rattle.sets.proofs.Truth.{same, decide, yes_true, no_false}
use Rattle.sets.proofs.Laws.{ext, member-set_of, set_of_below}
use Rattle.necklace.specs.Dag.{Dag, WellFormed}
use Rattle.necklace.specs.Necklace.{Pattern, WellFormedPattern, Satisfies, Holds, Least, Picked, IsRow}
use Rattle.necklace.specs.Compute.{holds?, before, pivots, prefixes, row}
use Rattle.necklace.proofs.Prefixes.{holds_zero, holds_suc, holds_agrees, serves_agrees, before_first, before_holds}

-- ---- the pivots

module _ {c : ℕ} {G : Dag} (g : WellFormed c G) {P : Pattern} (p : WellFormedPattern c P) where
  picked_by : (k v : ℕ) → k ≤ P.count → T (holds? G P k v) → Picked G P k v (pivots G P k v)
  unfolding holds? pivots
  picked_by zero v l t = (eqb→eq v 0 t, refl)
  picked_by (suc k) v l t =
      let f = before_first G P k v t in
      let u : ℕ = before G P k v in (
        u,
        record { has = (serves_agrees g p k v u l).0 f.passes; smaller = λ m a s. f.smaller m (omega arith) a ((serves_agrees g p k v m l).1 s) },
        pivots G P k u,
        picked_by k u (omega arith) (before_holds G P k v t),
        refl,
      )

  -- where the first k beads hold, the pivots are picked
  pub pivots_picked : (k v : ℕ) → k ≤ P.count → Holds G P k v → Picked G P k v (pivots G P k v)
  pivots_picked k v l h = picked_by k v l ((holds_agrees g p k v l).1 h)

-- a picked list is the pivots of a necklace
pub picked_holds : (G : Dag) (P : Pattern) (k v : ℕ) (ps : List ℕ) → Picked G P k v ps
    → (h : Holds G P k v) × (length ps ≡ suc k) × ((j : ℕ) → h.pivot j ≡ get_or ps j 0)
picked_holds G P zero v ps d = (
  record { pivot = λ j. get_or ps j 0; starts = rw d.1 d.0; ends = rw d.1; beads = λ j l. absurd (not-suc-le-zero l) },
  rw d.1,
  λ j. refl,
)
picked_holds G P (suc k) v ps d = go (picked_holds G P k d.0 d.2 d.3)
  where
    u : ℕ
    u = d.0

    qs : List ℕ
    qs = d.2

    go : (h : Holds G P k u) × (length qs ≡ suc k) × ((j : ℕ) → h.pivot j ≡ get_or qs j 0)
        → (h : Holds G P (suc k) v) × (length ps ≡ suc (suc k)) × ((j : ℕ) → h.pivot j ≡ get_or ps j 0)
    go e = (
      record {
        pivot = λ j. get_or ps j 0;
        starts = low 0 (omega arith) ∙ e.0.starts;
        ends = top;
        beads = λ j l. last j (eq-or-lt_of_le l);
      },
      ap length d.4 ∙ length-append qs (v ∷ []) ∙ ap (λ (n : ℕ). n + 1) e.1 ∙ add-one (suc k),
      λ j. refl,
    )
      where
        low : (j : ℕ) → j ≤ k → get_or ps j 0 ≡ e.0.pivot j
        low j l = ap (λ (l : List ℕ). get_or l j 0) d.4 ∙ get_or-append qs (v ∷ []) 0 j (rw e.1 (omega arith)) ∙ sym (e.2 j)

        top : get_or ps (suc k) 0 ≡ v
        top = ap (λ (l : List ℕ). get_or l (suc k) 0) d.4 ∙ ap (get_at (qs ++ (v ∷ []))) (sym e.1) ∙ get_or-append_seam qs v [] 0
          where
            get_at : List ℕ → ℕ → ℕ
            get_at l j = get_or l j 0

        last : (j : ℕ) → (suc j ≡ suc k) ⊎ (suc j < suc k) → Satisfies G (P.bead j) (get_or ps j 0) (get_or ps (suc j) 0)
        last j (inl z) = let i : j ≡ k = omega arith in rw (i, low k (omega arith), top, e.0.ends) d.1.has.next
        last j (inr z) = rw (low j (omega arith), low (suc j) (omega arith)) (e.0.beads j (omega arith))

-- the smallest number is one
pub least_unique : {Q : ℕ → Type 0} {u v : ℕ} → Least Q u → Least Q v → u ≡ v
least_unique {Q} {u} {v} a b = le_antisymm (not_less v u a b.has) (not_less u v b a.has)
  where
    not_less : (x y : ℕ) → Least Q y → Q x → y ≤ x
    not_less x y l q = let h : y < suc x = lt_of_not-le (λ (h : x < y). l.smaller x h q) in omega arith

-- so the picked list is one
pub picked_unique : (G : Dag) (P : Pattern) (k v : ℕ) (ps qs : List ℕ) → Picked G P k v ps → Picked G P k v qs → ps ≡ qs
picked_unique G P zero v ps qs a b = a.1 ∙ sym b.1
picked_unique G P (suc k) v ps qs a b =
    let e = least_unique a.1 b.1 in
    let m : Picked G P k a.0 b.2 = subst (λ (u : ℕ). Picked G P k u b.2) (sym e) b.3 in
    a.4 ∙ ap (λ (l : List ℕ). l ++ (v ∷ [])) (picked_unique G P k a.0 a.2 b.2 a.3 m) ∙ sym b.4

pub pivots_length : (G : Dag) (P : Pattern) (k v : ℕ) → length (pivots G P k v) ≡ suc k
unfolding pivots
pivots_length G P zero v = refl
pivots_length G P (suc k) v =
    length-append (pivots G P k (before G P k v)) (v ∷ []) ∙ ap (λ (n : ℕ). n + 1) (pivots_length G P k (before G P k v)) ∙ add-one (suc k)

-- ---- the set of the prefixes

pub prefixes_member : (G : Dag) (P : Pattern) (v k : ℕ) → k < P.count → member k (prefixes G P v) ≡ holds? G P (suc k) v
unfolding prefixes
prefixes_member G P v k l = member-set_of P.count (λ k. holds? G P (suc k) v) k l

pub prefixes_below : (G : Dag) (P : Pattern) (v : ℕ) → prefixes G P v < 2 ^ P.count
unfolding prefixes
prefixes_below G P v = set_of_below P.count (λ k. holds? G P (suc k) v)

pub row_first : (G : Dag) (P : Pattern) (v : ℕ) → get_or (row G P v) 0 0 ≡ prefixes G P v
unfolding row
row_first G P v = refl

-- ---- the row

take_zeros : (m k : ℕ) → m ≤ k → ◌≡◌ {A = List ℕ} (take m (replicate k 0)) (replicate m 0)
take_zeros zero k l = refl
take_zeros (suc m) zero l = absurd (not-suc-le-zero l)
take_zeros (suc m) (suc k) l = ap (λ (r : List ℕ). 0 ∷ r) (take_zeros m k (omega arith))

-- a list filled up with zeros
padded : (xs : List ℕ) (m k : ℕ) → length xs ≤ m → m ≤ k → take m (xs ++ replicate k 0) ≡ xs ++ replicate (m - length xs) 0
padded [] m k l h = take_zeros m k h ∙ ap (λ (i : ℕ). replicate i 0) (let e : m ≡ m - 0 = omega arith in e)
padded (x ∷ xs) zero k l h = absurd (not-suc-le-zero l)
padded (x ∷ xs) (suc m) k l h =
    ap (λ (r : List ℕ). x ∷ r) (padded xs m k (omega arith) (omega arith)
    ∙ ap (λ (i : ℕ). xs ++ replicate i 0) (let e : m - length xs ≡ suc m - suc (length xs) = omega arith in e))

padded_length : (xs : List ℕ) (k : ℕ) → length (take k (xs ++ replicate k 0)) ≡ k
padded_length xs k = length-take k (xs ++ replicate k 0) ∙ rw (length-append xs (replicate k 0), length-replicate {A = ℕ} k 0) (omega arith)

pub length-row : (G : Dag) (P : Pattern) (v : ℕ) → length (row G P v) ≡ 10
unfolding row
length-row G P v = ap suc (padded_length (cond (holds? G P P.count v) (pivots G P P.count v) []) 9)

-- the nine numbers after the first, where the pattern holds and where it fails
pub row_pivots : (G : Dag) (P : Pattern) (v : ℕ) → P.count ≤ 8 → T (holds? G P P.count v)
    → drop 1 (row G P v) ≡ pivots G P P.count v ++ replicate (8 - P.count) 0
unfolding row
row_pivots G P v l t = rw (yes_true (holds? G P P.count v) t)
    (padded (pivots G P P.count v) 9 9 (omega (arith, len)) (omega arith)
    ∙ ap (λ (i : ℕ). pivots G P P.count v ++ replicate i 0) (let e : 9 - length (pivots G P P.count v) ≡ 8 - P.count = omega (arith, len) in e))
  where
    len : length (pivots G P P.count v) ≡ suc P.count
    len = pivots_length G P P.count v

pub row_fails : (G : Dag) (P : Pattern) (v : ℕ) → (T (holds? G P P.count v) → ⊥) → drop 1 (row G P v) ≡ replicate 9 0
unfolding row
row_fails G P v f = rw (no_false (holds? G P P.count v) f)

cons_of : (r : List ℕ) → length r ≡ 10 → r ≡ get_or r 0 0 ∷ drop 1 r
cons_of [] e = absurd (omega arith)
cons_of (x ∷ xs) e = refl

module _ {c : ℕ} {G : Dag} (g : WellFormed c G) {P : Pattern} (p : WellFormedPattern c P) (v : ℕ) where
  whole_agrees : T (holds? G P P.count v) ↔ Holds G P P.count v
  whole_agrees = holds_agrees g p P.count v (omega arith)

  -- the row that is computed is the row
  pub row_meaning : IsRow G P v (row G P v)
  row_meaning = record {
    ten = length-row G P v;
    prefixes = λ k l.
        let e : member k (get_or (row G P v) 0 0) ≡ holds? G P (suc k) v = ap (member k) (row_first G P v) ∙ prefixes_member G P v k l in
        let a = holds_agrees g p (suc k) v l in
        (λ t. a.0 (subst T e t), λ h. subst T (sym e) (a.1 h));
    no_more = subst (λ (n : ℕ). n < 2 ^ P.count) (sym (row_first G P v)) (prefixes_below G P v);
    whole = λ h. (pivots G P P.count v, pivots_picked g p P.count v (omega arith) h, row_pivots G P v p.at_most (whole_agrees.1 h));
    fails = λ f. row_fails G P v (λ t. f (whole_agrees.0 t));
  }

  -- and the only one
  pub row_unique : (r : List ℕ) → IsRow G P v r → r ≡ row G P v
  row_unique r a =
      cons_of r a.ten ∙ ap₂ (λ (x : ℕ) (xs : List ℕ). x ∷ xs) first (rest (decide (holds? G P P.count v)))
      ∙ sym (cons_of (row G P v) (length-row G P v))
    where
      b : IsRow G P v (row G P v)
      b = row_meaning

      first : get_or r 0 0 ≡ get_or (row G P v) 0 0
      first = ext P.count (get_or r 0 0) (get_or (row G P v) 0 0) a.no_more b.no_more
          (λ k l. same (member k (get_or r 0 0)) (member k (get_or (row G P v) 0 0))
          (λ t. (b.prefixes k l).1 ((a.prefixes k l).0 t)) (λ t. (a.prefixes k l).1 ((b.prefixes k l).0 t)))

      rest : T (holds? G P P.count v) ⊎ T (not (holds? G P P.count v)) → drop 1 r ≡ drop 1 (row G P v)
      rest (inl t) =
          let h = whole_agrees.0 t in
          let x = a.whole h in
          let y = b.whole h in
          x.2 ∙ ap (λ (l : List ℕ). l ++ replicate (8 - P.count) 0) (picked_unique G P P.count v x.0 y.0 x.1 y.1) ∙ sym y.2
      rest (inr t) =
          let f : Holds G P P.count v → ⊥ = λ h. T_not (holds? G P P.count v) t (whole_agrees.1 h) in
          a.fails f ∙ sym (b.fails f)

  -- bit 0 of the row: the first bead holds on (0, v)
  pub first_bit : T (member 0 (get_or (row G P v) 0 0)) ↔ Satisfies G (P.bead 0) 0 v
  first_bit =
      let a = row_meaning.prefixes 0 p.some_bead in (
        λ t. let s = (holds_suc 0 v).0 (a.0 t) in subst (λ (u : ℕ). Satisfies G (P.bead 0) u v) ((holds_zero s.0).0 s.1.earlier) s.1.next,
        λ s. a.1 ((holds_suc 0 v).1 (0, record { earlier = (holds_zero 0).1 refl; next = s })),
      )
