-- The walk back: what stands at the places of the pivots, turn by turn.
-- Assumes nothing.
use Prim.Native.Nat.{ℕ, zero, suc, ◌+◌, ◌-◌, ◌*◌, ◌≤◌, ◌<◌}
use mathlib.Core.Path.{◌≡◌, refl, sym, ap, ◌∙◌, subst}
use mathlib.Core.Bool.{Bool, true, false}
use mathlib.Core.List.{List}
use native.Mathlib.Decide.{ℕ_discrete, dec_lt}
use native.Mathlib.Omega.{arith}
use borrow.Author.Tests.{lt-ltb, le-ltb, le-leb, lt-leb, eq-eqb, ne_eqb}
use lib.Dec.{T}
use lib.ListN.{length, get_or, set}
use lib.Seq.{get_or-set_same, get_or-set_other}
use Rattle.sets.proofs.Truth.{true_yes, yes_true, false_no}
use Rattle.necklace.specs.Dag.{Dag}
use Rattle.necklace.specs.Necklace.{Pattern}
use Rattle.necklace.specs.Compute.{holds?, serves?}
use Rattle.necklace.proofs.Prefixes.{First, before_first}
use Rattle.layout.specs.Layout.{most_steps}
use Rattle.rows.specs.Rows.{pivot_at}
use Rattle.prefix_phase.proofs.PrefixPhase.{one_turn}
use Rattle.walk_places.specs.Walked.{pivot_back, pivot_of, sought, looked, Walked, WalkedBack}
use Rattle.walk_places.proofs.PivotLaws.{back_none, back_more, back_holds}

-- A vertex's place among the pivots of a bead is no other's.
one_place : (j w k v : ℕ) → w < most_steps → v < most_steps → pivot_at j w ≡ pivot_at k v → (j ≡ k) × (w ≡ v)
one_place j w k v h l e =
    let q : j * most_steps + w ≡ k * most_steps + v = omega arith in
    one_turn most_steps j w k v h l q

-- ---- how many candidates have been looked at

module _ (n left from to step j v : ℕ) where
  pub looked_all : left ≤ j → looked n left from to step j v ≡ n
  unfolding looked
  looked_all h = rw (le-leb left j h) refl

  pub looked_none : suc j < left → looked n left from to step j v ≡ 0
  unfolding looked
  looked_none h = rw (lt-leb left j (omega arith), ne_eqb (suc j) left (λ e. absurd (omega arith))) refl

  pub looked_past : suc j ≡ left → v < step → looked n left from to step j v ≡ to
  unfolding looked
  looked_past e h = rw (lt-leb left j (omega arith), eq-eqb (suc j) left e, lt-ltb v step h) refl

  pub looked_rest : suc j ≡ left → step ≤ v → looked n left from to step j v ≡ from
  unfolding looked
  looked_rest e h = rw (lt-leb left j (omega arith), eq-eqb (suc j) left e, le-ltb v step h) refl

-- for another bead than the last one left it does not matter which turn it is
looked_other : (n left from to step from' to' step' j v : ℕ) → (suc j ≡ left → ⊥) → looked n left from to step j v ≡ looked n left from' to' step' j v
looked_other n left from to step from' to' step' j v ne = go (dec_lt j left)
  where
    go : Dec (j < left) → looked n left from to step j v ≡ looked n left from' to' step' j v
    go (yes h) = let l : suc j < left = below h ne in looked_none n left from to step j v l ∙ sym (looked_none n left from' to' step' j v l)
      where
        below : j < left → (suc j ≡ left → ⊥) → suc j < left
        below h ne = omega arith
    go (no h) = looked_all n left from to step j v (omega arith) ∙ sym (looked_all n left from' to' step' j v (omega arith))

module _ (G : Dag) (P : Pattern) (n : ℕ) where
  -- ---- the pivots of a vertex

  module _ (v : ℕ) (t : T (holds? G P P.count v)) where
    back_at : (j : ℕ) → j ≤ P.count → T (holds? G P j (pivot_of G P j v)) × (pivot_of G P j v ≤ v)
    unfolding pivot_of
    back_at j h = let e : P.count ≡ j + (P.count - j) = omega arith in back_holds G P j (P.count - j) v (subst (λ (k : ℕ). T (holds? G P k v)) e t)

    pub pivot_last : pivot_of G P P.count v ≡ v
    unfolding pivot_of
    pivot_last = let e : P.count - P.count ≡ 0 = omega arith in ap (λ (d : ℕ). pivot_back G P P.count d v) e ∙ back_none G P P.count v

    pub pivot_le : (j : ℕ) → j ≤ P.count → pivot_of G P j v ≤ v
    pivot_le j h = (back_at j h).1

    -- a pivot is the smallest that serves before the next
    pub pivot_first : (j : ℕ) → j < P.count → First (serves? G P j (pivot_of G P (suc j) v)) 0 (pivot_of G P j v)
    unfolding pivot_of
    pivot_first j h =
        let e : P.count - j ≡ suc (P.count - suc j) = omega arith in
        subst (λ (u : ℕ). First (serves? G P j (pivot_of G P (suc j) v)) 0 u)
        (sym (ap (λ (d : ℕ). pivot_back G P j d v) e ∙ back_more G P j (P.count - suc j) v))
        (before_first G P j (pivot_of G P (suc j) v) (back_at (suc j) h).0)

  -- ---- what stands at a place

  module _ (j u v : ℕ) where
    sought_fails : holds? G P P.count v ≡ false → sought G P n j u v ≡ 0
    unfolding sought
    sought_fails e = rw e refl

    sought_found : holds? G P P.count v ≡ true → pivot_of G P j v < u → sought G P n j u v ≡ pivot_of G P j v
    unfolding sought
    sought_found e h = rw (e, lt-ltb (pivot_of G P j v) u h) refl

    sought_open : holds? G P P.count v ≡ true → u ≤ pivot_of G P j v → sought G P n j u v ≡ n
    unfolding sought
    sought_open e h = rw (e, le-ltb (pivot_of G P j v) u h) refl

    -- it is n just while v searches
    pub sought_n : j ≤ P.count → v < n → sought G P n j u v ≡ n → T (holds? G P P.count v) × (u ≤ pivot_of G P j v)
    sought_n c l e = go (holds? G P P.count v) refl
      where
        rest : T (holds? G P P.count v) → Dec (pivot_of G P j v < u) → u ≤ pivot_of G P j v
        rest t (yes h) = let z = sought_found (yes_true (holds? G P P.count v) t) h in let k = pivot_le v t j c in absurd (omega arith)
        rest t (no h) = omega arith

        go : (b : Bool) → holds? G P P.count v ≡ b → T (holds? G P P.count v) × (u ≤ pivot_of G P j v)
        go true h = let t = true_yes (holds? G P P.count v) h in (t, rest t (dec_lt (pivot_of G P j v) u))
        go false h = let z = sought_fails h in absurd (omega arith)

  -- two counts of candidates between which no pivot lies leave the same
  sought_same : (j u w v : ℕ) → u ≤ w → (T (holds? G P P.count v) → u ≤ pivot_of G P j v → w ≤ pivot_of G P j v) → sought G P n j u v ≡ sought G P n j w v
  sought_same j u w v h f = go (holds? G P P.count v) refl
    where
      at : holds? G P P.count v ≡ true → Dec (pivot_of G P j v < u) → sought G P n j u v ≡ sought G P n j w v
      at e (yes l) = sought_found j u v e l ∙ sym (sought_found j w v e (omega arith))
      at e (no l) = sought_open j u v e (omega arith) ∙ sym (sought_open j w v e (f (true_yes (holds? G P P.count v) e) (omega arith)))

      go : (b : Bool) → holds? G P P.count v ≡ b → sought G P n j u v ≡ sought G P n j w v
      go true e = at e (dec_lt (pivot_of G P j v) u)
      go false e = sought_fails j u v e ∙ sym (sought_fails j w v e)

  -- ---- from turn to turn, while the bead at place k is the last one left

  module _ (k : ℕ) (bead : k < P.count) where
    -- new numbers of a turn that leave the same at the places of the bead
    turned : (from to step from' to' step' : ℕ) (pivots : List ℕ) → Walked G P n (suc k) from to step pivots
        → ((v : ℕ) → v < n → sought G P n k (looked n (suc k) from to step k v) v ≡ sought G P n k (looked n (suc k) from' to' step' k v) v)
        → Walked G P n (suc k) from' to' step' pivots
    turned from to step from' to' step' pivots w same = record { last = w.last; places = λ j v c l. go j v c l (ℕ_discrete j k) }
      where
        go : (j v : ℕ) → j < P.count → v < n → Dec (j ≡ k) → get_or pivots (pivot_at j v) 0 ≡ sought G P n j (looked n (suc k) from' to' step' j v) v
        go j v c l (yes e) = rw e (w.places k v bead l ∙ same v l)
        go j v c l (no e) = w.places j v c l ∙ ap (λ (u : ℕ). sought G P n j u v) (looked_other n (suc k) from to step from' to' step' j v (λ z. e (omega arith)))

    -- at its first step it does not matter where the candidates of a turn end: earlier steps have their pivots
    pub walked_to : (from to to' : ℕ) (pivots : List ℕ) → from ≤ to → from ≤ to' → Walked G P n (suc k) from to from pivots → Walked G P n (suc k) from to' from pivots
    walked_to from to to' pivots h h' w = turned from to from from to' from pivots w (λ v l. go v (dec_lt v from))
      where
        go : (v : ℕ) → Dec (v < from) → sought G P n k (looked n (suc k) from to from k v) v ≡ sought G P n k (looked n (suc k) from to' from k v) v
        go v (yes l) =
            ap (λ (u : ℕ). sought G P n k u v) (looked_past n (suc k) from to from k v refl l)
            ∙ sym (sought_same k from to v h (λ s z. let q = pivot_le v s k (omega arith) in absurd (omega arith)))
            ∙ sought_same k from to' v h' (λ s z. let q = pivot_le v s k (omega arith) in absurd (omega arith))
            ∙ sym (ap (λ (u : ℕ). sought G P n k u v) (looked_past n (suc k) from to' from k v refl l))
        go v (no l) =
            ap (λ (u : ℕ). sought G P n k u v)
            (looked_rest n (suc k) from to from k v refl (omega arith) ∙ sym (looked_rest n (suc k) from to' from k v refl (omega arith)))

    -- after its last step the next candidates are due
    pub walked_on : (from to step : ℕ) (pivots : List ℕ) → n ≤ step → Walked G P n (suc k) from to step pivots → Walked G P n (suc k) to to to pivots
    walked_on from to step pivots h w =
        turned from to step to to to pivots w
        (λ v l. ap (λ (u : ℕ). sought G P n k u v) (looked_past n (suc k) from to step k v refl (omega arith) ∙ sym (go v (dec_lt v to))))
      where
        go : (v : ℕ) → Dec (v < to) → looked n (suc k) to to to k v ≡ to
        go v (yes l) = looked_past n (suc k) to to to k v refl l
        go v (no l) = looked_rest n (suc k) to to to k v refl (omega arith)

    -- or the bead before, if all have been looked at
    pub walked_down : (from to step : ℕ) (pivots : List ℕ) → n ≤ step → Walked G P n (suc k) from n step pivots → Walked G P n k 0 to 0 pivots
    walked_down from to step pivots h w = record { last = w.last; places = λ j v c l. w.places j v c l ∙ ap (λ (u : ℕ). sought G P n j u v) (go j v l (dec_lt j k) (ℕ_discrete j k) (ℕ_discrete (suc j) k)) }
      where
        go : (j v : ℕ) → v < n → Dec (j < k) → Dec (j ≡ k) → Dec (suc j ≡ k) → looked n (suc k) from n step j v ≡ looked n k 0 to 0 j v
        go j v l (yes a) e (yes b) = looked_none n (suc k) from n step j v (omega arith) ∙ sym (looked_rest n k 0 to 0 j v b (omega arith))
        go j v l (yes a) e (no b) = looked_none n (suc k) from n step j v (omega arith) ∙ sym (looked_none n k 0 to 0 j v (below a b))
          where
            below : j < k → (suc j ≡ k → ⊥) → suc j < k
            below a b = omega arith
        go j v l (no a) (yes e) b = looked_past n (suc k) from n step j v (omega arith) (omega arith) ∙ sym (looked_all n k 0 to 0 j v (omega arith))
        go j v l (no a) (no e) b = looked_all n (suc k) from n step j v (above a e) ∙ sym (looked_all n k 0 to 0 j v (omega arith))
          where
            above : (j < k → ⊥) → (j ≡ k → ⊥) → suc k ≤ j
            above a e = omega arith

    module _ (from to step v : ℕ) (inside : v < n) (pivots : List ℕ) (w : Walked G P n (suc k) from to step pivots) where
      -- the target of v is the pivot picked last
      next_place : T (holds? G P P.count v) → get_or pivots (pivot_at (suc k) v) 0 ≡ pivot_of G P (suc k) v
      next_place s = go (ℕ_discrete (suc k) P.count)
        where
          go : Dec (suc k ≡ P.count) → get_or pivots (pivot_at (suc k) v) 0 ≡ pivot_of G P (suc k) v
          go (yes e) = ap (λ (j : ℕ). get_or pivots (pivot_at j v) 0) e ∙ w.last v inside ∙ sym (ap (λ (j : ℕ). pivot_of G P j v) e ∙ pivot_last v s)
          go (no e) =
              let c : suc k < P.count = below bead e in
              let l = pivot_le v s (suc k) (omega arith) in
              w.places (suc k) v c inside ∙ ap (λ (u : ℕ). sought G P n (suc k) u v) (looked_all n (suc k) from to step (suc k) v (omega arith))
              ∙ sought_found (suc k) n v (yes_true (holds? G P P.count v) s) (omega arith)
            where
              below : k < P.count → (suc k ≡ P.count → ⊥) → suc k < P.count
              below b e = omega arith

      -- and a step, whether the pattern holds or not
      pub next_small : get_or pivots (pivot_at (suc k) v) 0 < n
      next_small = go (holds? G P P.count v) refl (ℕ_discrete (suc k) P.count)
        where
          go : (b : Bool) → holds? G P P.count v ≡ b → Dec (suc k ≡ P.count) → get_or pivots (pivot_at (suc k) v) 0 < n
          go true e d = let s = true_yes (holds? G P P.count v) e in let z = next_place s in let l = pivot_le v s (suc k) (omega arith) in omega arith
          go false e (yes d) = let z : get_or pivots (pivot_at (suc k) v) 0 ≡ v = ap (λ (j : ℕ). get_or pivots (pivot_at j v) 0) d ∙ w.last v inside in omega arith
          go false e (no d) =
              let z : get_or pivots (pivot_at (suc k) v) 0 ≡ 0 =
              w.places (suc k) v (below bead d) inside ∙ sought_fails (suc k) (looked n (suc k) from to step (suc k) v) v e in
              omega arith
            where
              below : k < P.count → (suc k ≡ P.count → ⊥) → suc k < P.count
              below b e = omega arith

    -- ---- a step of a turn: candidates from `from` on and below `to`

    module _ (from to v : ℕ) (some : from ≤ to) (most : to ≤ n) (inside : v < n) (small : n ≤ most_steps) (pivots : List ℕ) (w : Walked G P n (suc k) from to v pivots) where
      pub own_place : get_or pivots (pivot_at k v) 0 ≡ sought G P n k from v
      own_place = w.places k v bead inside ∙ ap (λ (u : ℕ). sought G P n k u v) (looked_rest n (suc k) from to v k v refl (omega arith))

      -- nothing is put down
      pub walked_skip : (get_or pivots (pivot_at k v) 0 ≡ n → (u : ℕ) → from ≤ u → u < to → serves? G P k (get_or pivots (pivot_at (suc k) v) 0) u ≡ false)
          → Walked G P n (suc k) from to (v + 1) pivots
      walked_skip none = turned from to v from to (v + 1) pivots w (λ u l. go u (dec_lt u v) (ℕ_discrete u v))
        where
          stays : T (holds? G P P.count v) → from ≤ pivot_of G P k v → to ≤ pivot_of G P k v
          stays s h = cut (dec_lt (pivot_of G P k v) to)
            where
              empty : get_or pivots (pivot_at k v) 0 ≡ n
              empty = own_place ∙ sought_open k from v (yes_true (holds? G P P.count v) s) h

              cut : Dec (pivot_of G P k v < to) → to ≤ pivot_of G P k v
              cut (yes l) =
                  absurd (false_no (serves? G P k (pivot_of G P (suc k) v) (pivot_of G P k v))
                  (ap (λ (p : ℕ). serves? G P k p (pivot_of G P k v)) (sym (next_place from to v v inside pivots w s)) ∙ none empty (pivot_of G P k v) h l) (pivot_first v s k bead).passes)
              cut (no l) = omega arith

          go : (u : ℕ) → Dec (u < v) → Dec (u ≡ v) → sought G P n k (looked n (suc k) from to v k u) u ≡ sought G P n k (looked n (suc k) from to (v + 1) k u) u
          go u (yes h) d =
              ap (λ (x : ℕ). sought G P n k x u) (looked_past n (suc k) from to v k u refl h ∙ sym (looked_past n (suc k) from to (v + 1) k u refl (omega arith)))
          go u (no h) (yes e) =
              ap (λ (x : ℕ). sought G P n k x u) (looked_rest n (suc k) from to v k u refl (omega arith))
              ∙ rw e (sought_same k from to v some stays)
              ∙ sym (ap (λ (x : ℕ). sought G P n k x u) (looked_past n (suc k) from to (v + 1) k u refl (omega arith)))
          go u (no h) (no e) =
              ap (λ (x : ℕ). sought G P n k x u)
              (looked_rest n (suc k) from to v k u refl (omega arith) ∙ sym (looked_rest n (suc k) from to (v + 1) k u refl (after h e)))
            where
              after : (u < v → ⊥) → (u ≡ v → ⊥) → v + 1 ≤ u
              after h e = omega arith

      -- the smallest that serves is put down
      pub walked_put : (x : ℕ) → get_or pivots (pivot_at k v) 0 ≡ n → from ≤ x → x < to → serves? G P k (get_or pivots (pivot_at (suc k) v) 0) x ≡ true
          → ((u : ℕ) → from ≤ u → u < x → serves? G P k (get_or pivots (pivot_at (suc k) v) 0) u ≡ false) → pivot_at k v < length pivots
          → Walked G P n (suc k) from to (v + 1) (set pivots (pivot_at k v) x)
      walked_put x empty low high serves none room = record {
        last = λ u l. get_or-set_other pivots (pivot_at k v) (pivot_at P.count u) x 0 (λ e. absurd (let q = (same P.count u l e).0 in omega arith)) ∙ w.last u l;
        places = λ j u c l. go j u c l (ℕ_discrete j k) (ℕ_discrete u v);
      }
        where
          same : (j u : ℕ) → u < n → pivot_at j u ≡ pivot_at k v → (j ≡ k) × (u ≡ v)
          same j u l e = one_place j u k v (omega arith) (omega arith) e

          searching : T (holds? G P P.count v) × (from ≤ pivot_of G P k v)
          searching = sought_n k from v (omega arith) inside (sym own_place ∙ empty)

          target : get_or pivots (pivot_at (suc k) v) 0 ≡ pivot_of G P (suc k) v
          target = next_place from to v v inside pivots w searching.0

          least : First (serves? G P k (pivot_of G P (suc k) v)) 0 (pivot_of G P k v)
          least = pivot_first v searching.0 k bead

          is : x ≡ pivot_of G P k v
          is = cut (dec_lt x (pivot_of G P k v)) (dec_lt (pivot_of G P k v) x)
            where
              cut : Dec (x < pivot_of G P k v) → Dec (pivot_of G P k v < x) → x ≡ pivot_of G P k v
              cut (yes l) d =
                  absurd (least.smaller x (omega arith) l
                  (true_yes (serves? G P k (pivot_of G P (suc k) v) x) (ap (λ (p : ℕ). serves? G P k p x) (sym target) ∙ serves)))
              cut (no l) (yes d) =
                  absurd (false_no (serves? G P k (pivot_of G P (suc k) v) (pivot_of G P k v))
                  (ap (λ (p : ℕ). serves? G P k p (pivot_of G P k v)) (sym target) ∙ none (pivot_of G P k v) searching.1 d) least.passes)
              cut (no l) (no d) = omega arith

          -- another place is left alone
          kept : (j u : ℕ) → j < P.count → u < n → ((j ≡ k) × (u ≡ v) → ⊥) → looked n (suc k) from to v j u ≡ looked n (suc k) from to (v + 1) j u
              → get_or (set pivots (pivot_at k v) x) (pivot_at j u) 0 ≡ sought G P n j (looked n (suc k) from to (v + 1) j u) u
          kept j u c l other e =
              get_or-set_other pivots (pivot_at k v) (pivot_at j u) x 0 (λ z. other (same j u l z)) ∙ w.places j u c l ∙ ap (λ (y : ℕ). sought G P n j y u) e

          own : (u : ℕ) → (u ≡ v → ⊥) → Dec (u < v) → looked n (suc k) from to v k u ≡ looked n (suc k) from to (v + 1) k u
          own u ne (yes h) = looked_past n (suc k) from to v k u refl h ∙ sym (looked_past n (suc k) from to (v + 1) k u refl (omega arith))
          own u ne (no h) = looked_rest n (suc k) from to v k u refl (omega arith) ∙ sym (looked_rest n (suc k) from to (v + 1) k u refl (after h ne))
            where
              after : (u < v → ⊥) → (u ≡ v → ⊥) → v + 1 ≤ u
              after h e = omega arith

          go : (j u : ℕ) → j < P.count → u < n → Dec (j ≡ k) → Dec (u ≡ v) → get_or (set pivots (pivot_at k v) x) (pivot_at j u) 0 ≡ sought G P n j (looked n (suc k) from to (v + 1) j u) u
          go j u c l (yes e) (yes z) =
              rw (e, z) (get_or-set_same pivots (pivot_at k v) x 0 room ∙ is
              ∙ sym (ap (λ (y : ℕ). sought G P n k y v) (looked_past n (suc k) from to (v + 1) k v refl (omega arith))
              ∙ sought_found k to v (yes_true (holds? G P P.count v) searching.0) (let q = is in omega arith)))
          go j u c l (yes e) (no z) =
              kept j u c l (λ q. z q.1) (subst (λ (i : ℕ). looked n (suc k) from to v i u ≡ looked n (suc k) from to (v + 1) i u) (sym e) (own u z (dec_lt u v)))
          go j u c l (no e) z = kept j u c l (λ q. e q.0) (looked_other n (suc k) from to v from to (v + 1) j u (λ y. e (omega arith)))

    -- steps are passed over that do not search, or for which no candidate serves
    pub walked_along : (from to d v : ℕ) → from ≤ to → to ≤ n → n ≤ most_steps → v + d ≤ n → (pivots : List ℕ) → Walked G P n (suc k) from to v pivots
        → ((w : ℕ) → v ≤ w → w < v + d → Walked G P n (suc k) from to w pivots → get_or pivots (pivot_at k w) 0 ≡ n → (u : ℕ) → from ≤ u → u < to
        → serves? G P k (get_or pivots (pivot_at (suc k) w) 0) u ≡ false)
        → Walked G P n (suc k) from to (v + d) pivots
    walked_along from to zero v a b c h pivots w none = let e : v ≡ v + 0 = omega arith in subst (λ (x : ℕ). Walked G P n (suc k) from to x pivots) e w
    walked_along from to (suc d) v a b c h pivots w none =
        let e : v + 1 + d ≡ v + suc d = omega arith in
        subst (λ (x : ℕ). Walked G P n (suc k) from to x pivots) e
        (walked_along from to d (v + 1) a b c (omega arith) pivots
        (walked_skip from to v a b (omega arith) c pivots w (λ z u f g. none v (omega arith) (omega arith) w z u f g))
        (λ x f g. none x (omega arith) (omega arith)))

  -- after all turns no bead is left
  pub walked_done : (from to step : ℕ) (pivots : List ℕ) → Walked G P n 0 from to step pivots → WalkedBack G P n pivots
  unfolding pivot_of
  walked_done from to step pivots w = record { places = λ k v c l s. go k v c l s (ℕ_discrete k P.count) }
    where
      go : (k v : ℕ) → k ≤ P.count → v < n → T (holds? G P P.count v) → Dec (k ≡ P.count) → get_or pivots (pivot_at k v) 0 ≡ pivot_back G P k (P.count - k) v
      go k v c l s (yes z) = rw z (w.last v l ∙ sym (pivot_last v s))
      go k v c l s (no z) =
          let p = pivot_le v s k c in
          w.places k v (below c z) l ∙ ap (λ (u : ℕ). sought G P n k u v) (looked_all n 0 from to step k v (omega arith))
          ∙ sought_found k n v (yes_true (holds? G P P.count v) s) (omega arith)
        where
          below : k ≤ P.count → (k ≡ P.count → ⊥) → k < P.count
          below c z = omega arith
