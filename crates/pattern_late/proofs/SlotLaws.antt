-- The slots of a buffer are the rows that it holds, in their order, and 15 and 16 of a slot are those of its row.
-- Assumes nothing.
use mathlib.Core.Path.{◌≡◌, refl, sym, ap, ap₂, ◌∙◌}
use mathlib.Core.Bool.{Bool, true, false, not, cond, ◌&&◌, ◌||◌}
use mathlib.Core.List.{List, [], ◌∷◌, map}
use Prim.Native.Nat.{ℕ, zero, suc, ◌+◌, ◌*◌, ◌/◌, ◌%◌, ◌≤◌, ◌<◌}
use native.Mathlib.Omega.{arith}
use borrow.Author.Tests.{eq-eqb, ne_eqb, eqb-true, eqb-false}
use lib.Dec.{eqb, ltb}
use lib.ListN.{length, get_or, take, drop, length-take, length-drop}
use lib.Seq.{get_or-take, get_or-drop, ext_get_or}
use Rattle.rules.specs.Rules.{needs_one_next}
use Rattle.layout.specs.Layout.{most_labels, most_states, all_states, rule_at, states_at, sets_a_state, sets_a_bead, sets_begin}
use Rattle.text.proofs.WalkLaws.{walk_nil, walk_cons}
use Rattle.sets.specs.Sets.{cons_if}
use Rattle.text.specs.Walk.{Judged, refused, passed, Outcome, accepted, faulty, proceed, walk}
use Rattle.pattern_order.specs.StateLine.{StateLine}
use Rattle.pattern_store.specs.Next.{states_of, all_within, all_single}
use Rattle.pattern_store.specs.Format.{Known, judge_next}
use Rattle.pattern_store.specs.Buffer.{rule_of_bead, is_at}
use Rattle.pattern_late.specs.Late.{Bounded, sets_at, judge_slot, has_state, slots_from, late_faults, slot_at}
use Rattle.pattern_store.proofs.RowsLaws.{has_row, AllOf, all_map, Placed, slot_of, Ascends, Sound}
use Rattle.pattern_store.proofs.BufferLaws.{Holds}

-- ---- which slots there are

-- Some row has the slot s.
unfoldable pub has_slot : List StateLine → ℕ → Bool
has_slot [] s = false
has_slot (r ∷ rows) s = eqb (slot_of r) s || has_slot rows s

below_first : (m : ℕ) (rows : List StateLine) (s : ℕ) → Ascends m rows → s < m → has_slot rows s ≡ false
unfolding has_slot Ascends
below_first m [] s a h = refl
below_first m (r ∷ rows) s a h =
    let l = a.0 in
    rw (ne_eqb (slot_of r) s (omega arith)) (below_first (slot_of r + 1) rows s a.1 (omega arith))

slots_none : (b : List ℕ) (i : ℕ) → slots_from b 0 i ≡ []
unfolding slots_from
slots_none b i = refl

slots_one : (b : List ℕ) (d i : ℕ) → slots_from b (suc d) i ≡ cons_if (has_state b i) i (slots_from b d (i + 1))
unfolding slots_from
slots_one b d i = refl

slots_rows : (b : List ℕ) (d i : ℕ) (rows : List StateLine) → Ascends i rows → AllOf (λ r. slot_of r < i + d) rows
    → ((s : ℕ) → i ≤ s → s < i + d → has_state b s ≡ has_slot rows s) → slots_from b d i ≡ map slot_of rows
unfolding has_slot Ascends AllOf
slots_rows b zero i [] a l f = slots_none b i
slots_rows b zero i (r ∷ rows) a l f = let h = a.0 in let k = l.0 in absurd (omega arith)
slots_rows b (suc d) i [] a l f =
    slots_one b d i ∙ ap (λ (t : Bool). cons_if t i (slots_from b d (i + 1))) (f i (omega arith) (omega arith))
    ∙ slots_rows b d (i + 1) [] tt tt (λ s h k. f s (omega arith) (omega arith))
slots_rows b (suc d) i (r ∷ rows) a l f = slots_one b d i ∙ go (eqb (slot_of r) i) refl (slots_rows b d (i + 1) rows) (slots_rows b d (i + 1) (r ∷ rows))
  where
    go : (t : Bool) → eqb (slot_of r) i ≡ t
        → (Ascends (i + 1) rows → AllOf (λ p. slot_of p < i + 1 + d) rows → ((s : ℕ) → i + 1 ≤ s → s < i + 1 + d → has_state b s ≡ has_slot rows s)
        → slots_from b d (i + 1) ≡ map slot_of rows)
        → (Ascends (i + 1) (r ∷ rows) → AllOf (λ p. slot_of p < i + 1 + d) (r ∷ rows)
        → ((s : ℕ) → i + 1 ≤ s → s < i + 1 + d → has_state b s ≡ has_slot (r ∷ rows) s) → slots_from b d (i + 1) ≡ map slot_of (r ∷ rows))
        → cons_if (has_state b i) i (slots_from b d (i + 1)) ≡ map slot_of (r ∷ rows)
    go true e rest whole =
        let z = eqb-true (slot_of r) i e in
        let y : has_state b i ≡ true = f i (omega arith) (omega arith) ∙ rw e refl in
        ap (λ (t : Bool). cons_if t i (slots_from b d (i + 1))) y
        ∙ ap₂ (λ (x : ℕ) (xs : List ℕ). x ∷ xs) (sym z)
        (rest (rw z at a.1) (all_map (λ p. slot_of p < i + suc d) (λ p. slot_of p < i + 1 + d) (λ p h. omega arith) rows l.1)
        (λ s h k. f s (omega arith) (omega arith) ∙ rw (ne_eqb (slot_of r) s (omega arith)) refl))
    go false e rest whole =
        let z = eqb-false (slot_of r) i e in
        let h = a.0 in
        let up : Ascends (i + 1) (r ∷ rows) = (omega arith, a.1) in
        ap (λ (t : Bool). cons_if t i (slots_from b d (i + 1))) (f i (omega arith) (omega arith) ∙ below_first (i + 1) (r ∷ rows) i up (omega arith))
        ∙ whole up (all_map (λ p. slot_of p < i + suc d) (λ p. slot_of p < i + 1 + d) (λ p q. omega arith) (r ∷ rows) l)
        (λ s g k. f s (omega arith) (omega arith))

row_slot : (r : StateLine) (s : ℕ) → 1 ≤ r.bead → r.state < most_states → is_at r (s / most_states + 1) (s % most_states) ≡ eqb (slot_of r) s
row_slot r s h k = go (eqb r.bead (s / most_states + 1)) refl (eqb r.state (s % most_states)) refl
  where
    go : (t : Bool) → eqb r.bead (s / most_states + 1) ≡ t → (u : Bool) → eqb r.state (s % most_states) ≡ u → (t && u) ≡ eqb (slot_of r) s
    go true e true f =
        let x = eqb-true r.bead (s / most_states + 1) e in
        let y = eqb-true r.state (s % most_states) f in
        sym (eq-eqb (slot_of r) s (omega arith))
    go true e false f = let y = eqb-false r.state (s % most_states) f in sym (ne_eqb (slot_of r) s (λ z. y (omega arith)))
    go false e u f = let x = eqb-false r.bead (s / most_states + 1) e in sym (ne_eqb (slot_of r) s (λ z. x (omega arith)))

rows_slots : (rows : List StateLine) (s : ℕ) → AllOf (λ r. (1 ≤ r.bead) × (r.state < most_states)) rows → has_row rows (s / most_states + 1) (s % most_states) ≡ has_slot rows s
unfolding has_row has_slot AllOf
rows_slots [] s a = refl
rows_slots (r ∷ rows) s a = ap₂ (λ (x y : Bool). x || y) (row_slot r s a.0.0 a.0.1) (rows_slots rows s a.1)

-- ---- 15 and 16

judged_as : {S : Type 0} → S → Judged (Unit {0}) → Judged S
judged_as s (refused n) = refused n
judged_as s (passed u) = passed s

unfoldable pub outcome_as : {S : Type 0} → S → Outcome (Unit {0}) → Outcome S
outcome_as s (faulty n l) = faulty n l
outcome_as s (accepted u) = accepted s

module _ (k : Known) (b : List ℕ) (h : Holds k b) (few : k.labels ≤ most_labels) where
  module _ (r : StateLine) (p : Placed k.labels k.rows r) where
    states_is : get_or b (states_at (slot_of r / most_states)) 0 ≡ states_of k.rows r.bead
    states_is =
        let l = p.bead_low in
        let g = p.bead_high in
        let s = p.state_high in
        let e : slot_of r / most_states + 1 ≡ r.bead = omega arith in
        h.states (slot_of r / most_states) (omega arith) ∙ ap (states_of k.rows) e

    rule_is : get_or b (rule_at (slot_of r / most_states)) 0 ≡ r.rule
    rule_is =
        let l = p.bead_low in
        let g = p.bead_high in
        let s = p.state_high in
        let e : slot_of r / most_states + 1 ≡ r.bead = omega arith in
        h.rules (slot_of r / most_states) (omega arith) ∙ ap (rule_of_bead k.rows) e ∙ p.rule_is

    pub slot_sets : sets_at b (slot_of r) ≡ r.next
    slot_sets = ext_get_or 0 (sets_at b (slot_of r)) r.next (size ∙ sym p.next_count) (λ i l. at i (let z = size in omega arith))
      where
        size : length (take (get_or b 0 0) (drop (slot_at (slot_of r)) b)) ≡ k.labels
        size =
            let l = p.bead_low in
            let g = p.bead_high in
            let s = p.state_high in
            let n = h.size in
            let c = h.labels in
            let d = length-drop (slot_at (slot_of r)) b in
            let t = length-take (get_or b 0 0) (drop (slot_at (slot_of r)) b) in
            omega arith

        at : (i : ℕ) → i < k.labels → get_or (take (get_or b 0 0) (drop (slot_at (slot_of r)) b)) i 0 ≡ get_or r.next i 0
        at i l =
            let lo = p.bead_low in
            let hi = p.bead_high in
            let s = p.state_high in
            let c = h.labels in
            let x : (sets_a_state * slot_of r + i) / sets_a_bead + 1 ≡ r.bead = omega arith in
            let y : (sets_a_state * slot_of r + i) / sets_a_state % most_states ≡ r.state = omega arith in
            let z : (sets_a_state * slot_of r + i) % sets_a_state ≡ i = omega arith in
            let w : slot_at (slot_of r) + i ≡ sets_begin + (sets_a_state * slot_of r + i) = omega arith in
            get_or-take (get_or b 0 0) (drop (slot_at (slot_of r)) b) i 0 (omega arith) ∙ get_or-drop (slot_at (slot_of r)) b i 0
            ∙ ap (λ (m : ℕ). get_or b m 0) w ∙ h.nexts (sets_a_state * slot_of r + i) (omega arith) ∙ rw (x, y, z) (p.next_is i)

    judged : (n : ℕ) → judge_next k.rows k n r ≡ judged_as k (judge_slot b tt n (slot_of r))
    unfolding judge_slot judged_as
    judged n = sym (rw (states_is, rule_is, slot_sets) (go (all_within (states_of k.rows r.bead) r.next) (needs_one_next r.rule && not (all_single r.next))))
      where
        go : (t u : Bool) → judged_as k (cond (not t) (refused 15) (cond u (refused 16) (passed tt))) ≡ cond (not t) (refused 15) (cond u (refused 16) (passed k))
        go false u = refl
        go true true = refl
        go true false = refl

  walks : (rows : List StateLine) (n : ℕ) → AllOf (Placed k.labels k.rows) rows
      → walk (judge_next k.rows) k n rows ≡ outcome_as k (walk (judge_slot b) tt n (map slot_of rows))
  unfolding AllOf outcome_as judged_as
  walks [] n a = walk_nil (judge_next k.rows) k n ∙ sym (ap (outcome_as k) (walk_nil (judge_slot b) tt n))
  walks (r ∷ rows) n a =
      walk_cons (judge_next k.rows) k n r rows ∙ ap (λ (j : Judged Known). proceed n j (λ t. walk (judge_next k.rows) t (n + 1) rows)) (judged r a.0 n)
      ∙ go (judge_slot b tt n (slot_of r)) (walks rows (n + 1) a.1) ∙ sym (ap (outcome_as k) (walk_cons (judge_slot b) tt n (slot_of r) (map slot_of rows)))
    where
      go : (j : Judged (Unit {0})) → walk (judge_next k.rows) k (n + 1) rows ≡ outcome_as k (walk (judge_slot b) tt (n + 1) (map slot_of rows))
          → proceed n (judged_as k j) (λ t. walk (judge_next k.rows) t (n + 1) rows) ≡ outcome_as k (proceed n j (λ t. walk (judge_slot b) t (n + 1) (map slot_of rows)))
      go (refused m) e = refl
      go (passed u) e = e

  pub slots_are : Sound k.labels k.rows → slots_from b all_states 0 ≡ map slot_of k.rows
  slots_are s = slots_rows b all_states 0 k.rows s.ascends (all_map (Placed k.labels k.rows) (λ r. slot_of r < 0 + all_states) bound k.rows s.placed) there
    where
      bound : (r : StateLine) → Placed k.labels k.rows r → slot_of r < 0 + all_states
      bound r p = let l = p.bead_low in let g = p.bead_high in let q = p.state_high in omega arith

      there : (i : ℕ) → 0 ≤ i → i < 0 + all_states → has_state b i ≡ has_slot k.rows i
      there i z l =
          ap (ltb (i % most_states)) (h.states (i / most_states) (omega arith)) ∙ sym (s.orderly.taken (i / most_states + 1) (i % most_states))
          ∙ rows_slots k.rows i (all_map (Placed k.labels k.rows) (λ r. (1 ≤ r.bead) × (r.state < most_states)) (λ r p. (p.bead_low, p.state_high)) k.rows s.placed)

  -- the faults of the rows are those of the buffer
  pub late_rows : Sound k.labels k.rows → walk (judge_next k.rows) k 2 k.rows ≡ outcome_as k (late_faults b)
  late_rows s = walks k.rows 2 s.placed ∙ sym (ap (λ (l : List ℕ). outcome_as k (walk (judge_slot b) tt 2 l)) (slots_are s))

  pub bounded : Sound k.labels k.rows → Bounded b
  bounded s = record {
    size = let n = h.size in omega arith;
    labels = let c = h.labels in omega arith;
    states = λ j l. let e = h.states j l in let f = s.orderly.few (j + 1) in omega arith;
  }
