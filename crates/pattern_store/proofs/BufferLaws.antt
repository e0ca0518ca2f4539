-- The pattern buffer number by number, and what storing a row makes of it.
-- Assumes nothing.
use mathlib.Core.Path.{◌≡◌, refl, sym, ap, ap₂, ◌∙◌}
use mathlib.Core.Bool.{Bool, true, false, cond, ◌&&◌, ◌||◌, or-false, or-true}
use mathlib.Core.List.{List, [], ◌∷◌, ◌++◌}
use Prim.Native.Nat.{ℕ, suc, ◌+◌, ◌-◌, ◌*◌, ◌/◌, ◌%◌, ◌^◌, ◌≤◌, ◌<◌}
use native.Mathlib.Omega.{arith}
use borrow.Author.Tests.{eq-eqb, ne_eqb, eqb-true, eqb-false, ltb-true, ltb-false}
use lib.Dec.{eqb, ltb}
use lib.ListN.{length, get_or, take, drop, set, length-append, length-set, length-drop, get_or-append}
use lib.Seq.{get_or-append-add, get_or-set_same, get_or-set_other, get_or-take, get_or-drop, length-take-le, ext_get_or}
use Rattle.sets.specs.Sets.{member, set_of, singleton, union}
use Rattle.sets.proofs.Laws.{ext, set_of_below, member-set_of, member-singleton, union_below, member_union}
use Rattle.layout.specs.Layout.{pattern_length, most_beads, most_states, most_labels, all_sets, sets_a_bead, sets_a_state, sets_begin, rule_at, states_at, accepting_at, next_at}
use Rattle.pattern_order.specs.StateLine.{StateLine}
use Rattle.pattern_store.specs.Next.{states_of}
use Rattle.pattern_store.specs.Format.{Known}
use Rattle.lists.specs.Tables.{table}
use Rattle.pattern_store.specs.Buffer.{bead_count, rule_of_bead, is_at, accepting_of, next_of, buffer_of}
use Rattle.pattern_store.specs.inner.Store.{accepting_with, stored_values, stored}
use Rattle.pattern_order.specs.declared.LineValues.{LineValues}
use Rattle.lists.proofs.Tables.{length-table, get_or-table}
use Rattle.pattern_store.proofs.RowsLaws.{has_row, Orderly, Added, states_own, states_other, rule_own, rule_other, beads_own, fresh, next_append, next_absent, accepting_append, accepting_absent}

-- ---- number by number

-- A list holds what is known: its numbers are those of the buffer.
pub record Holds (k : Known) (b : List ℕ) : Type 0 where
  pub size : length b ≡ pattern_length
  pub labels : get_or b 0 0 ≡ k.labels
  pub beads : get_or b 1 0 ≡ bead_count k.rows
  pub rules : (j : ℕ) → j < most_beads → get_or b (rule_at j) 0 ≡ rule_of_bead k.rows (j + 1)
  pub states : (j : ℕ) → j < most_beads → get_or b (states_at j) 0 ≡ states_of k.rows (j + 1)
  pub finals : (j : ℕ) → j < most_beads → get_or b (accepting_at j) 0 ≡ set_of most_states (accepting_of k.rows (j + 1))
  pub nexts : (i : ℕ) → i < all_sets → get_or b (sets_begin + i) 0 ≡ next_of k.rows (i / sets_a_bead + 1) (i / sets_a_state % most_states) (i % sets_a_state)

past : (xs ys : List ℕ) (n m i : ℕ) → length xs ≡ n → m ≡ n + i → get_or (xs ++ ys) m 0 ≡ get_or ys i 0
past xs ys n m i e q =
    let z : m ≡ length xs + i = omega arith in
    ap (λ (h : ℕ). get_or (xs ++ ys) h 0) z ∙ get_or-append-add xs ys i 0

front : (f : ℕ → ℕ) (n : ℕ) (ys : List ℕ) (i : ℕ) → i < n → get_or (table f n ++ ys) i 0 ≡ f i
front f n ys i h = get_or-append (table f n) ys 0 i (let z = length-table f n in omega arith) ∙ get_or-table f n i h

pub buffer_holds : (k : Known) → Holds k (buffer_of k)
buffer_holds k =
    record {
      size =
          ap (λ (n : ℕ). suc (suc n)) (length-append rules (states ++ (finals ++ nexts)) ∙ ap₂ (λ (x y : ℕ). x + y) (length-table _ most_beads)
          (length-append states (finals ++ nexts) ∙ ap₂ (λ (x y : ℕ). x + y) (length-table _ most_beads)
          (length-append finals nexts ∙ ap₂ (λ (x y : ℕ). x + y) (length-table _ most_beads) (length-table _ all_sets))));
      labels = refl;
      beads = refl;
      rules = λ j h. past head (rules ++ (states ++ (finals ++ nexts))) 2 (rule_at j) j refl refl ∙ front _ most_beads (states ++ (finals ++ nexts)) j h;
      states = λ j h.
          past head (rules ++ (states ++ (finals ++ nexts))) 2 (states_at j) (most_beads + j) refl (omega arith)
          ∙ past rules (states ++ (finals ++ nexts)) most_beads (most_beads + j) j (length-table _ most_beads) refl ∙ front _ most_beads (finals ++ nexts) j h;
      finals = λ j h.
          past head (rules ++ (states ++ (finals ++ nexts))) 2 (accepting_at j) (2 * most_beads + j) refl (omega arith)
          ∙ past rules (states ++ (finals ++ nexts)) most_beads (2 * most_beads + j) (most_beads + j) (length-table _ most_beads) (omega arith)
          ∙ past states (finals ++ nexts) most_beads (most_beads + j) j (length-table _ most_beads) refl ∙ front _ most_beads nexts j h;
      nexts = λ i h.
          past head (rules ++ (states ++ (finals ++ nexts))) 2 (sets_begin + i) (3 * most_beads + i) refl (omega arith)
          ∙ past rules (states ++ (finals ++ nexts)) most_beads (3 * most_beads + i) (2 * most_beads + i) (length-table _ most_beads) (omega arith)
          ∙ past states (finals ++ nexts) most_beads (2 * most_beads + i) (most_beads + i) (length-table _ most_beads) (omega arith)
          ∙ past finals nexts most_beads (most_beads + i) i (length-table _ most_beads) refl ∙ get_or-table _ all_sets i h;
    }
  where
    head : List ℕ
    head = k.labels ∷ (bead_count k.rows ∷ [])

    rules : List ℕ
    rules = table (λ j. rule_of_bead k.rows (j + 1)) most_beads

    states : List ℕ
    states = table (λ j. states_of k.rows (j + 1)) most_beads

    finals : List ℕ
    finals = table (λ j. set_of most_states (accepting_of k.rows (j + 1))) most_beads

    nexts : List ℕ
    nexts = table (λ i. next_of k.rows (i / sets_a_bead + 1) (i / sets_a_state % most_states) (i % sets_a_state)) all_sets

-- There is one such list.
pub holds_buffer : (k : Known) (b : List ℕ) → Holds k b → b ≡ buffer_of k
holds_buffer k b h = ext_get_or 0 b (buffer_of k) (h.size ∙ sym g.size) (λ i l. at i (let s = h.size in omega arith))
  where
    g : Holds k (buffer_of k)
    g = buffer_holds k

    -- the same number in both, at i
    same : (i m j : ℕ) → i ≡ m + j → get_or b (m + j) 0 ≡ get_or (buffer_of k) (m + j) 0 → get_or b i 0 ≡ get_or (buffer_of k) i 0
    same i m j e q = rw e q

    at : (i : ℕ) → i < pattern_length → get_or b i 0 ≡ get_or (buffer_of k) i 0
    at i l = go (ltb i 1) refl (ltb i (rule_at 0)) refl (ltb i (states_at 0)) refl (ltb i (accepting_at 0)) refl (ltb i sets_begin) refl
      where
        go : (s : Bool) → ltb i 1 ≡ s → (t : Bool) → ltb i (rule_at 0) ≡ t → (u : Bool) → ltb i (states_at 0) ≡ u → (v : Bool) → ltb i (accepting_at 0) ≡ v → (w : Bool) → ltb i sets_begin ≡ w
            → get_or b i 0 ≡ get_or (buffer_of k) i 0
        go true a t c u d v e w f = same i 0 0 (let z = ltb-true i 1 a in omega arith) (h.labels ∙ sym g.labels)
        go false a true c u d v e w f = same i 1 0 (let z = ltb-true i (rule_at 0) c in let y = ltb-false i 1 a in omega arith) (h.beads ∙ sym g.beads)
        go false a false c true d v e w f =
            let z = ltb-true i (states_at 0) d in
            let y = ltb-false i (rule_at 0) c in
            same i (rule_at 0) (i - rule_at 0) (omega arith) (h.rules (i - rule_at 0) (omega arith) ∙ sym (g.rules (i - rule_at 0) (omega arith)))
        go false a false c false d true e w f =
            let z = ltb-true i (accepting_at 0) e in
            let y = ltb-false i (states_at 0) d in
            same i (states_at 0) (i - states_at 0) (omega arith) (h.states (i - states_at 0) (omega arith) ∙ sym (g.states (i - states_at 0) (omega arith)))
        go false a false c false d false e true f =
            let z = ltb-true i sets_begin f in
            let y = ltb-false i (accepting_at 0) e in
            same i (accepting_at 0) (i - accepting_at 0) (omega arith) (h.finals (i - accepting_at 0) (omega arith) ∙ sym (g.finals (i - accepting_at 0) (omega arith)))
        go false a false c false d false e false f =
            let y = ltb-false i sets_begin f in
            same i sets_begin (i - sets_begin) (omega arith) (h.nexts (i - sets_begin) (omega arith) ∙ sym (g.nexts (i - sets_begin) (omega arith)))

-- ---- a row stored

-- The values are those of the row.
pub record Says (v : LineValues) (r : StateLine) : Type 0 where
  pub bead : v.bead ≡ r.bead
  pub rule : v.rule ≡ r.rule
  pub state : v.state ≡ r.state
  pub accepting : v.accepting ≡ r.accepting

set_at_any : (l : List ℕ) (i x j : ℕ) → i < length l → get_or (set l i x) j 0 ≡ cond (eqb j i) x (get_or l j 0)
set_at_any l i x j h = go (eqb j i) refl
  where
    go : (t : Bool) → eqb j i ≡ t → get_or (set l i x) j 0 ≡ cond t x (get_or l j 0)
    go true e = let z = eqb-true j i e in rw z (get_or-set_same l i x 0 h)
    go false e = get_or-set_other l i j x 0 (eqb-false j i e)

accepting_alone : (r : StateLine) (b q : ℕ) → accepting_of (r ∷ []) b q ≡ cond (is_at r b q) (eqb r.accepting 1) false
unfolding accepting_of
accepting_alone r b q = refl

next_one : (r : StateLine) (b q a : ℕ) → next_of (r ∷ []) b q a ≡ cond (is_at r b q) (get_or r.next a 0) 0
unfolding next_of
next_one r b q a = refl

pub next_other : (rows : List StateLine) (r : StateLine) (b q a : ℕ) → is_at r b q ≡ false → next_of (rows ++ (r ∷ [])) b q a ≡ next_of rows b q a
next_other rows r b q a n =
    next_append rows (r ∷ []) b q a ∙ ap (cond (has_row rows b q) (next_of rows b q a)) (next_one r b q a ∙ rw n refl) ∙ go (has_row rows b q) refl
  where
    go : (t : Bool) → has_row rows b q ≡ t → cond t (next_of rows b q a) 0 ≡ next_of rows b q a
    go true e = refl
    go false e = sym (next_absent rows b q a e)

pub accepting_other : (rows : List StateLine) (r : StateLine) (b q : ℕ) → is_at r b q ≡ false → accepting_of (rows ++ (r ∷ [])) b q ≡ accepting_of rows b q
accepting_other rows r b q n =
    accepting_append rows (r ∷ []) b q ∙ ap (cond (has_row rows b q) (accepting_of rows b q)) (accepting_alone r b q ∙ rw n refl) ∙ go (has_row rows b q) refl
  where
    go : (t : Bool) → has_row rows b q ≡ t → cond t (accepting_of rows b q) false ≡ accepting_of rows b q
    go true e = refl
    go false e = sym (accepting_absent rows b q e)

module _ (rows : List StateLine) (r : StateLine) (o : Orderly rows) (a : Added rows r) where
  at_own : is_at r r.bead r.state ≡ true
  at_own = rw (eq-eqb r.bead r.bead refl, eq-eqb r.state r.state refl) refl

  pub next_own : (x : ℕ) → next_of (rows ++ (r ∷ [])) r.bead r.state x ≡ get_or r.next x 0
  next_own x =
      next_append rows (r ∷ []) r.bead r.state x ∙ rw (fresh rows r a o) (next_one r r.bead r.state x ∙ rw at_own refl)

  accepting_own : accepting_of (rows ++ (r ∷ [])) r.bead r.state ≡ eqb r.accepting 1
  accepting_own =
      accepting_append rows (r ∷ []) r.bead r.state ∙ rw (fresh rows r a o) (accepting_alone r r.bead r.state ∙ rw at_own refl)

  -- the final set with the row's state, or as it was
  pub final_set : (s : ℕ) → s ≡ set_of most_states (accepting_of rows r.bead)
      → cond (eqb r.accepting 1) (union most_states s (singleton r.state)) s ≡ set_of most_states (accepting_of (rows ++ (r ∷ [])) r.bead)
  final_set s e = ext most_states _ _ (below (eqb r.accepting 1)) (set_of_below most_states (accepting_of (rows ++ (r ∷ [])) r.bead)) alike
    where
      low : s < 2 ^ most_states
      low = rw e (set_of_below most_states (accepting_of rows r.bead))

      below : (t : Bool) → cond t (union most_states s (singleton r.state)) s < 2 ^ most_states
      below true = union_below most_states s (singleton r.state)
      below false = low

      member_old : (q : ℕ) → q < most_states → member q s ≡ accepting_of rows r.bead q
      member_old q h = ap (member q) e ∙ member-set_of most_states (accepting_of rows r.bead) q h

      others : (q : ℕ) → q < most_states → (r.state ≡ q → ⊥) → (t : Bool) → member q (cond t (union most_states s (singleton r.state)) s) ≡ accepting_of rows r.bead q
      others q h n true =
          member_union most_states s (singleton r.state) q h ∙ ap₂ (λ (x y : Bool). x || y) (member_old q h) (member-singleton q r.state ∙ ne_eqb q r.state (λ z. n (sym z)))
          ∙ or-false (accepting_of rows r.bead q)
      others q h n false = member_old q h

      itself : (t : Bool) → eqb r.accepting 1 ≡ t → r.state < most_states → member r.state (cond t (union most_states s (singleton r.state)) s) ≡ t
      itself true f h =
          member_union most_states s (singleton r.state) r.state h ∙ ap (λ (x : Bool). member r.state s || x) (member-singleton r.state r.state ∙ eq-eqb r.state r.state refl)
          ∙ or-true (member r.state s)
      itself false f h = member_old r.state h ∙ accepting_absent rows r.bead r.state (fresh rows r a o)

      alike : (q : ℕ) → q < most_states → member q (cond (eqb r.accepting 1) (union most_states s (singleton r.state)) s)
          ≡ member q (set_of most_states (accepting_of (rows ++ (r ∷ [])) r.bead))
      alike q h = go (eqb r.state q) refl ∙ sym (member-set_of most_states (accepting_of (rows ++ (r ∷ [])) r.bead) q h)
        where
          go : (t : Bool) → eqb r.state q ≡ t
              → member q (cond (eqb r.accepting 1) (union most_states s (singleton r.state)) s) ≡ accepting_of (rows ++ (r ∷ [])) r.bead q
          go true f =
              let z = eqb-true r.state q f in
              rw (← z) (itself (eqb r.accepting 1) refl a.state_high ∙ sym accepting_own)
          go false f =
              others q h (eqb-false r.state q f) (eqb r.accepting 1)
              ∙ sym (accepting_other rows r r.bead q (rw (f, eq-eqb r.bead r.bead refl) refl))

module _ (k : Known) (r : StateLine) (o : Orderly k.rows) (a : Added k.rows r) (b next : List ℕ) (h : Holds k b) (v : LineValues) (s : Says v r)
    (count : length next ≡ most_labels) (sets : (x : ℕ) → x < most_labels → get_or next x 0 ≡ get_or r.next x 0) where
  abbrev j₀ : ℕ
  j₀ = v.bead - 1

  -- where the next sets begin
  abbrev place : ℕ
  place = next_at (v.bead - 1) v.state 0

  low : 1 ≤ v.bead
  low = let e = s.bead in let l = a.bead_low in omega arith

  high : v.bead ≤ most_beads
  high = let e = s.bead in let l = a.bead_high in omega arith

  top : v.state < most_states
  top = let e = s.state in let l = a.state_high in omega arith

  size_values : length (stored_values b v) ≡ pattern_length
  unfolding stored_values
  size_values = simp length-set h.size

  values_at : (i : ℕ) → get_or (stored_values b v) i 0
      ≡ cond (eqb i (accepting_at j₀)) (accepting_with (get_or b (accepting_at j₀) 0) v)
      (cond (eqb i (states_at j₀)) (v.state + 1) (cond (eqb i (rule_at j₀)) v.rule (cond (eqb i 1) v.bead (get_or b i 0))))
  unfolding stored_values
  values_at i =
      let n = h.size in
      let l = high in
      let b1 : List ℕ = set b 1 v.bead in
      let b2 : List ℕ = set b1 (rule_at j₀) v.rule in
      let b3 : List ℕ = set b2 (states_at j₀) (v.state + 1) in
      let n1 : length (set b 1 v.bead) ≡ pattern_length = length-set b 1 v.bead ∙ n in
      let n2 : length (set (set b 1 v.bead) (rule_at j₀) v.rule) ≡ pattern_length = length-set (set b 1 v.bead) (rule_at j₀) v.rule ∙ n1 in
      let n3 : length (set (set (set b 1 v.bead) (rule_at j₀) v.rule) (states_at j₀) (v.state + 1)) ≡ pattern_length
      = length-set (set (set b 1 v.bead) (rule_at j₀) v.rule) (states_at j₀) (v.state + 1) ∙ n2 in
      set_at_any b3 (accepting_at j₀) (accepting_with (get_or b (accepting_at j₀) 0) v) i (omega arith)
      ∙ ap (cond (eqb i (accepting_at j₀)) (accepting_with (get_or b (accepting_at j₀) 0) v)) (set_at_any b2 (states_at j₀) (v.state + 1) i (omega arith)
      ∙ ap (cond (eqb i (states_at j₀)) (v.state + 1)) (set_at_any b1 (rule_at j₀) v.rule i (omega arith)
      ∙ ap (cond (eqb i (rule_at j₀)) v.rule) (set_at_any b 1 v.bead i (omega arith))))

  size_front : length (take place (stored_values b v)) ≡ place
  size_front = length-take-le place (stored_values b v) (let l = high in let t = top in let n = size_values in omega arith)

  before_sets : (i : ℕ) → i < place → get_or (stored b v next) i 0 ≡ get_or (stored_values b v) i 0
  unfolding stored
  before_sets i l =
      get_or-append (take place (stored_values b v)) _ 0 i (let n = size_front in omega arith) ∙ get_or-take place (stored_values b v) i 0 l

  at_sets : (x : ℕ) → x < most_labels → get_or (stored b v next) (place + x) 0 ≡ get_or next x 0
  unfolding stored
  at_sets x l = past (take place (stored_values b v)) _ place (place + x) x size_front refl ∙ get_or-append next _ 0 x (omega arith)

  after_sets : (i : ℕ) → place + sets_a_state ≤ i → get_or (stored b v next) i 0 ≡ get_or (stored_values b v) i 0
  unfolding stored
  after_sets i l =
      past (take place (stored_values b v)) _ place i (i - place) size_front (omega arith) ∙ past next _ sets_a_state (i - place) (i - place - sets_a_state) count (omega arith)
      ∙ get_or-drop (place + sets_a_state) (stored_values b v) (i - place - sets_a_state) 0
      ∙ (let e : place + sets_a_state + (i - place - sets_a_state) ≡ i = omega arith in ap (λ (m : ℕ). get_or (stored_values b v) m 0) e)

  -- a number that no store touches
  kept : (i : ℕ) → (i ≡ 1 → ⊥) → (i ≡ rule_at j₀ → ⊥) → (i ≡ states_at j₀ → ⊥) → (i ≡ accepting_at j₀ → ⊥) → get_or (stored_values b v) i 0 ≡ get_or b i 0
  kept i n1 n2 n3 n4 = values_at i ∙ rw (ne_eqb i (accepting_at j₀) n4, ne_eqb i (states_at j₀) n3, ne_eqb i (rule_at j₀) n2, ne_eqb i 1 n1) refl

  abbrev more : Known
  more = record { labels = k.labels; rows = k.rows ++ (r ∷ []) }

  own : (j : ℕ) → j ≡ j₀ → j + 1 ≡ r.bead
  own j e = let q = s.bead in let l = low in omega arith

  not_own : (j : ℕ) → (j ≡ j₀ → ⊥) → r.bead ≡ j + 1 → ⊥
  not_own j n e = let q = s.bead in n (omega arith)

  rules_after : (j : ℕ) → j < most_beads → get_or (stored b v next) (rule_at j) 0 ≡ rule_of_bead (k.rows ++ (r ∷ [])) (j + 1)
  rules_after j l = before_sets (rule_at j) (omega arith) ∙ go (eqb j j₀) refl
    where
      go : (t : Bool) → eqb j j₀ ≡ t → get_or (stored_values b v) (rule_at j) 0 ≡ rule_of_bead (k.rows ++ (r ∷ [])) (j + 1)
      go true e =
          let z = eqb-true j j₀ e in
          values_at (rule_at j)
          ∙ rw (ne_eqb (rule_at j) (accepting_at j₀) (omega arith), ne_eqb (rule_at j) (states_at j₀) (omega arith), eq-eqb (rule_at j) (rule_at j₀) (omega arith), own j z)
          (s.rule ∙ sym (rule_own k.rows r a))
      go false e =
          let z = eqb-false j j₀ e in
          kept (rule_at j) (omega arith) (omega arith) (omega arith) (omega arith) ∙ h.rules j l ∙ sym (rule_other k.rows r a (j + 1) (not_own j z))

  states_after : (j : ℕ) → j < most_beads → get_or (stored b v next) (states_at j) 0 ≡ states_of (k.rows ++ (r ∷ [])) (j + 1)
  states_after j l = before_sets (states_at j) (omega arith) ∙ go (eqb j j₀) refl
    where
      go : (t : Bool) → eqb j j₀ ≡ t → get_or (stored_values b v) (states_at j) 0 ≡ states_of (k.rows ++ (r ∷ [])) (j + 1)
      go true e =
          let z = eqb-true j j₀ e in
          values_at (states_at j) ∙ rw (ne_eqb (states_at j) (accepting_at j₀) (omega arith), eq-eqb (states_at j) (states_at j₀) (omega arith), own j z)
          (ap (λ (n : ℕ). n + 1) (s.state ∙ a.state_is) ∙ sym (states_own k.rows r r.bead refl))
      go false e =
          let z = eqb-false j j₀ e in
          let t = high in
          kept (states_at j) (omega arith) (omega arith) (omega arith) (omega arith) ∙ h.states j l ∙ sym (states_other k.rows r (j + 1) (not_own j z))

  finals_after : (j : ℕ) → j < most_beads → get_or (stored b v next) (accepting_at j) 0 ≡ set_of most_states (accepting_of (k.rows ++ (r ∷ [])) (j + 1))
  finals_after j l = before_sets (accepting_at j) (omega arith) ∙ go (eqb j j₀) refl
    where
      go : (t : Bool) → eqb j j₀ ≡ t → get_or (stored_values b v) (accepting_at j) 0 ≡ set_of most_states (accepting_of (k.rows ++ (r ∷ [])) (j + 1))
      go true e =
          let z = eqb-true j j₀ e in
          let old : get_or b (accepting_at j₀) 0 ≡ set_of most_states (accepting_of k.rows r.bead) = rw (← z) (h.finals j l) ∙ ap (λ (n : ℕ). set_of most_states (accepting_of k.rows n)) (own j z) in
          values_at (accepting_at j) ∙ rw (eq-eqb (accepting_at j) (accepting_at j₀) (omega arith), own j z, s.accepting, s.state) (final_set k.rows r o a (get_or b (accepting_at j₀) 0) old)
      go false e =
          let z = eqb-false j j₀ e in
          let t = high in
          kept (accepting_at j) (omega arith) (omega arith) (omega arith) (omega arith) ∙ h.finals j l
          ∙ same_set (j + 1) (λ q. sym (accepting_other k.rows r (j + 1) q (rw (ne_eqb r.bead (j + 1) (not_own j z)) refl)))
        where
          same_set : (n : ℕ) → ((q : ℕ) → accepting_of k.rows n q ≡ accepting_of (k.rows ++ (r ∷ [])) n q)
              → set_of most_states (accepting_of k.rows n) ≡ set_of most_states (accepting_of (k.rows ++ (r ∷ [])) n)
          same_set n f =
              ext most_states _ _ (set_of_below most_states (accepting_of k.rows n)) (set_of_below most_states (accepting_of (k.rows ++ (r ∷ [])) n))
              (λ q m. member-set_of most_states (accepting_of k.rows n) q m ∙ f q ∙ sym (member-set_of most_states (accepting_of (k.rows ++ (r ∷ [])) n) q m))

  nexts_after : (i : ℕ) → i < all_sets → get_or (stored b v next) (sets_begin + i) 0 ≡ next_of (k.rows ++ (r ∷ [])) (i / sets_a_bead + 1) (i / sets_a_state % most_states) (i % sets_a_state)
  nexts_after i l = go (ltb (sets_begin + i) place) refl (ltb (sets_begin + i) (place + sets_a_state)) refl
    where
      elsewhere : (i / sets_a_bead ≡ j₀ → i / sets_a_state % most_states ≡ v.state → ⊥) → is_at r (i / sets_a_bead + 1) (i / sets_a_state % most_states) ≡ false
      elsewhere n = both (eqb r.bead (i / sets_a_bead + 1)) refl (eqb r.state (i / sets_a_state % most_states)) refl
        where
          both : (t : Bool) → eqb r.bead (i / sets_a_bead + 1) ≡ t → (u : Bool) → eqb r.state (i / sets_a_state % most_states) ≡ u → (t && u) ≡ false
          both true e true f =
              let x = eqb-true r.bead (i / sets_a_bead + 1) e in
              let y = eqb-true r.state (i / sets_a_state % most_states) f in
              let p = s.bead in
              let q = s.state in
              absurd (n (omega arith) (omega arith))
          both true e false f = refl
          both false e u f = refl

      untouched : is_at r (i / sets_a_bead + 1) (i / sets_a_state % most_states) ≡ false → get_or (stored_values b v) (sets_begin + i) 0 ≡ next_of (k.rows ++ (r ∷ [])) (i / sets_a_bead + 1) (i / sets_a_state % most_states) (i % sets_a_state)
      untouched n =
          let t = high in
          kept (sets_begin + i) (omega arith) (omega arith) (omega arith) (omega arith) ∙ h.nexts i l
          ∙ sym (next_other k.rows r (i / sets_a_bead + 1) (i / sets_a_state % most_states) (i % sets_a_state) n)

      go : (t : Bool) → ltb (sets_begin + i) place ≡ t → (u : Bool) → ltb (sets_begin + i) (place + sets_a_state) ≡ u
          → get_or (stored b v next) (sets_begin + i) 0 ≡ next_of (k.rows ++ (r ∷ [])) (i / sets_a_bead + 1) (i / sets_a_state % most_states) (i % sets_a_state)
      go true e u f =
          let x = ltb-true (sets_begin + i) place e in
          let t = top in
          before_sets (sets_begin + i) x ∙ untouched (elsewhere (λ p q. omega arith))
      go false e false f =
          let x = ltb-false (sets_begin + i) (place + sets_a_state) f in
          after_sets (sets_begin + i) x ∙ untouched (elsewhere (λ p q. omega arith))
      go false e true f =
          let x = ltb-false (sets_begin + i) place e in
          let y = ltb-true (sets_begin + i) (place + sets_a_state) f in
          let t = top in
          let c : i / sets_a_bead + 1 ≡ r.bead = (let p = s.bead in let q = low in omega arith) in
          let d : i / sets_a_state % most_states ≡ r.state = (let p = s.state in omega arith) in
          let m : sets_begin + i ≡ place + i % sets_a_state = omega arith in
          rw (m, c, d) (at_sets (i % sets_a_state) (omega arith) ∙ sets (i % sets_a_state) (omega arith) ∙ sym (next_own k.rows r o a (i % sets_a_state)))

  size_stored : length (stored b v next) ≡ pattern_length
  unfolding stored
  size_stored =
      let n = size_values in
      let t = top in
      let u = high in
      length-append (take place (stored_values b v)) (next ++ drop (place + sets_a_state) (stored_values b v))
      ∙ ap₂ (λ (x y : ℕ). x + y) size_front (length-append next (drop (place + sets_a_state) (stored_values b v)) ∙ ap₂ (λ (x y : ℕ). x + y) count (length-drop (place + sets_a_state) (stored_values b v)))
      ∙ omega arith

  pub stored_holds : Holds more (stored b v next)
  stored_holds =
      record {
        size = size_stored;
        labels = before_sets 0 (omega arith) ∙ kept 0 (omega arith) (omega arith) (omega arith) (omega arith) ∙ h.labels;
        beads =
            before_sets 1 (omega arith) ∙ values_at 1
            ∙ rw (ne_eqb 1 (accepting_at j₀) (omega arith), ne_eqb 1 (states_at j₀) (omega arith), ne_eqb 1 (rule_at j₀) (omega arith)) (s.bead ∙ sym (beads_own k.rows r a));
        rules = rules_after;
        states = states_after;
        finals = finals_after;
        nexts = nexts_after;
      }

  pub stored_is : stored b v next ≡ buffer_of more
  stored_is = holds_buffer more (stored b v next) stored_holds
