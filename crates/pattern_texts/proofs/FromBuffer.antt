-- The rows of a buffer that passes are in order, and give the buffer back.
use Prim.Native.Nat.{ℕ, zero, suc, ◌+◌, ◌-◌, ◌/◌, ◌%◌, ◌^◌, ◌≤◌, ◌<◌}
use mathlib.Core.Path.{◌≡◌, refl, sym, ap, ◌∙◌, subst}
use mathlib.Core.Logic.{◌⊎◌, inl, inr}
use mathlib.Core.Bool.{Bool, true, false, cond}
use mathlib.Core.List.Memᴰ
use mathlib.Core.List.{List, [], ◌∷◌, ◌++◌, append_assoc, Memᴰ}
use native.Mathlib.Decide.{ℕ_discrete, dec_lt}
use native.Mathlib.Nat.{eq-or-lt_of_le, not-suc-le-zero}
use native.Mathlib.Omega.{arith}
use lib.Dec.{eqb}
use lib.ListN.{get_or, take, get_or-eq_default}
use lib.Pow.{pow_mono}
use lib.Seq.{get_or-take, length-take-le}
use Rattle.lists.specs.Places.{at}
use Rattle.sets.specs.Sets.{member, set_of}
use Rattle.sets.proofs.Truth.{no_false}
use Rattle.sets.proofs.Laws.{ext, set_of_below, member-set_of, below_within}
use Rattle.layout.specs.Layout.{most_beads, most_states, most_labels, rule_at, states_at, accepting_at, next_at, pattern_length, all_sets, sets_a_state, sets_a_bead, sets_begin}
use Rattle.pattern_order.specs.StateLine.{StateLine}
use Rattle.pattern_store.specs.Next.{states_of}
use Rattle.pattern_store.specs.Format.{Known}
use Rattle.lists.specs.Tables.{table}
use Rattle.lists.proofs.Tables.{length-table, get_or-table}
use Rattle.pattern_store.specs.Buffer.{rule_of_bead, accepting_of, next_of, buffer_of}
use Rattle.pattern_store.proofs.RowsLaws.{states_own, states_other, rule_absent}
use Rattle.pattern_store.proofs.BufferLaws.{holds_buffer}
use Rattle.rules.proofs.RuleLaws.{rule_not_0}
use Rattle.pattern_buffer.specs.Meaning.{labels_in, beads_in}
use Rattle.pattern_texts.specs.Spelled.{row_in, rows_of_bead, rows_of_beads, state_lines_of}
use Rattle.pattern_buffer.proofs.Places.{unused_out, states_fit, next_unused, Passes, bead_there}
use Rattle.pattern_texts.proofs.Rows.{states_nil, states_append, Found, found, missing, find}
use Rattle.pattern_texts.proofs.Ordered.{origin, same_bead, next_bead, Fits, Ordered, start, more}
use Rattle.pattern_texts.proofs.Told.{Told, told}

-- ---- which rows there are

bead_rows_out : (b : List ℕ) (j n : ℕ) (r : StateLine) → Memᴰ r (rows_of_bead b j n) → (q : ℕ) × (q < n) × (r ≡ row_in b j q)
unfolding rows_of_bead
bead_rows_out b j zero r m = absurd (Memᴰ.not-nil m)
bead_rows_out b j (suc n) r m = go (Memᴰ.append_cases (rows_of_bead b j n) m) (λ k. bead_rows_out b j n r k)
  where
    go : Memᴰ r (rows_of_bead b j n) ⊎ Memᴰ r (row_in b j n ∷ []) → (Memᴰ r (rows_of_bead b j n) → (q : ℕ) × (q < n) × (r ≡ row_in b j q))
        → (q : ℕ) × (q < suc n) × (r ≡ row_in b j q)
    go (inl k) rest = let w = rest k in (w.0, (let h = w.1 in omega arith), w.2)
    go (inr k) rest = (n, omega arith, Memᴰ.eq_of_singleton k)

bead_rows_in : (b : List ℕ) (j n q : ℕ) → q < n → Memᴰ (row_in b j q) (rows_of_bead b j n)
unfolding rows_of_bead
bead_rows_in b j zero q h = absurd (not-suc-le-zero h)
bead_rows_in b j (suc n) q h = go (eq-or-lt_of_le h) (λ k. bead_rows_in b j n q k)
  where
    go : (suc q ≡ suc n) ⊎ (suc q < suc n) → (q < n → Memᴰ (row_in b j q) (rows_of_bead b j n))
        → Memᴰ (row_in b j q) (rows_of_bead b j n ++ (row_in b j n ∷ []))
    go (inl e) rest = let z : q ≡ n = omega arith in Memᴰ.append_right (rows_of_bead b j n) (Memᴰ.head (ap (row_in b j) z))
    go (inr l) rest = Memᴰ.append_left (row_in b j n ∷ []) (rest (omega arith))

-- A row of the buffer: of a bead below n, and of one of its states.
pub record Of (b : List ℕ) (n : ℕ) (r : StateLine) : Type 0 where
  pub place : ℕ
  pub state : ℕ
  pub below : place < n
  pub there : state < at b (states_at place)
  pub is : r ≡ row_in b place state

pub rows_out : (b : List ℕ) (n : ℕ) (r : StateLine) → Memᴰ r (rows_of_beads b n) → Of b n r
unfolding rows_of_beads
rows_out b zero r m = absurd (Memᴰ.not-nil m)
rows_out b (suc n) r m = go (Memᴰ.append_cases (rows_of_beads b n) m) (λ k. rows_out b n r k)
  where
    go : Memᴰ r (rows_of_beads b n) ⊎ Memᴰ r (rows_of_bead b n (at b (states_at n))) → (Memᴰ r (rows_of_beads b n) → Of b n r)
        → Of b (suc n) r
    go (inl k) rest = let w = rest k in record {
      place = w.place;
      state = w.state;
      below = let h = w.below in omega arith;
      there = w.there;
      is = w.is;
    }
    go (inr k) rest =
        let w = bead_rows_out b n (at b (states_at n)) r k in
        record { place = n; state = w.0; below = omega arith; there = w.1; is = w.2 }

rows_in : (b : List ℕ) (n j q : ℕ) → j < n → q < at b (states_at j) → Memᴰ (row_in b j q) (rows_of_beads b n)
unfolding rows_of_beads
rows_in b zero j q h k = absurd (not-suc-le-zero h)
rows_in b (suc n) j q h k = go (eq-or-lt_of_le h) (λ l. rows_in b n j q l k)
  where
    go : (suc j ≡ suc n) ⊎ (suc j < suc n) → (j < n → Memᴰ (row_in b j q) (rows_of_beads b n))
        → Memᴰ (row_in b j q) (rows_of_beads b n ++ rows_of_bead b n (at b (states_at n)))
    go (inl e) rest =
        let z : j ≡ n = omega arith in
        Memᴰ.append_right (rows_of_beads b n)
        (subst (λ (i : ℕ). Memᴰ (row_in b j q) (rows_of_bead b i (at b (states_at i)))) z (bead_rows_in b j (at b (states_at j)) q k))
    go (inr l) rest = Memᴰ.append_left (rows_of_bead b n (at b (states_at n))) (rest (omega arith))

-- ---- how many there are of a bead

bead_rows_count : (b : List ℕ) (j n : ℕ) → states_of (rows_of_bead b j n) (j + 1) ≡ n
unfolding rows_of_bead
bead_rows_count b j zero = states_nil (j + 1)
bead_rows_count b j (suc n) =
    states_own (rows_of_bead b j n) (row_in b j n) (j + 1) refl ∙ (let h = bead_rows_count b j n in omega arith)

bead_rows_other : (b : List ℕ) (j n i : ℕ) → (j ≡ i → ⊥) → states_of (rows_of_bead b j n) (i + 1) ≡ 0
unfolding rows_of_bead
bead_rows_other b j zero i d = states_nil (i + 1)
bead_rows_other b j (suc n) i d =
    states_other (rows_of_bead b j n) (row_in b j n) (i + 1) (λ z. d (omega arith)) ∙ bead_rows_other b j n i d

rows_none : (b : List ℕ) (n j : ℕ) → n ≤ j → states_of (rows_of_beads b n) (j + 1) ≡ 0
unfolding rows_of_beads
rows_none b zero j h = states_nil (j + 1)
rows_none b (suc n) j h =
    let a = rows_none b n j (omega arith) in
    let e = bead_rows_other b n (at b (states_at n)) j (λ z. omega arith) in
    states_append (rows_of_beads b n) (rows_of_bead b n (at b (states_at n))) (j + 1) ∙ omega arith

rows_count : (b : List ℕ) (n j : ℕ) → j < n → states_of (rows_of_beads b n) (j + 1) ≡ at b (states_at j)
unfolding rows_of_beads
rows_count b zero j h = absurd (not-suc-le-zero h)
rows_count b (suc n) j h = go (ℕ_discrete n j) (λ k. rows_count b n j k)
  where
    go : Dec (n ≡ j) → (j < n → states_of (rows_of_beads b n) (j + 1) ≡ at b (states_at j))
        → states_of (rows_of_beads b n ++ rows_of_bead b n (at b (states_at n))) (j + 1) ≡ at b (states_at j)
    go (yes e) rest =
        let a = rows_none b n j (omega arith) in
        let c : states_of (rows_of_bead b n (at b (states_at n))) (j + 1) ≡ at b (states_at j) = rw e (bead_rows_count b j (at b (states_at j))) in
        states_append (rows_of_beads b n) (rows_of_bead b n (at b (states_at n))) (j + 1) ∙ omega arith
    go (no d) rest =
        let a = rest (omega arith) in
        let c = bead_rows_other b n (at b (states_at n)) j d in
        states_append (rows_of_beads b n) (rows_of_bead b n (at b (states_at n))) (j + 1) ∙ omega arith

-- ---- they are in order

module _ (b : List ℕ) (p : Passes b) where
  abbrev labels : ℕ
  labels = labels_in b

  row_fits : (j q : ℕ) → j < beads_in b → q < at b (states_at j) → Fits labels (row_in b j q)
  row_fits j q h k =
      let g = bead_there b p j h in
      record {
        bead_most = let m = p.beads_most in omega arith;
        state_most = let m = g.states_most in omega arith;
        accepting_most = digit (member q (at b (accepting_at j)));
        rule_known = g.rule;
        labelled = length-table (λ a. at b (next_at j q a)) labels;
      }
    where
      digit : (t : Bool) → cond t 1 0 ≤ 1
      digit true = omega arith
      digit false = omega arith

  -- the states of the bead at place j, after rows whose last is z
  ordered_states : (j : ℕ) → j < beads_in b → (rs : List StateLine) (z : StateLine) → Ordered labels rs z → z.bead ≡ j → (at b (rule_at j) ≡ z.rule → ⊥)
      → (q : ℕ) → q < at b (states_at j) → Ordered labels (rs ++ rows_of_bead b j (suc q)) (row_in b j q)
  unfolding rows_of_bead
  ordered_states j h rs z o e d zero k =
      more (row_in b j 0) o (next_bead (let y = e in omega arith) refl d) (row_fits j 0 h k)
  ordered_states j h rs z o e d (suc q) k =
      subst (λ (l : List StateLine). Ordered labels l (row_in b j (suc q))) (append_assoc rs (rows_of_bead b j (suc q)) (row_in b j (suc q) ∷ []))
      (more (row_in b j (suc q)) (ordered_states j h rs z o e d q (omega arith)) (same_bead (omega arith) refl (omega arith) refl)
      (row_fits j (suc q) h k))

  -- The rows of the first n beads, and their last.
  record InOrder (n : ℕ) : Type 0 where
    last : StateLine
    ordered : Ordered labels (rows_of_beads b n) last
    bead : last.bead ≡ n
    turn : n < beads_in b → at b (rule_at n) ≡ last.rule → ⊥

  in_order : (n : ℕ) → n ≤ beads_in b → InOrder n
  unfolding rows_of_beads
  in_order zero h = record { last = origin; ordered = start; bead = refl; turn = λ k e. rule_not_0 (at b (rule_at 0)) (bead_there b p 0 k).rule e }
  in_order (suc n) h = go (at b (states_at n)) refl (in_order n (omega arith))
    where
      go : (s : ℕ) → at b (states_at n) ≡ s → InOrder n → InOrder (suc n)
      go zero e i = let l = (bead_there b p n (omega arith)).some_state in absurd (omega arith)
      go (suc q) e i = record {
        last = row_in b n q;
        ordered = rw e (ordered_states n (omega arith) (rows_of_beads b n) i.last i.ordered i.bead (i.turn (omega arith)) q (omega arith));
        bead = omega arith;
        turn = λ k d. (bead_there b p (suc n) k).turn (omega arith) (d ∙ ap (λ (m : ℕ). at b (rule_at m)) (let y : n ≡ suc n - 1 = omega arith in y));
      }

  pub last_row : StateLine
  last_row = (in_order (beads_in b) (omega arith)).last

  pub rows_ordered : Ordered labels (state_lines_of b) last_row
  unfolding last_row
  rows_ordered = (in_order (beads_in b) (omega arith)).ordered

  pub last_row_bead : last_row.bead ≡ beads_in b
  unfolding last_row
  last_row_bead = (in_order (beads_in b) (omega arith)).bead

  -- ---- they give the buffer back

  abbrev pub known : Known
  known = record { labels = labels_in b; rows = state_lines_of b }

  pub rows_told : Told labels (state_lines_of b) last_row
  rows_told = told rows_ordered

  pub states_again : (j : ℕ) → j < most_beads → states_of (state_lines_of b) (j + 1) ≡ at b (states_at j)
  states_again j h = go (dec_lt j (beads_in b))
    where
      go : Dec (j < beads_in b) → states_of (state_lines_of b) (j + 1) ≡ at b (states_at j)
      go (yes k) = rows_count b (beads_in b) j k
      go (no n) = rows_none b (beads_in b) j (omega arith) ∙ sym (unused_out b j (omega arith) (p.beads j h)).states

  -- a state that is there has its row
  pub row_there : (j q : ℕ) → j < most_beads → q < at b (states_at j) → Memᴰ (row_in b j q) (state_lines_of b)
  row_there j q h k = go (dec_lt j (beads_in b))
    where
      go : Dec (j < beads_in b) → Memᴰ (row_in b j q) (state_lines_of b)
      go (yes l) = rows_in b (beads_in b) j q l k
      go (no n) = let z = (unused_out b j (omega arith) (p.beads j h)).states in absurd (omega arith)

  -- and no other row
  row_is : (j q : ℕ) (r : StateLine) → Memᴰ r (state_lines_of b) → r.bead ≡ j + 1 → r.state ≡ q
      → (r ≡ row_in b j q) × (j < beads_in b) × (q < at b (states_at j))
  row_is j q r m e d =
      let w = rows_out b (beads_in b) r m in
      let x : w.place + 1 ≡ j + 1 = sym (ap (λ (s : StateLine). s.bead) w.is) ∙ e in
      let y : w.place ≡ j = omega arith in
      let z : w.state ≡ q = sym (ap (λ (s : StateLine). s.state) w.is) ∙ d in
      (w.is ∙ rw (y, z), rw y at w.below, rw (y, z) at w.there)

  rule_again : (j : ℕ) → j < most_beads → rule_of_bead (state_lines_of b) (j + 1) ≡ at b (rule_at j)
  rule_again j h = go (dec_lt j (beads_in b))
    where
      go : Dec (j < beads_in b) → rule_of_bead (state_lines_of b) (j + 1) ≡ at b (rule_at j)
      go (yes k) = sym (rows_told.each (row_in b j 0) (row_there j 0 h (bead_there b p j k).some_state)).rule
      go (no n) =
          let u = unused_out b j (omega arith) (p.beads j h) in
          rule_absent (state_lines_of b) (j + 1) (states_again j h ∙ u.states) ∙ sym u.rule

  accepting_fits : (j : ℕ) → j < most_beads → at b (accepting_at j) < 2 ^ at b (states_at j)
  accepting_fits j h = go (dec_lt j (beads_in b))
    where
      go : Dec (j < beads_in b) → at b (accepting_at j) < 2 ^ at b (states_at j)
      go (yes k) = (bead_there b p j k).accepting
      go (no n) = let u = unused_out b j (omega arith) (p.beads j h) in let z = u.accepting in rw u.states (omega arith)

  accepting_again : (j : ℕ) → j < most_beads → set_of most_states (accepting_of (state_lines_of b) (j + 1)) ≡ at b (accepting_at j)
  accepting_again j h =
      let fits = accepting_fits j h in
      let wide : 2 ^ at b (states_at j) ≤ 2 ^ most_states = pow_mono (states_fit b j (p.beads j h)) in
      ext most_states (set_of most_states (accepting_of (state_lines_of b) (j + 1))) (at b (accepting_at j)) (set_of_below most_states (accepting_of (state_lines_of b) (j + 1))) (omega arith)
      (λ q l. member-set_of most_states (accepting_of (state_lines_of b) (j + 1)) q l ∙ go q (find (state_lines_of b) (j + 1) q))
    where
      digit : (t : Bool) → eqb (cond t 1 0) 1 ≡ t
      digit true = refl
      digit false = refl

      go : (q : ℕ) → Found (state_lines_of b) (j + 1) q → accepting_of (state_lines_of b) (j + 1) q ≡ member q (at b (accepting_at j))
      go q (found r m e d x y) =
          x ∙ ap (λ (s : StateLine). eqb s.accepting 1) (row_is j q r m e d).0 ∙ digit (member q (at b (accepting_at j)))
      go q (missing f x y) =
          x ∙ sym (no_false (member q (at b (accepting_at j)))
          (λ t. f (row_in b j q) (row_there j q h (below_within (at b (states_at j)) (at b (accepting_at j)) (accepting_fits j h) q t)) refl refl))

  next_again : (j q a : ℕ) → j < most_beads → q < most_states → a < most_labels → next_of (state_lines_of b) (j + 1) q a ≡ at b (next_at j q a)
  next_again j q a h k l = go (find (state_lines_of b) (j + 1) q) (dec_lt a (labels_in b))
    where
      zero_next : (at b (states_at j) ≤ q) ⊎ (labels_in b ≤ a) → at b (next_at j q a) ≡ 0
      zero_next o = next_unused b j q a o (p.nexts j q a h k l)

      not_there : ((r : StateLine) → Memᴰ r (state_lines_of b) → r.bead ≡ j + 1 → r.state ≡ q → ⊥) → Dec (q < at b (states_at j)) → at b (states_at j) ≤ q
      not_there f (yes m) = absurd (f (row_in b j q) (row_there j q h m) refl refl)
      not_there f (no n) = omega arith

      go : Found (state_lines_of b) (j + 1) q → Dec (a < labels_in b) → next_of (state_lines_of b) (j + 1) q a ≡ at b (next_at j q a)
      go (missing f x y) d = y a ∙ sym (zero_next (inl (not_there f (dec_lt q (at b (states_at j))))))
      go (found r m e d x y) (yes c) =
          y a ∙ ap (λ (s : StateLine). get_or s.next a 0) (row_is j q r m e d).0 ∙ get_or-table (λ i. at b (next_at j q i)) (labels_in b) a c
      go (found r m e d x y) (no n) =
          y a ∙ ap (λ (s : StateLine). get_or s.next a 0) (row_is j q r m e d).0
          ∙ get_or-eq_default (table (λ i. at b (next_at j q i)) (labels_in b)) 0 {n = a}
          (let z = length-table (λ i. at b (next_at j q i)) (labels_in b) in omega arith)
          ∙ sym (zero_next (inr (omega arith)))

  pub gives_back : take pattern_length b ≡ buffer_of known
  gives_back =
      holds_buffer known (take pattern_length b) (record {
        size = length-take-le pattern_length b p.long;
        labels = front 0 (omega arith);
        beads = front 1 (omega arith) ∙ sym (rows_told.count ∙ last_row_bead);
        rules = λ j h. front (rule_at j) (omega arith) ∙ sym (rule_again j h);
        states = λ j h. front (states_at j) (omega arith) ∙ sym (states_again j h);
        finals = λ j h. front (accepting_at j) (omega arith) ∙ sym (accepting_again j h);
        nexts = nexts;
      })
    where
      front : (i : ℕ) → i < pattern_length → get_or (take pattern_length b) i 0 ≡ at b i
      front i h = get_or-take pattern_length b i 0 h

      nexts : (i : ℕ) → i < all_sets → get_or (take pattern_length b) (sets_begin + i) 0
          ≡ next_of (state_lines_of b) (i / sets_a_bead + 1) (i / sets_a_state % most_states) (i % sets_a_state)
      nexts i h =
          let e : sets_begin + i ≡ next_at (i / sets_a_bead) (i / sets_a_state % most_states) (i % sets_a_state) = omega arith in
          front (sets_begin + i) (omega arith) ∙ ap (at b) e
          ∙ sym (next_again (i / sets_a_bead) (i / sets_a_state % most_states) (i % sets_a_state) (omega arith) (omega arith) (omega arith))
