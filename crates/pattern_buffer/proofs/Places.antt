-- A buffer that passes, place by place: what the test says of its two counts, of each bead and of each next set, and back.
use Prim.Native.Nat.{ℕ, ◌+◌, ◌-◌, ◌*◌, ◌/◌, ◌%◌, ◌^◌, ◌≤◌, ◌<◌}
use mathlib.Core.Path.{◌≡◌, refl}
use mathlib.Core.Logic.{◌⊎◌, inl, inr}
use mathlib.Core.Bool.{Bool, true, false, not, ◌&&◌, ◌||◌}
use mathlib.Core.List.{List}
use native.Mathlib.Omega.{arith}
use borrow.Author.Tests.{lt-ltb, le-ltb, ltb-true, ltb-false}
use lib.Dec.{T, eqb, leb, ltb, leb→le, le→leb, ltb→lt, lt→ltb, eqb→eq, eqb_refl, T_not, not_T}
use lib.ListN.{length}
use Rattle.rules.specs.Rules.{is_rule, needs_one_next}
use Rattle.lists.specs.Places.{at}
use Rattle.sets.specs.Sets.{within, single}
use Rattle.sets.proofs.Truth.{or_l, or_r, or_cases, and_i, and_l, and_r, decide}
use Rattle.layout.specs.Layout.{most_labels, most_beads, most_states, rule_at, states_at, accepting_at, next_at, pattern_length, all_sets, sets_a_state, sets_a_bead}
use Rattle.pattern_buffer.specs.Meaning.{labels_in, beads_in}
use Rattle.pattern_buffer.specs.Valid.{between, turn_ok, bead_ok, beads_ok, next_ok, nexts_ok, is_pattern}
use Rattle.sets.proofs.Below.{all_out, all_in}

-- ---- tests of numbers

between_out : (low high n : ℕ) → T (between low high n) → (low ≤ n) × (n ≤ high)
between_out low high n t = (leb→le low n (and_l (leb low n) (leb n high) t), leb→le n high (and_r (leb low n) (leb n high) t))

between_in : (low high n : ℕ) → low ≤ n → n ≤ high → T (between low high n)
between_in low high n h k = and_i (leb low n) (leb n high) (le→leb low n h) (le→leb n high k)

is_zero : (n : ℕ) → n ≡ 0 → T (eqb n 0)
is_zero n e = rw e (eqb_refl 0)

-- ---- a bead

-- The bead at place j is there.
pub record Bead (b : List ℕ) (j : ℕ) : Type 0 where
  pub rule : T (is_rule (at b (rule_at j)))
  pub turn : 0 < j → at b (rule_at j) ≡ at b (rule_at (j - 1)) → ⊥
  pub some_state : 1 ≤ at b (states_at j)
  pub states_most : at b (states_at j) ≤ most_states
  pub accepting : at b (accepting_at j) < 2 ^ at b (states_at j)

-- It is not.
pub record Unused (b : List ℕ) (j : ℕ) : Type 0 where
  pub rule : at b (rule_at j) ≡ 0
  pub states : at b (states_at j) ≡ 0
  pub accepting : at b (accepting_at j) ≡ 0

-- The tests of a bead and of a next set, part by part.
module _ (b : List ℕ) (j : ℕ) where
  abbrev same_rule : Bool
  same_rule = eqb (at b (rule_at j)) (at b (rule_at (j - 1)))

  turn_out : T (turn_ok b j) → 0 < j → at b (rule_at j) ≡ at b (rule_at (j - 1)) → ⊥
  turn_out t h e = go (or_cases (eqb j 0) (not same_rule) t)
    where
      go : T (eqb j 0) ⊎ T (not same_rule) → ⊥
      go (inl s) = let z = eqb→eq j 0 s in omega arith
      go (inr s) = T_not same_rule s (rw e (eqb_refl (at b (rule_at (j - 1)))))

  turn_in : (0 < j → at b (rule_at j) ≡ at b (rule_at (j - 1)) → ⊥) → T (turn_ok b j)
  turn_in f = go (decide (eqb j 0))
    where
      later : T (not (eqb j 0)) → (j ≡ 0 → ⊥)
      later s e = T_not (eqb j 0) s (is_zero j e)

      go : T (eqb j 0) ⊎ T (not (eqb j 0)) → T (turn_ok b j)
      go (inl s) = or_l (eqb j 0) (not same_rule) s
      go (inr s) =
          or_r (eqb j 0) (not same_rule)
          (not_T same_rule (λ e. f (let n = later s in omega arith) (eqb→eq (at b (rule_at j)) (at b (rule_at (j - 1))) e)))

  abbrev rule_test : Bool
  rule_test = is_rule (at b (rule_at j))

  abbrev states_test : Bool
  states_test = between 1 most_states (at b (states_at j))

  abbrev accepting_test : Bool
  accepting_test = within (at b (states_at j)) (at b (accepting_at j))

  bead_parts : T (rule_test && (turn_ok b j && (states_test && accepting_test))) → Bead b j
  bead_parts t =
      let t2 = and_r rule_test (turn_ok b j && (states_test && accepting_test)) t in
      let t3 = and_r (turn_ok b j) (states_test && accepting_test) t2 in
      let s = between_out 1 most_states (at b (states_at j)) (and_l states_test accepting_test t3) in
      record {
        rule = and_l rule_test (turn_ok b j && (states_test && accepting_test)) t;
        turn = turn_out (and_l (turn_ok b j) (states_test && accepting_test) t2);
        some_state = s.0;
        states_most = s.1;
        accepting = ltb→lt (at b (accepting_at j)) (2 ^ at b (states_at j)) (and_r states_test accepting_test t3);
      }

  bead_joined : Bead b j → T (rule_test && (turn_ok b j && (states_test && accepting_test)))
  bead_joined g =
      and_i rule_test (turn_ok b j && (states_test && accepting_test)) g.rule
      (and_i (turn_ok b j) (states_test && accepting_test) (turn_in g.turn)
      (and_i states_test accepting_test (between_in 1 most_states (at b (states_at j)) g.some_state g.states_most)
      (lt→ltb (at b (accepting_at j)) (2 ^ at b (states_at j)) g.accepting)))

  abbrev zeros_test : Bool
  zeros_test = eqb (at b (rule_at j)) 0 && (eqb (at b (states_at j)) 0 && eqb (at b (accepting_at j)) 0)

  unused_parts : T zeros_test → Unused b j
  unused_parts t =
      let t2 = and_r (eqb (at b (rule_at j)) 0) (eqb (at b (states_at j)) 0 && eqb (at b (accepting_at j)) 0) t in
      record {
        rule = eqb→eq (at b (rule_at j)) 0 (and_l (eqb (at b (rule_at j)) 0) (eqb (at b (states_at j)) 0 && eqb (at b (accepting_at j)) 0) t);
        states = eqb→eq (at b (states_at j)) 0 (and_l (eqb (at b (states_at j)) 0) (eqb (at b (accepting_at j)) 0) t2);
        accepting = eqb→eq (at b (accepting_at j)) 0 (and_r (eqb (at b (states_at j)) 0) (eqb (at b (accepting_at j)) 0) t2);
      }

  unused_joined : Unused b j → T zeros_test
  unused_joined u =
      and_i (eqb (at b (rule_at j)) 0) (eqb (at b (states_at j)) 0 && eqb (at b (accepting_at j)) 0) (is_zero (at b (rule_at j)) u.rule)
      (and_i (eqb (at b (states_at j)) 0) (eqb (at b (accepting_at j)) 0) (is_zero (at b (states_at j)) u.states)
      (is_zero (at b (accepting_at j)) u.accepting))

  pub bead_out : j < beads_in b → T (bead_ok b j) → Bead b j
  bead_out h t = bead_parts (rw (lt-ltb j (beads_in b) h) at t)

  pub unused_out : beads_in b ≤ j → T (bead_ok b j) → Unused b j
  unused_out h t = unused_parts (rw (le-ltb j (beads_in b) h) at t)

  pub bead_in : (j < beads_in b → Bead b j) → (beads_in b ≤ j → Unused b j) → T (bead_ok b j)
  bead_in f g = go (ltb j (beads_in b)) refl
    where
      go : (s : Bool) → ltb j (beads_in b) ≡ s → T (bead_ok b j)
      go true e = rw e (bead_joined (f (ltb-true j (beads_in b) e)))
      go false e = rw e (unused_joined (g (ltb-false j (beads_in b) e)))

  -- a bead that passes has at most 16 states
  pub states_fit : T (bead_ok b j) → at b (states_at j) ≤ most_states
  states_fit t = go (ltb j (beads_in b)) refl
    where
      go : (s : Bool) → ltb j (beads_in b) ≡ s → at b (states_at j) ≤ most_states
      go true e = (bead_out (ltb-true j (beads_in b) e) t).states_most
      go false e = let z = (unused_out (ltb-false j (beads_in b) e) t).states in omega arith

-- ---- a next set

-- The next set of a state and a label that are there.
pub record Next (b : List ℕ) (j q a : ℕ) : Type 0 where
  pub inside : at b (next_at j q a) < 2 ^ at b (states_at j)
  pub one : T (needs_one_next (at b (rule_at j))) → T (single most_states (at b (next_at j q a)))

module _ (b : List ℕ) (j q a : ℕ) where
  abbrev inside_test : Bool
  inside_test = within (at b (states_at j)) (at b (next_at j q a))

  abbrev one_test : Bool
  one_test = single most_states (at b (next_at j q a))

  abbrev one_asked : Bool
  one_asked = needs_one_next (at b (rule_at j))

  next_parts : T (inside_test && (not one_asked || one_test)) → Next b j q a
  next_parts t = record {
    inside = ltb→lt (at b (next_at j q a)) (2 ^ at b (states_at j)) (and_l inside_test (not one_asked || one_test) t);
    one = λ e. go e (or_cases (not one_asked) one_test (and_r inside_test (not one_asked || one_test) t));
  }
    where
      go : T one_asked → T (not one_asked) ⊎ T one_test → T one_test
      go e (inl s) = absurd (T_not one_asked s e)
      go e (inr s) = s

  next_joined : Next b j q a → T (inside_test && (not one_asked || one_test))
  next_joined n =
      and_i inside_test (not one_asked || one_test) (lt→ltb (at b (next_at j q a)) (2 ^ at b (states_at j)) n.inside) (go (decide one_asked))
    where
      go : T one_asked ⊎ T (not one_asked) → T (not one_asked || one_test)
      go (inl s) = or_r (not one_asked) one_test (n.one s)
      go (inr s) = or_l (not one_asked) one_test s

  pub next_out : q < at b (states_at j) → a < labels_in b → T (next_ok b j q a) → Next b j q a
  next_out h k t = next_parts (rw (lt-ltb q (at b (states_at j)) h, lt-ltb a (labels_in b) k) at t)

  pub next_unused : (at b (states_at j) ≤ q) ⊎ (labels_in b ≤ a) → T (next_ok b j q a) → at b (next_at j q a) ≡ 0
  next_unused o t = go o (ltb q (at b (states_at j))) refl t
    where
      go : (at b (states_at j) ≤ q) ⊎ (labels_in b ≤ a) → (s : Bool) → ltb q (at b (states_at j)) ≡ s → T (next_ok b j q a) → at b (next_at j q a) ≡ 0
      go o false e t = eqb→eq (at b (next_at j q a)) 0 (rw e at t)
      go (inl h) true e t = let z = ltb-true q (at b (states_at j)) e in absurd (omega arith)
      go (inr h) true e t = eqb→eq (at b (next_at j q a)) 0 (rw (e, le-ltb a (labels_in b) h) at t)

  pub next_in : (q < at b (states_at j) → a < labels_in b → Next b j q a)
      → ((at b (states_at j) ≤ q) ⊎ (labels_in b ≤ a) → at b (next_at j q a) ≡ 0) → T (next_ok b j q a)
  next_in f g = go (ltb q (at b (states_at j))) refl (ltb a (labels_in b)) refl
    where
      go : (s : Bool) → ltb q (at b (states_at j)) ≡ s → (t : Bool) → ltb a (labels_in b) ≡ t → T (next_ok b j q a)
      go true e true d = rw (e, d) (next_joined (f (ltb-true q (at b (states_at j)) e) (ltb-true a (labels_in b) d)))
      go true e false d = rw (e, d) (is_zero (at b (next_at j q a)) (g (inr (ltb-false a (labels_in b) d))))
      go false e t d = rw e (is_zero (at b (next_at j q a)) (g (inl (ltb-false q (at b (states_at j)) e))))

-- ---- the whole buffer

pub record Passes (b : List ℕ) : Type 0 where
  pub long : pattern_length ≤ length b
  pub some_label : 1 ≤ labels_in b
  pub labels_most : labels_in b ≤ most_labels
  pub some_bead : 1 ≤ beads_in b
  pub beads_most : beads_in b ≤ most_beads
  pub beads : (j : ℕ) → j < most_beads → T (bead_ok b j)
  pub nexts : (j q a : ℕ) → j < most_beads → q < most_states → a < most_labels → T (next_ok b j q a)

module _ (b : List ℕ) where
  abbrev nth_next : ℕ → Bool
  nth_next i = next_ok b (i / sets_a_bead) (i / sets_a_state % most_states) (i % sets_a_state)

  abbrev labels_test : Bool
  labels_test = between 1 most_labels (labels_in b)

  abbrev beads_test : Bool
  beads_test = between 1 most_beads (beads_in b)

  abbrev tables_test : Bool
  tables_test = beads_ok b && nexts_ok b

  pub passes_out : T (is_pattern b) → Passes b
  unfolding is_pattern beads_ok nexts_ok
  passes_out t =
      let t2 = and_r (leb pattern_length (length b)) (labels_test && (beads_test && tables_test)) t in
      let t3 = and_r labels_test (beads_test && tables_test) t2 in
      let t4 = and_r beads_test tables_test t3 in
      let l = between_out 1 most_labels (labels_in b) (and_l labels_test (beads_test && tables_test) t2) in
      let n = between_out 1 most_beads (beads_in b) (and_l beads_test tables_test t3) in
      record {
        long = leb→le pattern_length (length b) (and_l (leb pattern_length (length b)) (labels_test && (beads_test && tables_test)) t);
        some_label = l.0;
        labels_most = l.1;
        some_bead = n.0;
        beads_most = n.1;
        beads = all_out most_beads (bead_ok b) (and_l (beads_ok b) (nexts_ok b) t4);
        nexts = λ j q a h k l. turned j q a h k l (all_out all_sets nth_next (and_r (beads_ok b) (nexts_ok b) t4));
      }
    where
      turned : (j q a : ℕ) → j < most_beads → q < most_states → a < most_labels → ((i : ℕ) → i < all_sets → T (nth_next i)) → T (next_ok b j q a)
      turned j q a h k l f =
          let i : ℕ = sets_a_bead * j + sets_a_state * q + a in
          let e : i / sets_a_bead ≡ j = omega arith in
          let d : i / sets_a_state % most_states ≡ q = omega arith in
          let m : i % sets_a_state ≡ a = omega arith in
          rw (e, d, m) at (f i (omega arith))

  pub passes_in : Passes b → T (is_pattern b)
  unfolding is_pattern beads_ok nexts_ok
  passes_in p =
      and_i (leb pattern_length (length b)) (labels_test && (beads_test && tables_test)) (le→leb pattern_length (length b) p.long)
      (and_i labels_test (beads_test && tables_test) (between_in 1 most_labels (labels_in b) p.some_label p.labels_most)
      (and_i beads_test tables_test (between_in 1 most_beads (beads_in b) p.some_bead p.beads_most)
      (and_i (beads_ok b) (nexts_ok b) (all_in most_beads (bead_ok b) p.beads)
      (all_in all_sets nth_next (λ i h. p.nexts (i / sets_a_bead) (i / sets_a_state % most_states) (i % sets_a_state) (omega arith) (omega arith) (omega arith))))))

-- What a buffer that passes has: its beads, and their next sets.
module _ (b : List ℕ) (p : Passes b) where
  pub bead_there : (j : ℕ) → j < beads_in b → Bead b j
  bead_there j h = bead_out b j h (p.beads j (let m = p.beads_most in omega arith))

  pub next_there : (j q a : ℕ) → j < beads_in b → q < at b (states_at j) → a < labels_in b → Next b j q a
  next_there j q a h k l =
      next_out b j q a k l
      (p.nexts j q a (let m = p.beads_most in omega arith) (let m = (bead_there j h).states_most in omega arith)
      (let m = p.labels_most in omega arith))
