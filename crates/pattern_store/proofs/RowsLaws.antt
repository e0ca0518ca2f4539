-- What rows that come in order satisfy: how a row more changes what they say, and where each stands.
-- Assumes nothing.
use mathlib.Core.Path.{◌≡◌, refl, sym, ap, ◌∙◌}
use mathlib.Core.Bool.{Bool, true, false, not, cond, ◌&&◌, ◌||◌, or-false, or-true, or_assoc}
use mathlib.Core.List.{List, [], ◌∷◌, ◌++◌}
use Prim.Native.Nat.{ℕ, ◌+◌, ◌-◌, ◌*◌, ◌≤◌, ◌<◌, max}
use native.Mathlib.Omega.{arith}
use borrow.Author.Tests.{eq-eqb, ne_eqb, lt-ltb, le-ltb, eqb-true, eqb-false, ltb-true, ltb-false, not-false}
use lib.Dec.{T, eqb, ltb}
use lib.ListN.{length, get_or}
use Rattle.layout.specs.Layout.{most_beads, most_states}
use Rattle.sets.proofs.Truth.{true_yes}
use Rattle.rules.specs.Rules.{is_rule}
use Rattle.pattern_order.specs.StateLine.{StateLine, follows_last, disordered, breaks_turns, misruled}
use Rattle.pattern_store.specs.Next.{states_of}
use Rattle.pattern_store.specs.Buffer.{bead_count, rule_of_bead, is_at, accepting_of, next_of}

-- ---- one row more

-- There is a row of the state q of bead b.
unfoldable pub has_row : List StateLine → ℕ → ℕ → Bool
has_row [] b q = false
has_row (r ∷ rs) b q = is_at r b q || has_row rs b q

pub states_more : (rows : List StateLine) (r : StateLine) (b : ℕ) → states_of (rows ++ (r ∷ [])) b ≡ states_of rows b + cond (eqb r.bead b) 1 0
unfolding states_of
states_more [] r b = omega arith
states_more (p ∷ rows) r b = let e = states_more rows r b in omega arith

pub beads_more : (rows : List StateLine) (r : StateLine) → bead_count (rows ++ (r ∷ [])) ≡ max (bead_count rows) r.bead
unfolding bead_count
beads_more [] r = omega arith
beads_more (p ∷ rows) r = let e = beads_more rows r in omega arith

pub row_more : (rows : List StateLine) (r : StateLine) (b q : ℕ) → has_row (rows ++ (r ∷ [])) b q ≡ (has_row rows b q || is_at r b q)
unfolding has_row
row_more [] r b q = or-false (is_at r b q)
row_more (p ∷ rows) r b q =
    ap (λ (t : Bool). is_at p b q || t) (row_more rows r b q) ∙ sym (or_assoc (is_at p b q) (has_row rows b q) (is_at r b q))

pub next_append : (rows more : List StateLine) (b q a : ℕ) → next_of (rows ++ more) b q a ≡ cond (has_row rows b q) (next_of rows b q a) (next_of more b q a)
unfolding next_of has_row
next_append [] more b q a = refl
next_append (p ∷ rows) more b q a = go (is_at p b q) (next_append rows more b q a)
  where
    go : (t : Bool) → next_of (rows ++ more) b q a ≡ cond (has_row rows b q) (next_of rows b q a) (next_of more b q a)
        → cond t (get_or p.next a 0) (next_of (rows ++ more) b q a)
        ≡ cond (t || has_row rows b q) (cond t (get_or p.next a 0) (next_of rows b q a)) (next_of more b q a)
    go true e = refl
    go false e = e

pub accepting_append : (rows more : List StateLine) (b q : ℕ)
    → accepting_of (rows ++ more) b q ≡ cond (has_row rows b q) (accepting_of rows b q) (accepting_of more b q)
unfolding accepting_of has_row
accepting_append [] more b q = refl
accepting_append (p ∷ rows) more b q = go (is_at p b q) (accepting_append rows more b q)
  where
    go : (t : Bool) → accepting_of (rows ++ more) b q ≡ cond (has_row rows b q) (accepting_of rows b q) (accepting_of more b q)
        → cond t (eqb p.accepting 1) (accepting_of (rows ++ more) b q)
        ≡ cond (t || has_row rows b q) (cond t (eqb p.accepting 1) (accepting_of rows b q)) (accepting_of more b q)
    go true e = refl
    go false e = e

pub rule_append : (rows more : List StateLine) (b : ℕ)
    → rule_of_bead (rows ++ more) b ≡ cond (eqb (states_of rows b) 0) (rule_of_bead more b) (rule_of_bead rows b)
unfolding rule_of_bead states_of
rule_append [] more b = refl
rule_append (p ∷ rows) more b = go (eqb p.bead b) (rule_append rows more b)
  where
    go : (t : Bool) → rule_of_bead (rows ++ more) b ≡ cond (eqb (states_of rows b) 0) (rule_of_bead more b) (rule_of_bead rows b)
        → cond t p.rule (rule_of_bead (rows ++ more) b)
        ≡ cond (eqb (cond t 1 0 + states_of rows b) 0) (rule_of_bead more b) (cond t p.rule (rule_of_bead rows b))
    go true e = rw (ne_eqb (1 + states_of rows b) 0 (omega arith)) refl
    go false e = let z : 0 + states_of rows b ≡ states_of rows b = omega arith in rw z e

-- What no row says.
pub next_absent : (rows : List StateLine) (b q a : ℕ) → has_row rows b q ≡ false → next_of rows b q a ≡ 0
unfolding next_of has_row
next_absent [] b q a h = refl
next_absent (p ∷ rows) b q a h = go (is_at p b q) h (next_absent rows b q a)
  where
    go : (t : Bool) → (t || has_row rows b q) ≡ false → (has_row rows b q ≡ false → next_of rows b q a ≡ 0) → cond t (get_or p.next a 0) (next_of rows b q a) ≡ 0
    go true e rest = let z : ◌≡◌ {A = ℕ} 0 1 = cc in absurd (omega arith)
    go false e rest = rest e

pub accepting_absent : (rows : List StateLine) (b q : ℕ) → has_row rows b q ≡ false → accepting_of rows b q ≡ false
unfolding accepting_of has_row
accepting_absent [] b q h = refl
accepting_absent (p ∷ rows) b q h = go (is_at p b q) h (accepting_absent rows b q)
  where
    go : (t : Bool) → (t || has_row rows b q) ≡ false → (has_row rows b q ≡ false → accepting_of rows b q ≡ false)
        → cond t (eqb p.accepting 1) (accepting_of rows b q) ≡ false
    go true e rest = let z : ◌≡◌ {A = ℕ} 0 1 = cc in absurd (omega arith)
    go false e rest = rest e

pub rule_absent : (rows : List StateLine) (b : ℕ) → states_of rows b ≡ 0 → rule_of_bead rows b ≡ 0
unfolding rule_of_bead states_of
rule_absent [] b h = refl
rule_absent (p ∷ rows) b h = go (eqb p.bead b) h (rule_absent rows b)
  where
    go : (t : Bool) → cond t 1 0 + states_of rows b ≡ 0 → (states_of rows b ≡ 0 → rule_of_bead rows b ≡ 0) → cond t p.rule (rule_of_bead rows b) ≡ 0
    go true e rest = absurd (omega arith)
    go false e rest = rest (omega arith)

-- ---- the last row

-- What 13 and 14 look at of it: bead 0 where there is none.
pub record Last : Type 0 where
  pub bead : ℕ
  pub rule : ℕ
  pub state : ℕ

abbrev pub last_rows : Last → List StateLine
last_rows l = cond (eqb l.bead 0) [] (record { bead = l.bead; rule = l.rule; state = l.state; accepting = 0; next = [] } ∷ [])

unfoldable pub last_of : List StateLine → Last
last_of [] = record { bead = 0; rule = 0; state = 0 }
last_of (p ∷ []) = record { bead = p.bead; rule = p.rule; state = p.state }
last_of (p ∷ (q ∷ rows)) = last_of (q ∷ rows)

pub last_more : (rows : List StateLine) (r : StateLine) → last_of (rows ++ (r ∷ [])) ≡ record { bead = r.bead; rule = r.rule; state = r.state }
unfolding last_of
last_more [] r = refl
last_more (p ∷ []) r = refl
last_more (p ∷ (q ∷ rows)) r = last_more (q ∷ rows) r

-- 13 and 14 look at no other.
pub follows_last_lem : (rows : List StateLine) (r : StateLine) → ((last_of rows).bead ≡ 0 → length rows ≡ 0) → follows_last rows r ≡ follows_last (last_rows (last_of rows)) r
unfolding follows_last last_of
follows_last_lem [] r h = refl
follows_last_lem (p ∷ []) r h = rw (ne_eqb p.bead 0 (λ z. let e = h z in omega arith)) refl
follows_last_lem (p ∷ (q ∷ rows)) r h = follows_last_lem (q ∷ rows) r (λ z. let e = h z in absurd (omega arith))

pub turns_last : (rows : List StateLine) (r : StateLine) → ((last_of rows).bead ≡ 0 → length rows ≡ 0) → breaks_turns rows r ≡ breaks_turns (last_rows (last_of rows)) r
unfolding breaks_turns last_of
turns_last [] r h = refl
turns_last (p ∷ []) r h = rw (ne_eqb p.bead 0 (λ z. let e = h z in omega arith)) refl
turns_last (p ∷ (q ∷ rows)) r h = turns_last (q ∷ rows) r (λ z. let e = h z in absurd (omega arith))

-- ---- rows in order

pub record Orderly (rows : List StateLine) : Type 0 where
  pub some : (last_of rows).bead ≡ 0 → length rows ≡ 0
  pub beads : bead_count rows ≡ (last_of rows).bead
  pub beads_high : bead_count rows ≤ most_beads
  pub above : (b : ℕ) → bead_count rows < b → states_of rows b ≡ 0
  pub few : (b : ℕ) → states_of rows b ≤ most_states
  pub last_states : 1 ≤ (last_of rows).bead → states_of rows (last_of rows).bead ≡ (last_of rows).state + 1
  pub last_rule : 1 ≤ (last_of rows).bead → rule_of_bead rows (last_of rows).bead ≡ (last_of rows).rule
  pub taken : (b q : ℕ) → has_row rows b q ≡ ltb q (states_of rows b)

-- A row that may come next.
pub record Added (rows : List StateLine) (r : StateLine) : Type 0 where
  pub bead_low : 1 ≤ r.bead
  pub bead_high : r.bead ≤ most_beads
  pub state_high : r.state < most_states
  pub final_high : r.accepting ≤ 1
  pub state_is : r.state ≡ states_of rows r.bead
  pub bead_top : bead_count rows ≤ r.bead
  pub bead_near : r.bead ≤ bead_count rows + 1
  pub rule_known : T (is_rule r.rule)
  pub rule_same : 0 < states_of rows r.bead → rule_of_bead rows r.bead ≡ r.rule

pub orderly_none : Orderly []
unfolding last_of bead_count states_of rule_of_bead has_row
orderly_none = record {
  some = λ z. refl;
  beads = refl;
  beads_high = omega arith;
  above = λ b h. refl;
  few = λ b. omega arith;
  last_states = λ h. absurd (omega arith);
  last_rule = λ h. absurd (omega arith);
  taken = λ b q. sym (le-ltb q 0 (omega arith));
}

-- The four tests of 13.
pub record InOrder (rows : List StateLine) (r : StateLine) : Type 0 where
  pub follows : follows_last rows r ≡ true
  pub bead : r.bead ≤ most_beads
  pub state : r.state < most_states
  pub final : r.accepting ≤ 1

pub in_order : (rows : List StateLine) (r : StateLine) → disordered rows r ≡ false → InOrder rows r
in_order rows r d = go (follows_last rows r) refl (ltb most_beads r.bead) refl (ltb r.state most_states) refl (ltb 1 r.accepting) refl d
  where
    go : (s : Bool) → follows_last rows r ≡ s → (t : Bool) → ltb most_beads r.bead ≡ t → (u : Bool) → ltb r.state most_states ≡ u → (v : Bool) → ltb 1 r.accepting ≡ v
        → (not s || (t || (not u || v))) ≡ false → InOrder rows r
    go false a t b u c v e f = let z : ◌≡◌ {A = ℕ} 0 1 = cc in absurd (omega arith)
    go true a true b u c v e f = let z : ◌≡◌ {A = ℕ} 0 1 = cc in absurd (omega arith)
    go true a false b false c v e f = let z : ◌≡◌ {A = ℕ} 0 1 = cc in absurd (omega arith)
    go true a false b true c true e f = let z : ◌≡◌ {A = ℕ} 0 1 = cc in absurd (omega arith)
    go true a false b true c false e f =
        record { follows = a; bead = ltb-false most_beads r.bead b; state = ltb-true r.state most_states c; final = ltb-false 1 r.accepting e }

-- The ways a row follows the last.
data Way (l : Last) (r : StateLine) : Type 0 where
  first : l.bead ≡ 0 → r.bead ≡ 1 → r.state ≡ 0 → Way l r
  inside : (l.bead ≡ 0 → ⊥) → r.bead ≡ l.bead → r.state ≡ l.state + 1 → Way l r
  next : (l.bead ≡ 0 → ⊥) → r.bead ≡ l.bead + 1 → r.state ≡ 0 → Way l r

way_of : (l : Last) (r : StateLine) → follows_last (last_rows l) r ≡ true → Way l r
unfolding follows_last
way_of l r h = go (eqb l.bead 0) refl h
  where
    one : (t : Bool) → eqb r.bead 1 ≡ t → (u : Bool) → eqb r.state 0 ≡ u → l.bead ≡ 0 → (t && u) ≡ true → Way l r
    one true a true b z e = first z (eqb-true r.bead 1 a) (eqb-true r.state 0 b)
    one true a false b z e = let y : ◌≡◌ {A = ℕ} 0 1 = cc in absurd (omega arith)
    one false a u b z e = let y : ◌≡◌ {A = ℕ} 0 1 = cc in absurd (omega arith)

    other : (t : Bool) → eqb r.bead l.bead ≡ t → (u : Bool) → eqb r.state (l.state + 1) ≡ u → (v : Bool) → eqb r.bead (l.bead + 1) ≡ v
        → (w : Bool) → eqb r.state 0 ≡ w → (l.bead ≡ 0 → ⊥) → ((t && u) || (v && w)) ≡ true → Way l r
    other true a true b v c w d z e = inside z (eqb-true r.bead l.bead a) (eqb-true r.state (l.state + 1) b)
    other true a false b true c true d z e = next z (eqb-true r.bead (l.bead + 1) c) (eqb-true r.state 0 d)
    other true a false b true c false d z e = let y : ◌≡◌ {A = ℕ} 0 1 = cc in absurd (omega arith)
    other true a false b false c w d z e = let y : ◌≡◌ {A = ℕ} 0 1 = cc in absurd (omega arith)
    other false a u b true c true d z e = next z (eqb-true r.bead (l.bead + 1) c) (eqb-true r.state 0 d)
    other false a u b true c false d z e = let y : ◌≡◌ {A = ℕ} 0 1 = cc in absurd (omega arith)
    other false a u b false c w d z e = let y : ◌≡◌ {A = ℕ} 0 1 = cc in absurd (omega arith)

    go : (t : Bool) → eqb l.bead 0 ≡ t
        → follows_last (cond t [] (record { bead = l.bead; rule = l.rule; state = l.state; accepting = 0; next = [] } ∷ [])) r ≡ true → Way l r
    go true z e = one (eqb r.bead 1) refl (eqb r.state 0) refl (eqb-true l.bead 0 z) e
    go false z e =
        other (eqb r.bead l.bead) refl (eqb r.state (l.state + 1)) refl (eqb r.bead (l.bead + 1)) refl (eqb r.state 0) refl
        (eqb-false l.bead 0 z) e

pub follows_low : (l : Last) (r : StateLine) → follows_last (last_rows l) r ≡ true → 1 ≤ r.bead
follows_low l r h = go (way_of l r h)
  where
    go : Way l r → 1 ≤ r.bead
    go (first z b s) = omega arith
    go (inside z b s) = omega arith
    go (next z b s) = omega arith

-- A rule that is one, and stays inside a bead.
record Ruled (l : Last) (r : StateLine) : Type 0 where
  known : T (is_rule r.rule)
  same : (l.bead ≡ 0 → ⊥) → r.bead ≡ l.bead → r.rule ≡ l.rule

ruled_of : (l : Last) (r : StateLine) → (not (is_rule r.rule) || breaks_turns (last_rows l) r) ≡ false → Ruled l r
unfolding breaks_turns
ruled_of l r h = go (is_rule r.rule) refl h
  where
    unbroken : (l.bead ≡ 0 → ⊥) → r.bead ≡ l.bead → breaks_turns (last_rows l) r ≡ false → r.rule ≡ l.rule
    unbroken n e k =
        let p : breaks_turns (last_rows l) r ≡ not (eqb r.rule l.rule) = rw (ne_eqb l.bead 0 n, eq-eqb r.bead l.bead e) refl in
        eqb-true r.rule l.rule (not-false (eqb r.rule l.rule) (sym p ∙ k))

    go : (t : Bool) → is_rule r.rule ≡ t → (not t || breaks_turns (last_rows l) r) ≡ false → Ruled l r
    go true a e = record { known = true_yes (is_rule r.rule) a; same = λ n q. unbroken n q e }
    go false a e = let y : ◌≡◌ {A = ℕ} 0 1 = cc in absurd (omega arith)

pub added : (rows : List StateLine) (r : StateLine) → Orderly rows → disordered rows r ≡ false → misruled rows r ≡ false → Added rows r
added rows r o d m =
    go (way_of (last_of rows) r (sym (follows_last_lem rows r o.some) ∙ (in_order rows r d).follows))
    (ruled_of (last_of rows) r (ap (λ (t : Bool). not (is_rule r.rule) || t) (sym (turns_last rows r o.some)) ∙ m))
  where
    i : InOrder rows r
    i = in_order rows r d

    begun : r.bead ≡ (last_of rows).bead + 1 → r.state ≡ 0 → Ruled (last_of rows) r → Added rows r
    begun b s u =
        let c = o.beads in
        let none : states_of rows r.bead ≡ 0 = o.above r.bead (omega arith) in
        record {
          bead_low = omega arith;
          bead_high = i.bead;
          state_high = i.state;
          final_high = i.final;
          state_is = omega arith;
          bead_top = omega arith;
          bead_near = omega arith;
          rule_known = u.known;
          rule_same = λ h. absurd (omega arith);
        }

    go : Way (last_of rows) r → Ruled (last_of rows) r → Added rows r
    go (first z b s) u = begun (omega arith) s u
    go (next z b s) u = begun b s u
    go (inside z b s) u =
        let c = o.beads in
        let l : 1 ≤ (last_of rows).bead = omega arith in
        let n : states_of rows r.bead ≡ (last_of rows).state + 1 = ap (states_of rows) b ∙ o.last_states l in
        record {
          bead_low = omega arith;
          bead_high = i.bead;
          state_high = i.state;
          final_high = i.final;
          state_is = omega arith;
          bead_top = omega arith;
          bead_near = omega arith;
          rule_known = u.known;
          rule_same = λ h. ap (rule_of_bead rows) b ∙ o.last_rule l ∙ sym (u.same z b);
        }

-- At a bead that is not the row's, nothing changes; at the row's bead there is a state more.
pub states_other : (rows : List StateLine) (r : StateLine) (b : ℕ) → (r.bead ≡ b → ⊥) → states_of (rows ++ (r ∷ [])) b ≡ states_of rows b
states_other rows r b n = states_more rows r b ∙ rw (ne_eqb r.bead b n) (omega arith)

pub states_own : (rows : List StateLine) (r : StateLine) (b : ℕ) → r.bead ≡ b → states_of (rows ++ (r ∷ [])) b ≡ states_of rows b + 1
states_own rows r b e = states_more rows r b ∙ rw (eq-eqb r.bead b e) refl

rule_alone : (r : StateLine) (b : ℕ) → rule_of_bead (r ∷ []) b ≡ cond (eqb r.bead b) r.rule 0
unfolding rule_of_bead
rule_alone r b = refl

module _ (rows : List StateLine) (r : StateLine) (d : Added rows r) where
  pub rule_own : rule_of_bead (rows ++ (r ∷ [])) r.bead ≡ r.rule
  rule_own = rule_append rows (r ∷ []) r.bead ∙ go (eqb (states_of rows r.bead) 0) refl
    where
      go : (t : Bool) → eqb (states_of rows r.bead) 0 ≡ t → cond t (rule_of_bead (r ∷ []) r.bead) (rule_of_bead rows r.bead) ≡ r.rule
      go true e = rule_alone r r.bead ∙ rw (eq-eqb r.bead r.bead refl) refl
      go false e = d.rule_same (let n = eqb-false (states_of rows r.bead) 0 e in omega arith)

  pub rule_other : (b : ℕ) → (r.bead ≡ b → ⊥) → rule_of_bead (rows ++ (r ∷ [])) b ≡ rule_of_bead rows b
  rule_other b n = rule_append rows (r ∷ []) b ∙ go (eqb (states_of rows b) 0) refl
    where
      go : (t : Bool) → eqb (states_of rows b) 0 ≡ t → cond t (rule_of_bead (r ∷ []) b) (rule_of_bead rows b) ≡ rule_of_bead rows b
      go true e = rule_alone r b ∙ rw (ne_eqb r.bead b n) (sym (rule_absent rows b (eqb-true (states_of rows b) 0 e)))
      go false e = refl

  pub beads_own : bead_count (rows ++ (r ∷ [])) ≡ r.bead
  beads_own = beads_more rows r ∙ (let t = d.bead_top in omega arith)

  pub orderly_more : Orderly rows → Orderly (rows ++ (r ∷ []))
  orderly_more o =
      let last = last_more rows r in
      let low = d.bead_low in
      record {
        some = λ z. absurd (let e : (last_of (rows ++ (r ∷ []))).bead ≡ r.bead = ap (λ (l : Last). l.bead) last in omega arith);
        beads = beads_own ∙ sym (ap (λ (l : Last). l.bead) last);
        beads_high = rw beads_own d.bead_high;
        above = above;
        few = few;
        last_states = λ h. rw last (states_own rows r r.bead refl ∙ ap (λ (k : ℕ). k + 1) (sym d.state_is));
        last_rule = λ h. rw last rule_own;
        taken = taken;
      }
    where
      above : (b : ℕ) → bead_count (rows ++ (r ∷ [])) < b → states_of (rows ++ (r ∷ [])) b ≡ 0
      above b h =
          let e = beads_own in
          let t = d.bead_top in
          states_other rows r b (λ z. absurd (omega arith)) ∙ o.above b (omega arith)

      few : (b : ℕ) → states_of (rows ++ (r ∷ [])) b ≤ most_states
      few b = go (eqb r.bead b) refl
        where
          go : (t : Bool) → eqb r.bead b ≡ t → states_of (rows ++ (r ∷ [])) b ≤ most_states
          go true e =
              let q = eqb-true r.bead b e in
              let n = states_own rows r b q in
              let s : r.state ≡ states_of rows b = d.state_is ∙ ap (states_of rows) q in
              let h = d.state_high in
              omega arith
          go false e = let n = states_other rows r b (eqb-false r.bead b e) in let h = o.few b in omega arith

      taken : (b q : ℕ) → has_row (rows ++ (r ∷ [])) b q ≡ ltb q (states_of (rows ++ (r ∷ [])) b)
      taken b q = row_more rows r b q ∙ ap (λ (t : Bool). t || is_at r b q) (o.taken b q) ∙ go (eqb r.bead b) refl
        where
          at_end : (t : Bool) → ltb q (states_of rows b) ≡ t → (u : Bool) → eqb r.state q ≡ u → r.state ≡ states_of rows b
              → (t || u) ≡ ltb q (states_of rows b + 1)
          at_end true e u f s = sym (lt-ltb q (states_of rows b + 1) (let h = ltb-true q (states_of rows b) e in omega arith))
          at_end false e true f s = sym (lt-ltb q (states_of rows b + 1) (let h = eqb-true r.state q f in omega arith))
          at_end false e false f s =
              sym (le-ltb q (states_of rows b + 1) (let h = eqb-false r.state q f in let k = ltb-false q (states_of rows b) e in omega arith))

          go : (t : Bool) → eqb r.bead b ≡ t → (ltb q (states_of rows b) || (t && eqb r.state q)) ≡ ltb q (states_of (rows ++ (r ∷ [])) b)
          go true e =
              let z = eqb-true r.bead b e in
              at_end (ltb q (states_of rows b)) refl (eqb r.state q) refl (d.state_is ∙ ap (states_of rows) z)
              ∙ ap (ltb q) (sym (states_own rows r b z))
          go false e = or-false (ltb q (states_of rows b)) ∙ ap (ltb q) (sym (states_other rows r b (eqb-false r.bead b e)))

  -- no row before it speaks of its state
  pub fresh : Orderly rows → has_row rows r.bead r.state ≡ false
  fresh o = o.taken r.bead r.state ∙ le-ltb r.state (states_of rows r.bead) (let s = d.state_is in omega arith)

-- ---- where each row stands

unfoldable pub AllOf : (StateLine → Type 0) → List StateLine → Type 0
AllOf P [] = Unit {0}
AllOf P (r ∷ rows) = P r × AllOf P rows

pub all_map : (P Q : StateLine → Type 0) → ((r : StateLine) → P r → Q r) → (rows : List StateLine) → AllOf P rows → AllOf Q rows
unfolding AllOf
all_map P Q f [] a = tt
all_map P Q f (r ∷ rows) a = (f r a.0, all_map P Q f rows a.1)

pub all_more : (P : StateLine → Type 0) (rows : List StateLine) (r : StateLine) → AllOf P rows → P r → AllOf P (rows ++ (r ∷ []))
unfolding AllOf
all_more P [] r a p = (p, tt)
all_more P (q ∷ rows) r a p = (a.0, all_more P rows r a.1 p)

-- A row among the rows, with c labels: what they say of its state is what it says.
pub record Placed (c : ℕ) (rows : List StateLine) (r : StateLine) : Type 0 where
  pub bead_low : 1 ≤ r.bead
  pub bead_high : r.bead ≤ most_beads
  pub state_high : r.state < most_states
  pub there : has_row rows r.bead r.state ≡ true
  pub rule_is : rule_of_bead rows r.bead ≡ r.rule
  pub next_is : (a : ℕ) → next_of rows r.bead r.state a ≡ get_or r.next a 0
  pub next_count : length r.next ≡ c

-- The row's place among the slots of a buffer.
abbrev pub slot_of : StateLine → ℕ
slot_of r = most_states * (r.bead - 1) + r.state

-- Slots that rise, from m on.
unfoldable pub Ascends : ℕ → List StateLine → Type 0
Ascends m [] = Unit {0}
Ascends m (r ∷ rows) = (m ≤ slot_of r) × Ascends (slot_of r + 1) rows

ascends_more : (m : ℕ) (rows : List StateLine) (r : StateLine) → Ascends m rows → AllOf (λ p. slot_of p < slot_of r) rows → m ≤ slot_of r → Ascends m (rows ++ (r ∷ []))
unfolding Ascends AllOf
ascends_more m [] r a l h = (h, tt)
ascends_more m (p ∷ rows) r a l h = (a.0, ascends_more (slot_of p + 1) rows r a.1 l.1 (let k = l.0 in omega arith))

-- What accepted rows satisfy.
pub record Sound (c : ℕ) (rows : List StateLine) : Type 0 where
  pub orderly : Orderly rows
  pub placed : AllOf (Placed c rows) rows
  pub ascends : Ascends 0 rows

pub sound_none : (c : ℕ) → Sound c []
unfolding AllOf Ascends
sound_none c = record { orderly = orderly_none; placed = tt; ascends = tt }

at_itself : (r : StateLine) → is_at r r.bead r.state ≡ true
at_itself r = rw (eq-eqb r.bead r.bead refl, eq-eqb r.state r.state refl) refl

next_alone : (r : StateLine) (b q a : ℕ) → next_of (r ∷ []) b q a ≡ cond (is_at r b q) (get_or r.next a 0) 0
unfolding next_of
next_alone r b q a = refl

-- what stood before it still stands there
placed_more : (c : ℕ) (rows : List StateLine) (r : StateLine) → Orderly rows → (p : StateLine) → Placed c rows p → Placed c (rows ++ (r ∷ [])) p
placed_more c rows r o p d =
    record {
      bead_low = d.bead_low;
      bead_high = d.bead_high;
      state_high = d.state_high;
      there = row_more rows r p.bead p.state ∙ rw d.there refl;
      rule_is = rule_append rows (r ∷ []) p.bead ∙ rw (ne_eqb (states_of rows p.bead) 0 some) d.rule_is;
      next_is = λ a. next_append rows (r ∷ []) p.bead p.state a ∙ rw d.there (d.next_is a);
      next_count = d.next_count;
    }
  where
    some : states_of rows p.bead ≡ 0 → ⊥
    some z = let h = ltb-true p.state (states_of rows p.bead) (sym (o.taken p.bead p.state) ∙ d.there) in omega arith

before_it : (c : ℕ) (rows : List StateLine) (r : StateLine) → Orderly rows → Added rows r → (p : StateLine) → Placed c rows p → slot_of p < slot_of r
before_it c rows r o a p d =
    let h = ltb-true p.state (states_of rows p.bead) (sym (o.taken p.bead p.state) ∙ d.there) in
    go (ltb (bead_count rows) p.bead) refl (eqb p.bead r.bead) refl
  where
    h : p.state < states_of rows p.bead
    h = ltb-true p.state (states_of rows p.bead) (sym (o.taken p.bead p.state) ∙ d.there)

    go : (t : Bool) → ltb (bead_count rows) p.bead ≡ t → (u : Bool) → eqb p.bead r.bead ≡ u → slot_of p < slot_of r
    go true e u f = absurd (let z = o.above p.bead (ltb-true (bead_count rows) p.bead e) in let k = h in omega arith)
    go false e true f =
        let q = eqb-true p.bead r.bead f in
        let s : states_of rows p.bead ≡ r.state = ap (states_of rows) q ∙ sym a.state_is in
        let k = h in
        omega arith
    go false e false f =
        let n = eqb-false p.bead r.bead f in
        let l = ltb-false (bead_count rows) p.bead e in
        let t = a.bead_top in
        let s = d.state_high in
        let b = d.bead_low in
        omega arith

pub sound_more : (c : ℕ) (rows : List StateLine) (r : StateLine) → Sound c rows → Added rows r → length r.next ≡ c → Sound c (rows ++ (r ∷ []))
sound_more c rows r s a n =
    record {
      orderly = orderly_more rows r a s.orderly;
      placed = all_more (Placed c (rows ++ (r ∷ []))) rows r (all_map (Placed c rows) (Placed c (rows ++ (r ∷ []))) (placed_more c rows r s.orderly) rows s.placed) own;
      ascends =
          ascends_more 0 rows r s.ascends (all_map (Placed c rows) (λ p. slot_of p < slot_of r) (before_it c rows r s.orderly a) rows s.placed) (omega arith);
    }
  where
    own : Placed c (rows ++ (r ∷ [])) r
    own = record {
      bead_low = a.bead_low;
      bead_high = a.bead_high;
      state_high = a.state_high;
      there = row_more rows r r.bead r.state ∙ rw (at_itself r) (or-true (has_row rows r.bead r.state));
      rule_is = rule_own rows r a;
      next_is = λ x. next_append rows (r ∷ []) r.bead r.state x ∙ rw (fresh rows r a s.orderly) (next_alone r r.bead r.state x ∙ rw (at_itself r) refl);
      next_count = n;
    }
