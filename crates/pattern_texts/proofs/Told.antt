-- What rows in order say of each bead. That their numbers come as `RowsLaws` has it follows from their tests; what is added here is that no bead
-- is left out, each has a rule, and rules take turns.
use Prim.Native.Nat.{ℕ, ◌+◌, ◌≤◌, ◌<◌}
use mathlib.Core.Path.{◌≡◌, refl, sym, ap, ◌∙◌}
use mathlib.Core.Logic.{◌⊎◌, inl, inr}
use mathlib.Core.Bool.{Bool, true, false, ◌||◌}
use mathlib.Core.List.Memᴰ
use mathlib.Core.List.{List, [], ◌∷◌, ◌++◌, Memᴰ}
use native.Mathlib.Decide.{ℕ_discrete}
use native.Mathlib.Omega.{arith}
use borrow.Author.Tests.{eqb-true, ltb-true, lt-ltb}
use lib.Dec.{T, eqb}
use Rattle.sets.proofs.Truth.{both_true}
use Rattle.layout.specs.Layout.{most_states}
use Rattle.rules.specs.Rules.{is_rule}
use Rattle.pattern_order.specs.StateLine.{StateLine}
use Rattle.pattern_store.specs.Next.{states_of}
use Rattle.pattern_store.specs.Buffer.{bead_count, rule_of_bead, is_at}
use Rattle.pattern_store.proofs.RowsLaws.{has_row, Last, last_of, last_more, Added, added, states_own, states_other, rule_own, AllOf, Placed, Sound, sound_none, sound_more}
use Rattle.pattern_texts.proofs.Rows.{rule_found}
use Rattle.pattern_texts.proofs.Ordered.{Follows, same_bead, next_bead, Fits, Ordered, start, more, bead_steps}
use Rattle.pattern_texts.proofs.RowTests.{row_in_order}

-- What a row says agrees with what the rows say of its bead.
pub record Each (c : ℕ) (rs : List StateLine) (r : StateLine) : Type 0 where
  pub positive : 0 < r.bead
  pub there : r.state < states_of rs r.bead
  pub rule : r.rule ≡ rule_of_bead rs r.bead
  pub fits : Fits c r

-- What rows in order say, p being the last.
pub record Told (c : ℕ) (rs : List StateLine) (p : StateLine) : Type 0 where
  pub count : bead_count rs ≡ p.bead
  pub above : (β : ℕ) → p.bead < β → states_of rs β ≡ 0
  pub some : (β : ℕ) → 0 < β → β ≤ p.bead → 0 < states_of rs β
  pub most : (β : ℕ) → states_of rs β ≤ most_states
  pub rule_known : (β : ℕ) → 0 < β → β ≤ p.bead → T (is_rule (rule_of_bead rs β))
  pub turns : (β : ℕ) → 0 < β → β < p.bead → rule_of_bead rs β ≡ rule_of_bead rs (β + 1) → ⊥
  pub each : (r : StateLine) → Memᴰ r rs → Each c rs r
  pub filled : (β q : ℕ) → q < states_of rs β → (r : StateLine) × Memᴰ r rs × (r.bead ≡ β) × (r.state ≡ q)

-- ---- as the reader's rows

sound : {c : ℕ} {rs : List StateLine} {p : StateLine} → Ordered c rs p → Sound c rs
sound {c} start = sound_none c
sound {c} (more {rs = rs} r o f l) =
    let s = sound o in
    let w = row_in_order o r f l in
    sound_more c rs r s (added rs r s.orderly w.0 w.1) l.labelled

last_is : {c : ℕ} {rs : List StateLine} {p : StateLine} → Ordered c rs p → last_of rs ≡ record { bead = p.bead; rule = p.rule; state = p.state }
unfolding last_of
last_is start = refl
last_is (more {rs = rs} r o f l) = last_more rs r

each_of : (P : StateLine → Type 0) (rs : List StateLine) → AllOf P rs → (r : StateLine) → Memᴰ r rs → P r
unfolding AllOf
each_of P [] a r m = absurd (Memᴰ.not-nil m)
each_of P (s ∷ rs) a r m = go (Memᴰ.cases_cons m) (each_of P rs a.1 r)
  where
    go : (r ≡ s) ⊎ Memᴰ r rs → (Memᴰ r rs → P r) → P r
    go (inl e) rest = rw e a.0
    go (inr k) rest = rest k

row_among : (rs : List StateLine) (β q : ℕ) → has_row rs β q ≡ true → (r : StateLine) × Memᴰ r rs × (r.bead ≡ β) × (r.state ≡ q)
unfolding has_row
row_among [] β q e = let z : ◌≡◌ {A = ℕ} 0 1 = cc in absurd (omega arith)
row_among (r ∷ rs) β q e = go (is_at r β q) refl e (row_among rs β q)
  where
    go : (t : Bool) → is_at r β q ≡ t → (t || has_row rs β q) ≡ true → (has_row rs β q ≡ true → (s : StateLine) × Memᴰ s rs × (s.bead ≡ β) × (s.state ≡ q))
        → (s : StateLine) × Memᴰ s (r ∷ rs) × (s.bead ≡ β) × (s.state ≡ q)
    go true d e rest =
        let w = both_true (eqb r.bead β) (eqb r.state q) d in
        (r, Memᴰ.head refl, eqb-true r.bead β w.0, eqb-true r.state q w.1)
    go false d e rest = let s = rest e in (s.0, Memᴰ.tail s.1, s.2, s.3)

each_fits : {c : ℕ} {rs : List StateLine} {p : StateLine} → Ordered c rs p → (r : StateLine) → Memᴰ r rs → Fits c r
each_fits start r m = absurd (Memᴰ.not-nil m)
each_fits {c} (more {rs = rs} s o f l) r m = go (Memᴰ.append_cases rs m) (each_fits o r)
  where
    go : Memᴰ r rs ⊎ Memᴰ r (s ∷ []) → (Memᴰ r rs → Fits c r) → Fits c r
    go (inl k) rest = rest k
    go (inr k) rest = rw (Memᴰ.eq_of_singleton k) l

-- ---- the beads up to the last

record Beads (rs : List StateLine) (p : StateLine) : Type 0 where
  some : (β : ℕ) → 0 < β → β ≤ p.bead → 0 < states_of rs β
  rule_known : (β : ℕ) → 0 < β → β ≤ p.bead → T (is_rule (rule_of_bead rs β))
  turns : (β : ℕ) → 0 < β → β < p.bead → rule_of_bead rs β ≡ rule_of_bead rs (β + 1) → ⊥

module _ {c : ℕ} {rs : List StateLine} {p : StateLine} (b : Beads rs p) (top : 0 < p.bead → rule_of_bead rs p.bead ≡ p.rule) (r : StateLine) (a : Added rs r)
    (f : Follows p r) (l : Fits c r) where
  abbrev now : List StateLine
  now = rs ++ (r ∷ [])

  rule_kept : (β : ℕ) → 0 < β → β ≤ p.bead → rule_of_bead now β ≡ rule_of_bead rs β
  rule_kept β h k = rule_found rs (r ∷ []) β (b.some β h k)

  some_now : (β : ℕ) → 0 < β → β ≤ r.bead → 0 < states_of now β
  some_now β h k = go (ℕ_discrete r.bead β)
    where
      go : Dec (r.bead ≡ β) → 0 < states_of now β
      go (yes e) = let z = states_own rs r β e in omega arith
      go (no n) = let s = bead_steps f in let z = states_other rs r β n in let y = b.some β h (omega arith) in omega arith

  rule_known_now : (β : ℕ) → 0 < β → β ≤ r.bead → T (is_rule (rule_of_bead now β))
  rule_known_now β h k = go (ℕ_discrete r.bead β)
    where
      go : Dec (r.bead ≡ β) → T (is_rule (rule_of_bead now β))
      go (yes e) = rw (← e, rule_own rs r a) l.rule_known
      go (no n) = let s = bead_steps f in rw (rule_kept β h (omega arith)) (b.rule_known β h (omega arith))

  turns_now : (β : ℕ) → 0 < β → β < r.bead → rule_of_bead now β ≡ rule_of_bead now (β + 1) → ⊥
  turns_now β h k e = go f (ℕ_discrete p.bead β)
    where
      old : rule_of_bead now β ≡ rule_of_bead rs β
      old = let s = bead_steps f in rule_kept β h (omega arith)

      within : β < p.bead → ⊥
      within m = b.turns β h m (sym old ∙ e ∙ rule_kept (β + 1) (omega arith) (omega arith))

      go : Follows p r → Dec (p.bead ≡ β) → ⊥
      go (same_bead g d q u) w = within (omega arith)
      go (next_bead d q u) (no n) = within (omega arith)
      go (next_bead d q u) (yes w) =
          let z : β + 1 ≡ r.bead = omega arith in
          u (sym (ap (rule_of_bead now) z ∙ rule_own rs r a) ∙ sym e ∙ old ∙ ap (rule_of_bead rs) (sym w) ∙ top (omega arith))

  beads_more : Beads now r
  beads_more = record { some = some_now; rule_known = rule_known_now; turns = turns_now }

rule_top : {c : ℕ} {rs : List StateLine} {p : StateLine} → Ordered c rs p → 0 < p.bead → rule_of_bead rs p.bead ≡ p.rule
rule_top {rs = rs} o h =
    let i = last_is o in
    let z = ap (λ (x : Last). x.bead) i in
    ap (rule_of_bead rs) (sym z) ∙ (sound o).orderly.last_rule (omega arith) ∙ ap (λ (x : Last). x.rule) i

beads : {c : ℕ} {rs : List StateLine} {p : StateLine} → Ordered c rs p → Beads rs p
beads start = record {
  some = λ β h k. absurd (omega arith);
  rule_known = λ β h k. absurd (omega arith);
  turns = λ β h k. absurd (omega arith);
}
beads (more {rs = rs} r o f l) =
    let w = row_in_order o r f l in
    beads_more (beads o) (rule_top o) r (added rs r (sound o).orderly w.0 w.1) f l

pub told : {c : ℕ} {rs : List StateLine} {p : StateLine} → Ordered c rs p → Told c rs p
told {c} {rs} {p} o =
    let s = sound o in
    let b = beads o in
    record {
      count = count;
      above = λ β h. s.orderly.above β (let z = count in omega arith);
      some = b.some;
      most = s.orderly.few;
      rule_known = b.rule_known;
      turns = b.turns;
      each = each;
      filled = λ β q h. row_among rs β q (s.orderly.taken β q ∙ lt-ltb q (states_of rs β) h);
    }
  where
    count : bead_count rs ≡ p.bead
    count = (sound o).orderly.beads ∙ ap (λ (x : Last). x.bead) (last_is o)

    each : (r : StateLine) → Memᴰ r rs → Each c rs r
    each r m =
        let d = each_of (Placed c rs) rs (sound o).placed r m in
        record {
          positive = d.bead_low;
          there = ltb-true r.state (states_of rs r.bead) (sym ((sound o).orderly.taken r.bead r.state) ∙ d.there);
          rule = sym d.rule_is;
          fits = each_fits o r m;
        }
