-- What the answers of the header and of a row say of a line's judgement.
-- Assumes nothing.
use mathlib.Core.Path.{◌≡◌, refl, sym, ap, ◌∙◌}
use mathlib.Core.Bool.{Bool, true, false, not, cond, ◌||◌}
use mathlib.Core.List.{List, [], ◌∷◌, ◌++◌, map}
use Prim.Native.Nat.{ℕ, ◌+◌, ◌≤◌, ◌<◌}
use native.Mathlib.Omega.{arith}
use borrow.Author.Tests.{eqb-true, ne_eqb}
use lib.Dec.{eqb, leb, leb→le}
use lib.ListN.{length, get_or, take, drop, length-drop, length-map, get_or-map}
use lib.Seq.{get_or-drop}
use Rattle.layout.specs.Layout.{most_labels}
use Rattle.numbers.specs.Numbers.{value_of, decimal}
use Rattle.std.specs.Prelude.{Option, Some, None, Result, Ok, Err}
use Rattle.text.specs.Walk.{refused, passed, answer_says}
use Rattle.sets.proofs.Truth.{true_yes, and_l, and_r}
use Rattle.pattern_header.specs.Header.{columns, same_fields, is_header, label_count}
use Rattle.pattern_store.specs.Format.{Known, judge_header, judge_row}
use Rattle.pattern_line.specs.Answers.{refusal_number}
use Rattle.pattern_line.specs.declared.refusals.Refusal.{Refusal}
use Rattle.pattern_line.specs.declared.refusals.Refusal.TheVariants.{Malformed, Header, Order, Rule as Misruled}
use Rattle.pattern_order.specs.StateLine.{StateLine, follows_last, disordered, misruled}
use Rattle.pattern_order.specs.inner.Answers.{row_for, order_judged, rows_at}
use Rattle.pattern_order.proofs.OrderLaws.{order_values}
use Rattle.pattern_row.specs.Fields.{row_of, malformed}
use Rattle.pattern_row.specs.inner.Answers.{values_of, row_judged, next_sets}
use Rattle.pattern_walk.specs.Reading.{Begun}
use Rattle.pattern_header.specs.inner.Answers.{header_judged}
use Rattle.pattern_store.specs.inner.Store.{Storable, stored, row_stored}
use Rattle.pattern_order.specs.declared.LineValues.{LineValues}
use Rattle.lists.proofs.Tables.{length-table, get_or-table}
use Rattle.layout.specs.Layout.{most_labels}
use Rattle.pattern_store.proofs.RowsLaws.{last_rows, follows_low, in_order, last_of, follows_last_lem, turns_last, Orderly, Added, added, Sound, sound_more}
use Rattle.pattern_store.proofs.BufferLaws.{Says}

-- ---- the header

-- How many labels a header names, as what is known after it.
abbrev pub named : ℕ → Known
named labels = record { labels = labels; rows = [] }

pub header_says : (fs : List (List ℕ)) → answer_says refusal_number named (header_judged fs) ≡ judge_header fs
unfolding header_judged
header_says fs = go (is_header fs)
  where
    go : (t : Bool) → answer_says refusal_number named (cond t (Ok (label_count fs)) (Err Header))
        ≡ cond t (passed (named (label_count fs))) (refused 12)
    go true = refl
    go false = refl

pub is_header_few : (fs : List (List ℕ)) → is_header fs ≡ true → label_count fs ≤ most_labels
is_header_few fs e =
    let t = true_yes (is_header fs) e in
    let u = and_r (same_fields (take 4 fs) columns) _ t in
    let v = and_r (leb 1 (length (drop 4 fs))) _ u in
    let w = leb→le (length (drop 4 fs)) most_labels (and_l (leb (length (drop 4 fs)) most_labels) _ v) in
    let d = length-drop 4 fs in
    omega arith

choose_labels : (c x : ℕ) (t : Bool) → ◌≡◌ {A = Result ℕ Refusal} (Ok c) (cond t (Ok x) (Err Header)) → (t ≡ true) × (c ≡ x)
choose_labels c x true q = (refl, cc)
choose_labels c x false q = let z : ◌≡◌ {A = ℕ} 0 1 = cc in absurd (omega arith)

-- A header that passes names at most 16 labels.
pub header_few : (fs : List (List ℕ)) (count : ℕ) → Ok count ≡ header_judged fs → count ≤ most_labels
unfolding header_judged
header_few fs count e =
    let p = choose_labels count (label_count fs) (is_header fs) e in
    let f = is_header_few fs p.0 in
    let z = p.1 in
    omega arith

-- ---- a row

abbrev judged_of : ℕ → List StateLine → List (List ℕ) → Result LineValues Refusal
judged_of labels before fs =
    cond (malformed labels fs) (Err Malformed)
    (cond (disordered before (row_of fs)) (Err Order) (cond (misruled before (row_of fs)) (Err Misruled) (Ok (values_of fs))))

judged_is : (labels : ℕ) (before : List StateLine) (fs : List (List ℕ)) → row_judged labels before fs ≡ judged_of labels before fs
unfolding row_judged order_judged
judged_is labels before fs =
    let s = order_values before (row_for (values_of fs)) (row_of fs) refl refl refl refl in
    rw (s.0, s.1) refl

module _ (k : Known) (o : Orderly k.rows) (fs : List (List ℕ)) where
  -- the row before stands for all of them
  last_same : judged_of k.labels (last_rows (last_of k.rows)) fs ≡ judged_of k.labels k.rows fs
  last_same = rw (sym (follows_last_lem k.rows (row_of fs) o.some), sym (turns_last k.rows (row_of fs) o.some)) refl

  pub last_decides : row_judged k.labels (last_rows (last_of k.rows)) fs ≡ row_judged k.labels k.rows fs
  last_decides = judged_is k.labels (last_rows (last_of k.rows)) fs ∙ last_same ∙ sym (judged_is k.labels k.rows fs)

choose_row : (r : Refusal) (x : LineValues) (more : Known) (t u v : Bool)
    → Err r ≡ cond t (Err Malformed) (cond u (Err Order) (cond v (Err Misruled) (Ok x)))
    → cond t (refused 11) (cond u (refused 13) (cond v (refused 14) (passed more))) ≡ refused (refusal_number r)
choose_row r x more true u v q = let z : r ≡ Malformed = cc in ap (λ (s : Refusal). refused (refusal_number s)) (sym z)
choose_row r x more false true v q = let z : r ≡ Order = cc in ap (λ (s : Refusal). refused (refusal_number s)) (sym z)
choose_row r x more false false true q = let z : r ≡ Misruled = cc in ap (λ (s : Refusal). refused (refusal_number s)) (sym z)
choose_row r x more false false false q = let z : ◌≡◌ {A = ℕ} 0 1 = cc in absurd (omega arith)

pub row_refused : (k : Known) (fs : List (List ℕ)) (r : Refusal) → Err r ≡ row_judged k.labels k.rows fs → judge_row k fs ≡ refused (refusal_number r)
row_refused k fs r e =
    choose_row r (values_of fs) (record { labels = k.labels; rows = k.rows ++ (row_of fs ∷ []) }) (malformed k.labels fs) (disordered k.rows (row_of fs))
    (misruled k.rows (row_of fs)) (e ∙ judged_is k.labels k.rows fs)

-- A row that passes.
pub record RowPasses (k : Known) (fs : List (List ℕ)) : Type 0 where
  pub judged : judge_row k fs ≡ passed (record { labels = k.labels; rows = k.rows ++ (row_of fs ∷ []) })
  pub formed : malformed k.labels fs ≡ false
  pub ordered : disordered k.rows (row_of fs) ≡ false
  pub ruled : misruled k.rows (row_of fs) ≡ false

choose_values : (x y : LineValues) (t u v : Bool)
    → ◌≡◌ {A = Result LineValues Refusal} (Ok x) (cond t (Err Malformed) (cond u (Err Order) (cond v (Err Misruled) (Ok y))))
    → (t ≡ false) × (u ≡ false) × (v ≡ false) × (x ≡ y)
choose_values x y true u v q = let z : ◌≡◌ {A = ℕ} 0 1 = cc in absurd (omega arith)
choose_values x y false true v q = let z : ◌≡◌ {A = ℕ} 0 1 = cc in absurd (omega arith)
choose_values x y false false true q = let z : ◌≡◌ {A = ℕ} 0 1 = cc in absurd (omega arith)
choose_values x y false false false q = (refl, refl, refl, cc)

module _ (k : Known) (fs : List (List ℕ)) (v : LineValues) (e : Ok v ≡ row_judged k.labels k.rows fs) where
  chosen : (malformed k.labels fs ≡ false) × (disordered k.rows (row_of fs) ≡ false) × (misruled k.rows (row_of fs) ≡ false) × (v ≡ values_of fs)
  chosen =
      choose_values v (values_of fs) (malformed k.labels fs) (disordered k.rows (row_of fs)) (misruled k.rows (row_of fs)) (e ∙ judged_is k.labels k.rows fs)

  pub row_passes : RowPasses k fs
  row_passes = record { judged = rw (chosen.0, chosen.1, chosen.2) refl; formed = chosen.0; ordered = chosen.1; ruled = chosen.2 }

  pub row_says : Says v (row_of fs)
  row_says = record {
    bead = ap (λ (x : LineValues). x.bead) chosen.3;
    rule = ap (λ (x : LineValues). x.rule) chosen.3;
    state = ap (λ (x : LineValues). x.state) chosen.3;
    accepting = ap (λ (x : LineValues). x.accepting) chosen.3;
  }

neither : (t u : Bool) → (not t || u) ≡ false → t ≡ true
neither true u e = refl
neither false u e = sym e

module _ (k : Known) (fs : List (List ℕ)) (p : RowPasses k fs) where
  -- as many next sets as labels
  pub sets_count : length (row_of fs).next ≡ k.labels
  sets_count =
      length-map (drop 4 fs) value_of ∙ length-drop 4 fs
      ∙ (let c = eqb-true (length fs) (4 + k.labels) (neither (eqb (length fs) (4 + k.labels)) _ p.formed) in omega arith)

  pub row_added : Orderly k.rows → Added k.rows (row_of fs)
  row_added o = added k.rows (row_of fs) o p.ordered p.ruled

  pub row_sound : Sound k.labels k.rows → Sound k.labels (k.rows ++ (row_of fs ∷ []))
  row_sound s = sound_more k.labels k.rows (row_of fs) s (row_added s.orderly) sets_count

-- The numbers read beside a row are its next sets, then zeros.
value_empty : value_of [] ≡ 0
unfolding decimal
value_empty = refl

pub sets_size : (fs : List (List ℕ)) → length (next_sets fs) ≡ most_labels
unfolding next_sets
sets_size fs = length-table _ most_labels

pub sets_are : (fs : List (List ℕ)) (a : ℕ) → a < most_labels → get_or (next_sets fs) a 0 ≡ get_or (row_of fs).next a 0
unfolding next_sets
sets_are fs a h =
    get_or-table _ most_labels a h ∙ ap value_of (sym (get_or-drop 4 fs a [])) ∙ sym (get_or-map value_of (drop 4 fs) a [])
    ∙ ap (get_or (map value_of (drop 4 fs)) a) value_empty

-- A line that follows is of a bead that is counted from 1.
follows_begun : (last : Option LineValues) → Begun last → (r : StateLine) → follows_last (rows_at last) r ≡ true → 1 ≤ r.bead
follows_begun None b r h = follows_low (record { bead = 0; rule = 0; state = 0 }) r h
follows_begun (Some v) b r h =
    let low = b.bead v refl in
    let n : last_rows (record { bead = v.bead; rule = v.rule; state = v.state }) ≡ rows_at (Some v) = rw (ne_eqb v.bead 0 (λ z. absurd (omega arith))) refl in
    follows_low (record { bead = v.bead; rule = v.rule; state = v.state }) r (ap (λ (rs : List StateLine). follows_last rs r) n ∙ h)

-- A row that passes keeps the limits of 13.
pub row_storable : (labels : ℕ) (last : Option LineValues) (fs : List (List ℕ)) (v : LineValues) (a : Result LineValues Refusal) → Begun last
    → a ≡ row_judged labels (rows_at last) fs → a ≡ Ok v → Storable v
row_storable labels last fs v a begun said q =
    let e = sym q ∙ said in
    let p = row_passes (record { labels = labels; rows = rows_at last }) fs v e in
    let s = row_says (record { labels = labels; rows = rows_at last }) fs v e in
    let i = in_order (rows_at last) (row_of fs) p.ordered in
    let l = follows_begun last begun (row_of fs) i.follows in
    let b = s.bead in
    let t = s.state in
    let x = i.bead in
    let y = i.state in
    record { bead_low = omega arith; bead_high = omega arith; state_high = omega arith }

pub row_stored_lem : (b : List ℕ) (fs : List (List ℕ)) (next after : List ℕ) (v : LineValues) → next ≡ next_sets fs → after ≡ stored b v next → after ≡ row_stored b (Ok v) fs
row_stored_lem b fs next after v n e = e ∙ ap (stored b v) n

pub ruleset take_kit = (row_storable, row_stored_lem)
