-- What an accepted text says of its rows.
use Prim.Native.Nat.{ℕ, ◌+◌, ◌≤◌, ◌<◌}
use mathlib.Core.Path.{◌≡◌, refl, sym, ap, ◌∙◌, subst}
use mathlib.Core.Logic.{◌⊎◌, inl, inr}
use mathlib.Core.Bool.{Bool, true, false, cond, ◌&&◌}
use mathlib.Core.List.Memᴰ
use mathlib.Core.List.{List, [], ◌∷◌, ◌++◌, Memᴰ}
use native.Mathlib.Omega.{arith}
use borrow.Author.Tests.{ne_eqb, eqb-false, leb-true}
use lib.Dec.{eqb, leb}
use lib.ListN.{length, take, drop, length-drop}
use Rattle.text.proofs.WalkLaws.{accepted_same, walk_nil, walk_step}
use Rattle.sets.proofs.Truth.{both_true}
use Rattle.text.specs.Split.{split}
use Rattle.text.specs.Lines.{TextLine, lines_of, whole}
use Rattle.text.specs.Walk.{Judged, refused, passed, Outcome, accepted, faulty, walk, bad_size, read_text}
use Rattle.layout.specs.Layout.{most_line, most_labels, most_pattern_text}
use Rattle.pattern_header.specs.Header.{columns, same_fields, are_names, distinct, is_header, label_count}
use Rattle.pattern_order.specs.StateLine.{StateLine, disordered, misruled}
use Rattle.pattern_row.specs.Fields.{row_of, malformed}
use Rattle.pattern_store.specs.Next.{strays, ambiguous}
use Rattle.pattern_store.specs.Format.{Known, judge_row, judge_line, pattern_format, judge_next, conclude, pattern_text}
use Rattle.pattern_texts.proofs.Ordered.{origin, Ordered, start, more, bead_positive}
use Rattle.pattern_texts.proofs.RowTests.{row_out, labelled_out}

-- ---- judgements that pass, outcomes that are accepted

pass_if : {S : Type 0} (b : Bool) (x : Judged S) (n : ℕ) (t : S) → cond b x (refused n) ≡ passed t → (b ≡ true) × (x ≡ passed t)
pass_if true x n t e = (refl, e)
pass_if false x n t e = let z : ◌≡◌ {A = ℕ} 0 1 = cc in absurd (omega arith)

pass_unless : {S : Type 0} (b : Bool) (x : Judged S) (n : ℕ) (t : S) → cond b (refused n) x ≡ passed t → (b ≡ false) × (x ≡ passed t)
pass_unless true x n t e = let z : ◌≡◌ {A = ℕ} 0 1 = cc in absurd (omega arith)
pass_unless false x n t e = (refl, e)

accept_unless : {S : Type 0} (b : Bool) (x : Outcome S) (n m : ℕ) (t : S) → cond b (faulty n m) x ≡ accepted t → (b ≡ false) × (x ≡ accepted t)
accept_unless true x n m t e = let z : ◌≡◌ {A = ℕ} 0 1 = cc in absurd (omega arith)
accept_unless false x n m t e = (refl, e)

passed_same : {S : Type 0} (s t : S) → passed s ≡ passed t → s ≡ t
passed_same s t e = cc

-- ---- the lines below the header

-- What is known after a row more.
abbrev pub known_more : Known → StateLine → Known
known_more k r = record { labels = k.labels; rows = k.rows ++ (r ∷ []) }

row_passes : (k : Known) (fs : List (List ℕ)) (t : Known) → judge_row k fs ≡ passed t
    → (malformed k.labels fs ≡ false) × (disordered k.rows (row_of fs) ≡ false) × (misruled k.rows (row_of fs) ≡ false)
    × (known_more k (row_of fs) ≡ t)
row_passes k fs t e =
    let m = pass_unless (malformed k.labels fs) _ 11 t e in
    let d = pass_unless (disordered k.rows (row_of fs)) _ 13 t m.1 in
    let u = pass_unless (misruled k.rows (row_of fs)) _ 14 t d.1 in
    (m.0, d.0, u.0, passed_same (known_more k (row_of fs)) t u.1)

row_line : (k : Known) (n : ℕ) → 2 ≤ n → (l : TextLine) (t : Known) → judge_line k n l ≡ passed t → judge_row k (split 32 l.bytes) ≡ passed t
row_line k n h l t e =
    let w = pass_if (whole most_line l) _ 11 t e in
    rw (ne_eqb n 1 (λ z. omega arith)) at w.1

lines_out : (ls : List TextLine) (k : Known) (p : StateLine) (n : ℕ) → 2 ≤ n → Ordered k.labels k.rows p → (t : Known)
    → walk judge_line k n ls ≡ accepted t
    → (t.labels ≡ k.labels) × (q : StateLine) × Ordered t.labels t.rows q
lines_out [] k p n h o t e =
    let s : k ≡ t = accepted_same k t (sym (walk_nil judge_line k n) ∙ e) in
    (ap (λ (x : Known). x.labels) (sym s), p, subst (λ (x : Known). Ordered x.labels x.rows p) s o)
lines_out (l ∷ ls) k p n h o t e =
    let w = walk_step judge_line k n l ls t e in
    let fs : List (List ℕ) = split 32 l.bytes in
    let r = row_passes k fs w.0 (row_line k n h l w.0 w.1) in
    let f = row_out o (row_of fs) (labelled_out k.labels fs r.0) r.1 r.2 in
    let more_rows : Ordered k.labels (k.rows ++ (row_of fs ∷ [])) (row_of fs) = more (row_of fs) o f.0 f.1 in
    let u = r.3 in
    let rest = lines_out ls (known_more k (row_of fs)) (row_of fs) (n + 1) (omega arith) more_rows t (rw u w.2) in
    rest

-- ---- the header

header_line : (k : Known) (l : TextLine) (t : Known) → judge_line k 1 l ≡ passed t
    → (is_header (split 32 l.bytes) ≡ true) × (record { labels = label_count (split 32 l.bytes); rows = [] } ≡ t)
header_line k l t e =
    let w = pass_if (whole most_line l) _ 11 t e in
    let v = pass_if (is_header (split 32 l.bytes)) (passed (record { labels = label_count (split 32 l.bytes); rows = [] })) 12 t w.1 in
    (v.0, passed_same _ t v.1)

header_labels : (fs : List (List ℕ)) → is_header fs ≡ true → (1 ≤ label_count fs) × (label_count fs ≤ most_labels)
header_labels fs e =
    let a = both_true (same_fields (take 4 fs) columns) _ e in
    let b = both_true (leb 1 (length (drop 4 fs))) _ a.1 in
    let c = both_true (leb (length (drop 4 fs)) most_labels) (are_names (drop 4 fs) && distinct (drop 4 fs)) b.1 in
    let d = length-drop 4 fs in
    let low = leb-true 1 (length (drop 4 fs)) b.0 in
    let high = leb-true (length (drop 4 fs)) most_labels c.0 in
    (omega arith, omega arith)

-- ---- 15 and 16, after all lines

next_out : (all rs : List StateLine) (k : Known) (n : ℕ) (t : Known) → walk (judge_next all) k n rs ≡ accepted t
    → (k ≡ t) × ((r : StateLine) → Memᴰ r rs → (strays all r ≡ false) × (ambiguous r ≡ false))
next_out all [] k n t e = (accepted_same k t (sym (walk_nil (judge_next all) k n) ∙ e), λ r m. absurd (Memᴰ.not-nil m))
next_out all (s ∷ rs) k n t e =
    let w = walk_step (judge_next all) k n s rs t e in
    let a = pass_unless (strays all s) _ 15 w.0 w.1 in
    let b = pass_unless (ambiguous s) (passed k) 16 w.0 a.1 in
    let u : k ≡ w.0 = passed_same k w.0 b.1 in
    let rest = next_out all rs k (n + 1) t (rw u w.2) in
    (rest.0, λ r m. go a.0 b.0 rest.1 r (Memᴰ.cases_cons m))
  where
    go : strays all s ≡ false → ambiguous s ≡ false → ((r : StateLine) → Memᴰ r rs → (strays all r ≡ false) × (ambiguous r ≡ false))
        → (r : StateLine) → (r ≡ s) ⊎ Memᴰ r rs → (strays all r ≡ false) × (ambiguous r ≡ false)
    go a b rest r (inl d) = rw d (a, b)
    go a b rest r (inr m) = rest r m

-- ---- the whole text

-- What is known of an accepted text.
pub record Sound (k : Known) : Type 0 where
  pub some_label : 1 ≤ k.labels
  pub labels_most : k.labels ≤ most_labels
  pub last : StateLine
  pub ordered : Ordered k.labels k.rows last
  pub some_row : 0 < last.bead
  pub next : (r : StateLine) → Memᴰ r k.rows → (strays k.rows r ≡ false) × (ambiguous r ≡ false)

-- Where there is a row, the last row's bead counts from 1.
last_bead : {c : ℕ} {rs : List StateLine} {p : StateLine} → Ordered c rs p → (length rs ≡ 0 → ⊥) → 0 < p.bead
last_bead start n = absurd (n refl)
last_bead (more r o f l) n = bead_positive f

read_out : (text : List ℕ) (k : Known) → (length k.rows ≡ 0 → ⊥) → read_text pattern_format text ≡ accepted k
    → (1 ≤ k.labels) × (k.labels ≤ most_labels) × (q : StateLine) × Ordered k.labels k.rows q
read_out text k n e = go (lines_of text) (accept_unless (bad_size most_pattern_text text) (walk judge_line pattern_format.start 1 (lines_of text)) 10 0 k e).1
  where
    go : (ls : List TextLine) → walk judge_line pattern_format.start 1 ls ≡ accepted k
        → (1 ≤ k.labels) × (k.labels ≤ most_labels) × (q : StateLine) × Ordered k.labels k.rows q
    go [] w =
        let s = accepted_same pattern_format.start k (sym (walk_nil judge_line pattern_format.start 1) ∙ w) in
        absurd (n (ap (λ (x : Known). length x.rows) (sym s)))
    go (l ∷ ls) w =
        let v = walk_step judge_line pattern_format.start 1 l ls k w in
        let h = header_line pattern_format.start l v.0 v.1 in
        let c : ℕ = label_count (split 32 l.bytes) in
        let b = header_labels (split 32 l.bytes) h.0 in
        let rest = lines_out ls (record { labels = c; rows = [] }) origin 2 (omega arith) start k (rw h.1 v.2) in
        let d = rest.0 in
        (omega arith, omega arith, rest.1, rest.2)

pub text_out : (text : List ℕ) (k : Known) → pattern_text text ≡ accepted k → Sound k
text_out text k e = go (read_text pattern_format text) refl e
  where
    go : (x : Outcome Known) → read_text pattern_format text ≡ x → conclude x ≡ accepted k → Sound k
    go (faulty n m) p q = let z : ◌≡◌ {A = ℕ} 0 1 = cc in absurd (omega arith)
    go (accepted s) p q =
        let a = accept_unless (eqb (length s.rows) 0) (walk (judge_next s.rows) s 2 s.rows) 13 1 k q in
        let b = next_out s.rows s.rows s 2 k a.1 in
        let u : s ≡ k = b.0 in
        let some = eqb-false (length s.rows) 0 a.0 in
        let r = read_out text s some p in
        subst Sound u (record {
          some_label = r.0;
          labels_most = r.1;
          last = r.2;
          ordered = r.3;
          some_row = last_bead r.3 some;
          next = b.1;
        })
