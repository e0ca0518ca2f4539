-- What the rows of an accepted text satisfy.
-- Assumes nothing.
use mathlib.Core.Path.{◌≡◌, refl, sym, ap, ◌∙◌}
use mathlib.Core.Bool.{Bool, true, false, cond}
use mathlib.Core.List.{List, [], ◌∷◌, ◌++◌}
use Prim.Native.Nat.{ℕ, ◌+◌, ◌≤◌}
use native.Mathlib.Omega.{arith}
use borrow.Author.Tests.{ne_eqb}
use Rattle.text.proofs.WalkLaws.{walk_nil, walk_cons}
use Rattle.text.specs.Split.{split}
use Rattle.text.specs.Lines.{TextLine, lines_of, whole}
use Rattle.text.specs.Walk.{Judged, refused, passed, accepted, faulty, proceed, walk, bad_size, read_text}
use Rattle.layout.specs.Layout.{most_line, most_pattern_text, most_labels}
use Rattle.pattern_header.specs.Header.{is_header, label_count}
use Rattle.pattern_order.specs.StateLine.{disordered, misruled}
use Rattle.pattern_row.specs.Fields.{row_of, malformed}
use Rattle.pattern_store.specs.Format.{Known, judge_header, judge_row, judge_line, pattern_format}
use Rattle.pattern_store.proofs.RowsLaws.{Sound, sound_none}
use Rattle.pattern_walk.proofs.JudgedLaws.{is_header_few, row_sound}

record Passed (k t : Known) : Type 0 where
  labels : t.labels ≡ k.labels
  sound : Sound t.labels t.rows

passed_row : (k t : Known) (fs : List (List ℕ)) → Sound k.labels k.rows → judge_row k fs ≡ passed t → Passed k t
passed_row k t fs s e = go (malformed k.labels fs) refl (disordered k.rows (row_of fs)) refl (misruled k.rows (row_of fs)) refl e
  where
    go : (a : Bool) → malformed k.labels fs ≡ a → (b : Bool) → disordered k.rows (row_of fs) ≡ b → (c : Bool) → misruled k.rows (row_of fs) ≡ c
        → cond a (refused 11) (cond b (refused 13) (cond c (refused 14) (passed (record { labels = k.labels; rows = k.rows ++ (row_of fs ∷ []) })))) ≡ passed t
        → Passed k t
    go true x b y c z q = let w : ◌≡◌ {A = ℕ} 0 1 = cc in absurd (omega arith)
    go false x true y c z q = let w : ◌≡◌ {A = ℕ} 0 1 = cc in absurd (omega arith)
    go false x false y true z q = let w : ◌≡◌ {A = ℕ} 0 1 = cc in absurd (omega arith)
    go false x false y false z q =
        let w : record { labels = k.labels; rows = k.rows ++ (row_of fs ∷ []) } ≡ t = cc in
        rw (← w) (record { labels = refl; sound = row_sound k fs (record { judged = rw (x, y, z) refl; formed = x; ordered = y; ruled = z }) s })

passed_line : (k t : Known) (n : ℕ) (l : TextLine) → 2 ≤ n → Sound k.labels k.rows → judge_line k n l ≡ passed t → Passed k t
passed_line k t n l h s e = go (whole most_line l) (sym (ap (λ (x : Bool). cond (whole most_line l) (cond x (judge_header (split 32 l.bytes)) (judge_row k (split 32 l.bytes))) (refused 11)) (ne_eqb n 1 (omega arith))) ∙ e)
  where
    go : (x : Bool) → cond x (judge_row k (split 32 l.bytes)) (refused 11) ≡ passed t → Passed k t
    go true q = passed_row k t (split 32 l.bytes) s q
    go false q = let w : ◌≡◌ {A = ℕ} 0 1 = cc in absurd (omega arith)

passed_lines : (ls : List TextLine) (n : ℕ) (k t : Known) → 2 ≤ n → Sound k.labels k.rows → walk judge_line k n ls ≡ accepted t → Passed k t
passed_lines [] n k t h s e =
    let q : accepted k ≡ accepted t = sym (walk_nil judge_line k n) ∙ e in
    let w : k ≡ t = cc in
    rw (← w) (record { labels = refl; sound = s })
passed_lines (l ∷ ls) n k t h s e =
    go (judge_line k n l) refl (λ u p. passed_lines ls (n + 1) u t (omega arith) p.sound) (sym (walk_cons judge_line k n l ls) ∙ e)
  where
    go : (j : Judged Known) → judge_line k n l ≡ j → ((u : Known) → Passed k u → walk judge_line u (n + 1) ls ≡ accepted t → Passed u t)
        → proceed n j (λ u. walk judge_line u (n + 1) ls) ≡ accepted t → Passed k t
    go (refused m) f rest q = let w : ◌≡◌ {A = ℕ} 0 1 = cc in absurd (omega arith)
    go (passed u) f rest q =
        let p = passed_line k u n l h s f in
        let r = rest u p q in
        record { labels = r.labels ∙ p.labels; sound = r.sound }

-- What the rows of an accepted text satisfy, and how many labels there are.
pub record Accepted (k : Known) : Type 0 where
  pub sound : Sound k.labels k.rows
  pub few : k.labels ≤ most_labels

pub lines_accepted : (text : List ℕ) (k : Known) → read_text pattern_format text ≡ accepted k → Accepted k
lines_accepted text k e = size (bad_size most_pattern_text text) e
  where
    first : (ls : List TextLine) → walk judge_line (record { labels = 0; rows = [] }) 1 ls ≡ accepted k → Accepted k
    first [] q =
        let w : accepted (record { labels = 0; rows = [] }) ≡ accepted k = sym (walk_nil judge_line (record { labels = 0; rows = [] }) 1) ∙ q in
        let z : record { labels = 0; rows = [] } ≡ k = cc in
        rw (← z) (record { sound = sound_none 0; few = omega arith })
    first (l ∷ ls) q = line (whole most_line l) (is_header (split 32 l.bytes)) refl (sym (walk_cons judge_line (record { labels = 0; rows = [] }) 1 l ls) ∙ q)
      where
        line : (t u : Bool) → is_header (split 32 l.bytes) ≡ u
            → proceed 1 (cond t (cond u (passed (record { labels = label_count (split 32 l.bytes); rows = [] })) (refused 12)) (refused 11))
            (λ s. walk judge_line s (1 + 1) ls) ≡ accepted k → Accepted k
        line false u h q = let w : ◌≡◌ {A = ℕ} 0 1 = cc in absurd (omega arith)
        line true false h q = let w : ◌≡◌ {A = ℕ} 0 1 = cc in absurd (omega arith)
        line true true h q =
            let p = passed_lines ls 2 (record { labels = label_count (split 32 l.bytes); rows = [] }) k (omega arith) (sound_none (label_count (split 32 l.bytes))) q in
            let c = p.labels in
            let f = is_header_few (split 32 l.bytes) h in
            record { sound = p.sound; few = omega arith }

    size : (t : Bool) → cond t (faulty 10 0) (walk judge_line (record { labels = 0; rows = [] }) 1 (lines_of text)) ≡ accepted k → Accepted k
    size true q = let w : ◌≡◌ {A = ℕ} 0 1 = cc in absurd (omega arith)
    size false q = first (lines_of text) q
