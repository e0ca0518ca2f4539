-- The first bad line of a pattern text: which line it is, why it is refused, and what is known before it.
-- Assumes nothing.
use Prim.Native.Nat.{ℕ, zero, suc, ◌+◌, ◌-◌, ◌≤◌, ◌<◌}
use mathlib.Core.Path.{◌≡◌, refl, sym, ap, ◌∙◌, subst}
use mathlib.Core.Bool.{Bool, true, false, cond}
use mathlib.Core.List.{List, [], ◌∷◌, ◌++◌, map, append_assoc, append-nil}
use native.Mathlib.Omega.{arith}
use borrow.Author.Tests.{lt-ltb, le-ltb, eqb-true, eqb-false}
use lib.Dec.{eqb, ltb}
use lib.ListN.{length, get_or, drop, length-drop, length-map, get_or-map}
use lib.Seq.{get_or-drop}
use Rattle.text.specs.Split.{split, joined}
use Rattle.text.specs.Lines.{TextLine, last_line, as_lines, lines_of, whole}
use Rattle.text.specs.Walk.{Judged, refused, passed}
use Rattle.text.specs.FirstBad.{AllPass, done, next, FirstBad, here, later}
use Rattle.text.proofs.SplitLaws.{split_some, joined_split}
use Rattle.line_places.specs.Place.{lines_bytes, line_at}
use Rattle.layout.specs.Layout.{most_line}
use Rattle.pattern_header.specs.Header.{is_header, label_count}
use Rattle.pattern_order.specs.StateLine.{StateLine, disordered, misruled}
use Rattle.pattern_row.specs.Fields.{row_of, malformed}
use Rattle.pattern_store.specs.Next.{strays, ambiguous}
use Rattle.pattern_store.specs.Format.{Known, judge_line, judge_next}
use Rattle.pattern_byte.specs.Byte.{fields_at, labels_named, rows_below, row_before}
use Rattle.pattern_faults.specs.Before.{Last, none, last}

-- ---- a line that passes, and one that is refused

abbrev pub spaced : TextLine → List (List ℕ)
spaced l = split 32 l.bytes

-- What is known after the header, and after another line.
abbrev pub headed : TextLine → Known
headed l = record { labels = label_count (spaced l); rows = [] }

abbrev pub rowed : Known → TextLine → Known
rowed s l = record { labels = s.labels; rows = s.rows ++ (row_of (spaced l) ∷ []) }

pub record Passes (s t : Known) (n : ℕ) (l : TextLine) : Type 0 where
  pub line : whole most_line l ≡ true
  pub header : n ≡ 1 → is_header (spaced l) ≡ true
  pub first : n ≡ 1 → t ≡ headed l
  pub later : (n ≡ 1 → ⊥) → t ≡ rowed s l

pub passes : (s t : Known) (n : ℕ) (l : TextLine) → judge_line s n l ≡ passed t → Passes s t n l
passes s t n l e =
    go (whole most_line l) refl (eqb n 1) refl (is_header (spaced l)) refl (malformed s.labels (spaced l)) (disordered s.rows (row_of (spaced l)))
    (misruled s.rows (row_of (spaced l))) e
  where
    go : (a : Bool) → whole most_line l ≡ a → (b : Bool) → eqb n 1 ≡ b → (c : Bool) → is_header (spaced l) ≡ c → (d f g : Bool)
        → cond a (cond b (cond c (passed (headed l)) (refused 12))
        (cond d (refused 11) (cond f (refused 13) (cond g (refused 14) (passed (rowed s l)))))) (refused 11) ≡ passed t
        → Passes s t n l
    go false x b y c z d f g q = let k : ◌≡◌ {A = ℕ} 0 1 = cc in absurd (omega arith)
    go true x true y false z d f g q = let k : ◌≡◌ {A = ℕ} 0 1 = cc in absurd (omega arith)
    go true x true y true z d f g q =
        record { line = x; header = λ h. z; first = λ h. cc; later = λ h. absurd (h (eqb-true n 1 y)) }
    go true x false y c z true f g q = let k : ◌≡◌ {A = ℕ} 0 1 = cc in absurd (omega arith)
    go true x false y c z false true g q = let k : ◌≡◌ {A = ℕ} 0 1 = cc in absurd (omega arith)
    go true x false y c z false false true q = let k : ◌≡◌ {A = ℕ} 0 1 = cc in absurd (omega arith)
    go true x false y c z false false false q =
        record { line = x; header = λ h. absurd (eqb-false n 1 y h); first = λ h. absurd (eqb-false n 1 y h); later = λ h. cc }

-- Why a line is refused, with the refusal's number.
pub data Fails (s : Known) (n : ℕ) (l : TextLine) : ℕ → Type 0 where
  broken : whole most_line l ≡ false → Fails s n l 11
  named : whole most_line l ≡ true → n ≡ 1 → is_header (spaced l) ≡ false → Fails s n l 12
  shaped : whole most_line l ≡ true → (n ≡ 1 → ⊥) → malformed s.labels (spaced l) ≡ true → Fails s n l 11
  ordered : whole most_line l ≡ true → (n ≡ 1 → ⊥) → malformed s.labels (spaced l) ≡ false → disordered s.rows (row_of (spaced l)) ≡ true → Fails s n l 13
  ruled : whole most_line l ≡ true → (n ≡ 1 → ⊥) → malformed s.labels (spaced l) ≡ false → disordered s.rows (row_of (spaced l)) ≡ false
      → misruled s.rows (row_of (spaced l)) ≡ true → Fails s n l 14

number_of : Judged Known → ℕ
number_of (refused k) = k
number_of (passed s) = 0

pub fails : (s : Known) (n k : ℕ) (l : TextLine) → judge_line s n l ≡ refused k → Fails s n l k
unfolding number_of
fails s n k l e =
    go (whole most_line l) refl (eqb n 1) refl (is_header (spaced l)) refl (malformed s.labels (spaced l)) refl (disordered s.rows (row_of (spaced l))) refl
    (misruled s.rows (row_of (spaced l))) refl e
  where
    go : (a : Bool) → whole most_line l ≡ a → (b : Bool) → eqb n 1 ≡ b → (c : Bool) → is_header (spaced l) ≡ c
        → (d : Bool) → malformed s.labels (spaced l) ≡ d → (f : Bool) → disordered s.rows (row_of (spaced l)) ≡ f
        → (g : Bool) → misruled s.rows (row_of (spaced l)) ≡ g
        → cond a (cond b (cond c (passed (headed l)) (refused 12))
        (cond d (refused 11) (cond f (refused 13) (cond g (refused 14) (passed (rowed s l)))))) (refused 11) ≡ refused k
        → Fails s n l k
    go false x b y c z d u f v g w q = subst (Fails s n l) (ap number_of q) (broken x)
    go true x true y true z d u f v g w q = let j : ◌≡◌ {A = ℕ} 0 1 = cc in absurd (omega arith)
    go true x true y false z d u f v g w q = subst (Fails s n l) (ap number_of q) (named x (eqb-true n 1 y) z)
    go true x false y c z true u f v g w q = subst (Fails s n l) (ap number_of q) (shaped x (eqb-false n 1 y) u)
    go true x false y c z false u true v g w q = subst (Fails s n l) (ap number_of q) (ordered x (eqb-false n 1 y) u v)
    go true x false y c z false u false v true w q = subst (Fails s n l) (ap number_of q) (ruled x (eqb-false n 1 y) u v w)
    go true x false y c z false u false v false w q = let j : ◌≡◌ {A = ℕ} 0 1 = cc in absurd (omega arith)

-- ---- an element of a list, from the rest that begins with it

record Begins {X : Type 0} (d : X) (xs : List X) (i : ℕ) (x : X) (ys : List X) : Type 0 where
  is : get_or xs i d ≡ x
  inside : i < length xs
  rest : drop (suc i) xs ≡ ys

begins : {X : Type 0} (d : X) (xs : List X) (i : ℕ) (x : X) (ys : List X) → drop i xs ≡ x ∷ ys → Begins d xs i x ys
begins d [] zero x ys e = let k : ◌≡◌ {A = ℕ} 0 1 = cc in absurd (omega arith)
begins d [] (suc i) x ys e = let k : ◌≡◌ {A = ℕ} 0 1 = cc in absurd (omega arith)
begins d (z ∷ zs) zero x ys e = record { is = cc; inside = omega arith; rest = cc }
begins d (z ∷ zs) (suc i) x ys e =
    let b = begins d zs i x ys e in
    let h = b.inside in
    record { is = b.is; inside = omega arith; rest = b.rest }

-- ---- what is known before a line

module _ (text : List ℕ) where
  pub record Before (n : ℕ) (s : Known) : Type 0 where
    pub labels : 2 ≤ n → s.labels ≡ labels_named text
    pub rows : Last s.rows (row_before text n)

  pub record Bad (k n : ℕ) : Type 0 where
    pub known : Known
    pub low : 1 ≤ n
    pub before : Before n known
    pub why : Fails known n (line_at text n) k

  step : (s t : Known) (n : ℕ) → 1 ≤ n → Before n s → Passes s t n (line_at text n) → Before (n + 1) t
  unfolding labels_named row_before
  step s t n h b p = go (eqb n 1) refl
    where
      kept : (n ≡ 1 → ⊥) → 2 ≤ n → t.labels ≡ labels_named text
      kept d k = ap (λ (u : Known). u.labels) (p.later d) ∙ b.labels k

      more : (n ≡ 1 → ⊥) → Last t.rows (cond (ltb (n + 1) 3) [] (row_of (fields_at text (n + 1 - 1)) ∷ []))
      more d =
          let e : n + 1 - 1 ≡ n = omega arith in
          rw (le-ltb (n + 1) 3 (omega arith), e) (last s.rows (row_of (fields_at text n)) (ap (λ (u : Known). u.rows) (p.later d)))

      go : (c : Bool) → eqb n 1 ≡ c → Before (n + 1) t
      go true q =
          let e = eqb-true n 1 q in
          record {
            labels = λ k. ap (λ (u : Known). u.labels) (p.first e) ∙ ap (λ (m : ℕ). label_count (fields_at text m)) e;
            rows = rw (lt-ltb (n + 1) 3 (omega arith), ap (λ (u : Known). u.rows) (p.first e)) none;
          }
      go false q = let d = eqb-false n 1 q in record { labels = λ k. kept d (omega arith); rows = more d }

  locate : {s : Known} {n k m : ℕ} {ls : List TextLine} → FirstBad judge_line s n ls k m → 1 ≤ n → drop (n - 1) (lines_of text) ≡ ls → Before n s → Bad k m
  locate (here {s = s} {n = n} {k = k} {l = l} {ls = ls} e) h q b =
      let g = begins (record { bytes = []; newline = false }) (lines_of text) (n - 1) l ls q in
      record { known = s; low = h; before = b; why = fails s n k (line_at text n) (ap (judge_line s n) g.is ∙ e) }
  locate (later {s = s} {t = t} {n = n} {l = l} {ls = ls} e rest) h q b =
      let g = begins (record { bytes = []; newline = false }) (lines_of text) (n - 1) l ls q in
      let i : n + 1 - 1 ≡ suc (n - 1) = omega arith in
      locate rest (omega arith) (ap (λ (j : ℕ). drop j (lines_of text)) i ∙ g.rest) (step s t n h b (passes s t n (line_at text n) (ap (judge_line s n) g.is ∙ e)))

  pub first_bad : (s : Known) (k m : ℕ) → s.rows ≡ [] → FirstBad judge_line s 1 (lines_of text) k m → Bad k m
  unfolding row_before
  first_bad s k m e f = locate f (omega arith) refl (record { labels = λ h. absurd (omega arith); rows = rw e none })

-- ---- all lines pass

abbrev pub state_lines_in : List TextLine → List StateLine
state_lines_in ls = map (λ l. row_of (spaced l)) ls

abbrev no_line : TextLine
no_line = record { bytes = []; newline = false }

pass_later : {s u : Known} {n : ℕ} {ls : List TextLine} → AllPass judge_line s n ls u → 2 ≤ n → u.rows ≡ s.rows ++ state_lines_in ls
pass_later (done {s = s}) h = sym (append-nil s.rows)
pass_later (next {s = s} {t = t} {n = n} {l = l} {ls = ls} e rest) h =
    let p = passes s t n l e in
    pass_later rest (omega arith)
    ∙ ap (λ (u : Known). u.rows ++ state_lines_in ls) (p.later (λ z. absurd (omega arith)))
    ∙ append_assoc s.rows (row_of (spaced l) ∷ []) (state_lines_in ls)

pass_first : {s u : Known} {n : ℕ} {ls : List TextLine} → AllPass judge_line s n ls u → n ≡ 1 → s.rows ≡ [] → u.rows ≡ state_lines_in (drop 1 ls)
pass_first done z e = e
pass_first (next {s = s} {t = t} {n = n} {l = l} {ls = ls} e rest) z q =
    let p = passes s t n l e in
    pass_later rest (omega arith) ∙ ap (λ (u : Known). u.rows ++ state_lines_in ls) (p.first z)

pass_whole : {s u : Known} {n : ℕ} {ls : List TextLine} → AllPass judge_line s n ls u → (i : ℕ) → i < length ls → whole most_line (get_or ls i no_line) ≡ true
pass_whole done i h = absurd (omega arith)
pass_whole (next {s = s} {t = t} {n = n} {l = l} e rest) zero h = (passes s t n l e).line
pass_whole (next e rest) (suc i) h = pass_whole rest i (omega arith)

pass_header : {s u : Known} {n : ℕ} {ls : List TextLine} → AllPass judge_line s n ls u → n ≡ 1 → 0 < length ls → is_header (spaced (get_or ls 0 no_line)) ≡ true
pass_header done z h = absurd (omega arith)
pass_header (next {s = s} {t = t} {n = n} {l = l} e rest) z h = (passes s t n l e).header z

each_spaced : (ls : List TextLine) → map (λ bs. row_of (split 32 bs)) (map (λ l. l.bytes) ls) ≡ state_lines_in ls
each_spaced [] = refl
each_spaced (l ∷ ls) = ap (λ (rs : List StateLine). row_of (spaced l) ∷ rs) (each_spaced ls)

below_rows : (ls : List TextLine) → map (λ bs. row_of (split 32 bs)) (drop 1 (map (λ l. l.bytes) ls)) ≡ state_lines_in (drop 1 ls)
below_rows [] = refl
below_rows (l ∷ ls) = each_spaced ls

-- ---- the lines of a text with a byte

lines_some : (text : List ℕ) → 0 < length text → 0 < length (lines_of text)
unfolding as_lines joined
lines_some text h = let r = split_some 10 text in go r.0 r.1 r.2
  where
    last_some : (p : List ℕ) → 0 < length p → 0 < length (last_line p)
    last_some [] k = absurd (omega arith)
    last_some (x ∷ xs) k = omega arith

    go : (p : List ℕ) (ps : List (List ℕ)) → split 10 text ≡ p ∷ ps → 0 < length (as_lines (split 10 text))
    go p [] e =
        let s = ap length (sym (ap (joined 10) e) ∙ joined_split 10 text) in
        rw e (last_some p (omega arith))
    go p (q ∷ ps) e = rw e (omega arith)

-- ---- 15 and 16: the first row refused

pub data NextFails (rows : List StateLine) (r : StateLine) : ℕ → Type 0 where
  strayed : strays rows r ≡ true → NextFails rows r 15
  doubled : strays rows r ≡ false → ambiguous r ≡ true → NextFails rows r 16

next_fails : (rows : List StateLine) (s : Known) (n k : ℕ) (r : StateLine) → judge_next rows s n r ≡ refused k → NextFails rows r k
unfolding number_of
next_fails rows s n k r e = go (strays rows r) refl (ambiguous r) refl e
  where
    go : (a : Bool) → strays rows r ≡ a → (b : Bool) → ambiguous r ≡ b → cond a (refused 15) (cond b (refused 16) (passed s)) ≡ refused k → NextFails rows r k
    go true x b y q = subst (NextFails rows r) (ap number_of q) (strayed x)
    go false x true y q = subst (NextFails rows r) (ap number_of q) (doubled x y)
    go false x false y q = let j : ◌≡◌ {A = ℕ} 0 1 = cc in absurd (omega arith)

record BadRow (rows : List StateLine) (k n : ℕ) : Type 0 where
  low : 2 ≤ n
  inside : n - 2 < length rows
  why : NextFails rows (get_or rows (n - 2) (row_of (spaced no_line))) k

locate_row : (rows : List StateLine) {s : Known} {n k m : ℕ} {ls : List StateLine} → FirstBad (judge_next rows) s n ls k m → 2 ≤ n → drop (n - 2) rows ≡ ls → BadRow rows k m
locate_row rows (here {s = s} {n = n} {k = k} {l = r} {ls = ls} e) h q =
    let g = begins (row_of (spaced no_line)) rows (n - 2) r ls q in
    record { low = h; inside = g.inside; why = next_fails rows s n k (get_or rows (n - 2) (row_of (spaced no_line))) (ap (judge_next rows s n) g.is ∙ e) }
locate_row rows (later {n = n} {l = r} {ls = ls} e rest) h q =
    let g = begins (row_of (spaced no_line)) rows (n - 2) r ls q in
    let i : n + 1 - 2 ≡ suc (n - 2) = omega arith in
    locate_row rows rest (omega arith) (ap (λ (j : ℕ). drop j rows) i ∙ g.rest)

module _ (text : List ℕ) (k : Known) (s : Known) (start : s.rows ≡ []) (pass : AllPass judge_line s 1 (lines_of text) k) where
  listed : k.rows ≡ state_lines_in (drop 1 (lines_of text))
  listed = pass_first pass refl start

  -- The rows known after the last line are those of the lines below the header.
  pub all_rows : k.rows ≡ rows_below text
  unfolding rows_below lines_bytes
  all_rows = listed ∙ sym (below_rows (lines_of text))

  pub all_whole : (n : ℕ) → 1 ≤ n → n ≤ length (lines_of text) → whole most_line (line_at text n) ≡ true
  all_whole n h m = pass_whole pass (n - 1) (omega arith)

  pub all_header : 0 < length text → (whole most_line (line_at text 1) ≡ true) × (is_header (fields_at text 1) ≡ true)
  all_header h = let m = lines_some text h in (all_whole 1 (omega arith) (omega arith), pass_header pass refl m)

  pub alone : 0 < length text → length k.rows ≡ 0 → length (lines_of text) ≡ 1
  alone h z =
      let m = lines_some text h in
      let a = ap length listed ∙ length-map (drop 1 (lines_of text)) (λ l. row_of (spaced l)) in
      let b = length-drop 1 (lines_of text) in
      omega arith

  -- A row that 15 or 16 refuses, as its line says it.
  pub record BadNext (number n : ℕ) : Type 0 where
    pub below : 1 < n
    pub line : whole most_line (line_at text n) ≡ true
    pub why : NextFails (rows_below text) (row_of (fields_at text n)) number

  pub first_next : (number n : ℕ) → FirstBad (judge_next k.rows) k 2 k.rows number n → BadNext number n
  first_next number n f =
      let b = locate_row k.rows f (omega arith) refl in
      let low = b.low in
      let inside = b.inside in
      let a = ap length listed ∙ length-map (drop 1 (lines_of text)) (λ l. row_of (spaced l)) in
      let c = length-drop 1 (lines_of text) in
      record {
        below = omega arith;
        line = all_whole n (omega arith) (omega arith);
        why = subst (λ (rs : List StateLine). NextFails rs (row_of (fields_at text n)) number) all_rows
            (subst (λ (r : StateLine). NextFails k.rows r number) (row_is n b.low) b.why);
      }
    where
      row_is : (n : ℕ) → 2 ≤ n → get_or k.rows (n - 2) (row_of (spaced no_line)) ≡ row_of (fields_at text n)
      row_is n h =
          let i : 1 + (n - 2) ≡ n - 1 = omega arith in
          ap (λ (rs : List StateLine). get_or rs (n - 2) (row_of (spaced no_line))) listed
          ∙ (get_or-map (λ l. row_of (spaced l)) (drop 1 (lines_of text)) (n - 2) no_line
          ∙ ap (λ (l : TextLine). row_of (spaced l)) (get_or-drop 1 (lines_of text) (n - 2) no_line ∙ ap (λ (j : ℕ). get_or (lines_of text) j no_line) i))
