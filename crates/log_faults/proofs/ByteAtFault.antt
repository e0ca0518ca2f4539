-- Every refused log text is at fault where its byte says, for the reason that its row of the table gives.
-- Assumes nothing.
use Prim.Native.Nat.{ℕ, ◌≤◌, ◌<◌}
use mathlib.Core.Path.{◌≡◌, refl, sym, ap, ◌∙◌, subst}
use mathlib.Core.Bool.{Bool, true, false, not, cond, ◌||◌}
use mathlib.Core.List.{List, [], ◌∷◌, ◌++◌}
use native.Mathlib.Omega.{arith}
use native.Mathlib.Decide.{ℕ_discrete}
use borrow.Author.Tests.{lt-ltb, le-ltb, eq-eqb, ne_eqb, eqb-true, eqb-false, leb-true, leb-false}
use lib.Dec.{eqb, leb, ltb}
use lib.ListN.{length, drop, length-map}
use Rattle.text.specs.Split.{first_part}
use Rattle.text.specs.Lines.{TextLine, lines_of, whole}
use Rattle.text.specs.Walk.{Judged, refused, passed, Outcome, accepted, faulty, walk, bad_size}
use Rattle.text.specs.FirstBad.{AllPass, done, next, FirstBad, here, later}
use Rattle.text.proofs.FirstBadLaws.{walk_accepts, walk_refuses}
use Rattle.lists.proofs.Parts.{rest_part}
use Rattle.line_places.specs.Place.{place_at, place_where, unprintable_place, broken_at, ranked_at, lines_bytes, line_at}
use Rattle.line_places.proofs.FaultLaws.{field_at_fault, no_field, byte_at_fault as bad_byte}
use Rattle.line_places.proofs.LineLaws.{place_printable, bytes_step}
use Rattle.layout.specs.Layout.{most_log_text, most_line}
use Rattle.log_line.specs.Header.{Columns, columns_of, is_header}
use Rattle.log_line.specs.Step.{Step, step_at, malformed, misnumbered, mislinked, mislabelled, link_count, over_limit}
use Rattle.log_line.specs.Format.{Known, judge_line, conclude, log_text}
use Rattle.log_places.specs.Place.{wrong_name, header_at, wrong_field, malformed_at, over_limit_at, limit_at}
use Rattle.log_places.proofs.Causes.{Ordered, header_ordered, names_missing, fields_counted, over_limit_somewhere}
use Rattle.log_byte.specs.Byte.{columns_named, steps_before, place_in, log_byte}
use Rattle.log_byte.proofs.ByteLaws.{byte_early}
use Rattle.log_faults.specs.Placed.{bytes_at, fields_at, said_at, Below, Formed, InColumn, Placed, size, long, unended, unprintable, field_count, field, name, names_lacking, vertex, preds, labels, limit, no_step}
use Rattle.log_faults.proofs.KnownLaws.{header_passed, known_first, BadAt, bad_below, steps_counted}

clash : {A : Type 0} (b : Bool) → b ≡ true → b ≡ false → A
clash true p q = let z : ◌≡◌ {A = ℕ} 0 1 = cc in absurd (omega arith)
clash false p q = let z : ◌≡◌ {A = ℕ} 0 1 = cc in absurd (omega arith)

-- ---- the byte of a line, whole or not

module _ (text : List ℕ) (number n : ℕ) (late : 21 ≤ number) where
  byte_broken : whole most_line (line_at text n) ≡ false → log_byte text number n ≡ broken_at most_line (line_at text n)
  unfolding log_byte ranked_at
  byte_broken w = rw (le-ltb number 21 late, w) refl

  byte_whole : whole most_line (line_at text n) ≡ true → log_byte text number n ≡ place_in text number n (line_at text n).bytes
  unfolding log_byte ranked_at
  byte_whole w = rw (le-ltb number 21 late, w) refl

module _ (count : ℕ) (text : List ℕ) where
  -- The byte is b.
  at : (number n b : ℕ) → log_byte text number n ≡ b → Placed count text number n b → Placed count text number n (log_byte text number n)
  at number n b e p = subst (λ (k : ℕ). Placed count text number n k) (sym e) p

  -- ---- a line that is not whole

  broken_line : (n : ℕ) → whole most_line (line_at text n) ≡ false → Placed count text 21 n (log_byte text 21 n)
  broken_line n w = go (leb (length (bytes_at text n)) most_line) refl (line_at text n).newline refl
    where
      byte : log_byte text 21 n ≡ broken_at most_line (line_at text n)
      byte = byte_broken text 21 n (omega arith) w

      go : (s : Bool) → leb (length (bytes_at text n)) most_line ≡ s → (t : Bool) → (line_at text n).newline ≡ t → Placed count text 21 n (log_byte text 21 n)
      go false p t q = at 21 n 0 (byte ∙ rw p refl) (long (leb-false (length (bytes_at text n)) most_line p))
      go true p false q = at 21 n 0 (byte ∙ rw (p, q) refl) (unended (leb-true (length (bytes_at text n)) most_line p) q)
      go true p true q =
          at 21 n (unprintable_place (bytes_at text n)) (byte ∙ rw (p, q) refl)
          (unprintable (leb-true (length (bytes_at text n)) most_line p) q
          (bad_byte (bytes_at text n) (λ z. clash (whole most_line (line_at text n)) (rw (p, q, place_printable (bytes_at text n) z) refl) w)))

  -- ---- the header

  header_byte : whole most_line (line_at text 1) ≡ true → log_byte text 22 1 ≡ header_at (fields_at text 1)
  unfolding place_in
  header_byte w = byte_whole text 22 1 (omega arith) w

  header_line : whole most_line (line_at text 1) ≡ true → is_header (fields_at text 1) ≡ false → Placed count text 22 1 (log_byte text 22 1)
  header_line w h = go (ℕ_discrete (header_at (fields_at text 1)) 0)
    where
      go : Dec (header_at (fields_at text 1) ≡ 0) → Placed count text 22 1 (log_byte text 22 1)
      go (yes z) = at 22 1 0 (header_byte w ∙ z) (names_lacking w (no_field (wrong_name (fields_at text 1)) (fields_at text 1) z) (names_missing (fields_at text 1) h z))
      go (no z) = at 22 1 (header_at (fields_at text 1)) (header_byte w) (name w h (field_at_fault (wrong_name (fields_at text 1)) (fields_at text 1) z))

  abbrev started : Known
  started = record { columns = columns_of (fields_at text 1); steps = [] }

  bad_header : (s : Known) (k : ℕ) → judge_line count s 1 (line_at text 1) ≡ refused k → Placed count text k 1 (log_byte text k 1)
  bad_header s k e = go (whole most_line (line_at text 1)) refl (is_header (fields_at text 1)) refl e
    where
      go : (a : Bool) → whole most_line (line_at text 1) ≡ a → (b : Bool) → is_header (fields_at text 1) ≡ b
          → cond a (cond b (passed started) (refused 22)) (refused 21) ≡ refused k
          → Placed count text k 1 (log_byte text k 1)
      go false p b q f = let z : ◌≡◌ {A = ℕ} 21 k = cc in subst (λ (j : ℕ). Placed count text j 1 (log_byte text j 1)) z (broken_line 1 p)
      go true p false q f = let z : ◌≡◌ {A = ℕ} 22 k = cc in subst (λ (j : ℕ). Placed count text j 1 (log_byte text j 1)) z (header_line p q)
      go true p true q f = let z : ◌≡◌ {A = ℕ} 0 1 = cc in absurd (omega arith)

  -- ---- a line below the header

  module _ (n : ℕ) (below : Below text n) where
    order : Ordered (columns_named text)
    unfolding columns_named
    order = header_ordered (fields_at text 1) below.header

    malformed_byte : log_byte text 21 n ≡ malformed_at (columns_named text) (fields_at text n)
    unfolding place_in
    malformed_byte = byte_whole text 21 n (omega arith) below.whole

    vertex_byte : log_byte text 23 n ≡ place_at (fields_at text n) (columns_named text).vertex
    unfolding place_in
    vertex_byte = byte_whole text 23 n (omega arith) below.whole

    preds_byte : log_byte text 24 n ≡ place_at (fields_at text n) (columns_named text).preds
    unfolding place_in
    preds_byte = byte_whole text 24 n (omega arith) below.whole

    labels_byte : log_byte text 25 n ≡ place_at (fields_at text n) (columns_named text).labels
    unfolding place_in
    labels_byte = byte_whole text 25 n (omega arith) below.whole

    limit_byte : log_byte text 26 n ≡ limit_at (link_count (steps_before text n)) (columns_named text) (step_at n) (fields_at text n)
    unfolding place_in
    limit_byte =
        let h = below.later in
        byte_whole text 26 n (omega arith) below.whole ∙ rw (ne_eqb n 1 (λ z. absurd (omega arith))) refl

    malformed_line : malformed (columns_named text) (fields_at text n) ≡ true → Placed count text 21 n (log_byte text 21 n)
    malformed_line m = go (ℕ_discrete (length (fields_at text n)) 4)
      where
        go : Dec (length (fields_at text n) ≡ 4) → Placed count text 21 n (log_byte text 21 n)
        go (no d) = at 21 n 0 (malformed_byte ∙ rw (ne_eqb (length (fields_at text n)) 4 d) refl) (field_count below d)
        go (yes d) =
            at 21 n (place_where (wrong_field (columns_named text) (fields_at text n)) (fields_at text n)) (malformed_byte ∙ rw (eq-eqb (length (fields_at text n)) 4 d) refl)
            (field below d (field_at_fault (wrong_field (columns_named text) (fields_at text n)) (fields_at text n)
            (λ z. fields_counted (columns_named text) order (fields_at text n) m (rw (eq-eqb (length (fields_at text n)) 4 d) z) d)))

    module _ (right : malformed (columns_named text) (fields_at text n) ≡ false) where
      counted : length (fields_at text n) ≡ 4
      counted = eqb-true (length (fields_at text n)) 4 (first (eqb (length (fields_at text n)) 4) _ right)
        where
          first : (a b : Bool) → (not a || b) ≡ false → a ≡ true
          first true b e = refl
          first false b e = sym e

      well : Formed text n
      well = record { below = below; formed = right }

      in_column : (i : ℕ) → i < 4 → InColumn (fields_at text n) i (place_at (fields_at text n) i)
      unfolding place_at
      in_column i h = let k = counted in record { inside = omega arith; is = simp (lt-ltb i (length (fields_at text n)) (omega arith)) }

      vertex_line : misnumbered (columns_named text) n (fields_at text n) ≡ true → Placed count text 23 n (log_byte text 23 n)
      vertex_line m = at 23 n (place_at (fields_at text n) (columns_named text).vertex) vertex_byte (vertex well m (in_column (columns_named text).vertex order.vertex))

      preds_line : mislinked (step_at n) (said_at text n).preds ≡ true → Placed count text 24 n (log_byte text 24 n)
      preds_line m = at 24 n (place_at (fields_at text n) (columns_named text).preds) preds_byte (preds well m (in_column (columns_named text).preds order.preds))

      labels_line : mislabelled count (step_at n) (said_at text n).labels ≡ true → Placed count text 25 n (log_byte text 25 n)
      labels_line m = at 25 n (place_at (fields_at text n) (columns_named text).labels) labels_byte (labels well m (in_column (columns_named text).labels order.labels))

      limit_line : over_limit (steps_before text n) (step_at n) (said_at text n).preds ≡ true → Placed count text 26 n (log_byte text 26 n)
      limit_line m =
          at 26 n (limit_at (link_count (steps_before text n)) (columns_named text) (step_at n) (fields_at text n)) limit_byte
          (limit well m (field_at_fault (over_limit_at (link_count (steps_before text n)) (columns_named text) (step_at n) (fields_at text n)) (fields_at text n)
          (over_limit_somewhere (steps_before text n) (columns_named text) (step_at n) (fields_at text n) order counted m)))

  known_is : (s : Known) (c : Columns) (xs : List Step) → s.columns ≡ c → s.steps ≡ xs → s ≡ record { columns = c; steps = xs }
  known_is s c xs e f = rw (sym e, sym f) refl

  bad_step : (k n : ℕ) → BadAt text count k n → Placed count text k n (log_byte text k n)
  bad_step k n b =
      let e = subst (λ (s : Known). judge_line count s n (line_at text n) ≡ refused k) (known_is b.known (columns_named text) (steps_before text n) b.at.columns b.at.steps) b.judged in
      let h = b.later in
      go (record { columns = columns_named text; steps = steps_before text n ++ (said_at text n ∷ []) }) (whole most_line (line_at text n)) refl
      (malformed (columns_named text) (fields_at text n)) refl
      (misnumbered (columns_named text) n (fields_at text n)) refl
      (mislinked (step_at n) (said_at text n).preds) refl
      (mislabelled count (step_at n) (said_at text n).labels) refl
      (over_limit (steps_before text n) (step_at n) (said_at text n).preds) refl
      (sym (rw (ne_eqb n 1 (λ z. absurd (omega arith))) refl) ∙ e)
    where
      moved : (j : ℕ) → ◌≡◌ {A = Judged Known} (refused j) (refused k) → Placed count text j n (log_byte text j n) → Placed count text k n (log_byte text k n)
      moved j e p = let z : ◌≡◌ {A = ℕ} j k = cc in subst (λ (i : ℕ). Placed count text i n (log_byte text i n)) z p

      under : whole most_line (line_at text n) ≡ true → Below text n
      under w = record { later = b.later; header = b.at.header; whole = w }

      go : (t : Known) → (w : Bool) → whole most_line (line_at text n) ≡ w
          → (m : Bool) → malformed (columns_named text) (fields_at text n) ≡ m
          → (u : Bool) → misnumbered (columns_named text) n (fields_at text n) ≡ u
          → (p : Bool) → mislinked (step_at n) (said_at text n).preds ≡ p
          → (l : Bool) → mislabelled count (step_at n) (said_at text n).labels ≡ l
          → (o : Bool) → over_limit (steps_before text n) (step_at n) (said_at text n).preds ≡ o
          → cond w (cond m (refused 21) (cond u (refused 23) (cond p (refused 24) (cond l (refused 25) (cond o (refused 26) (passed t)))))) (refused 21) ≡ refused k
          → Placed count text k n (log_byte text k n)
      go t false w m em u eu p ep l el o eo e = moved 21 e (broken_line n w)
      go t true w true em u eu p ep l el o eo e = moved 21 e (malformed_line n (under w) em)
      go t true w false em true eu p ep l el o eo e = moved 23 e (vertex_line n (under w) em eu)
      go t true w false em false eu true ep l el o eo e = moved 24 e (preds_line n (under w) em ep)
      go t true w false em false eu false ep true el o eo e = moved 25 e (labels_line n (under w) em el)
      go t true w false em false eu false ep false el true eo e = moved 26 e (limit_line n (under w) em eo)
      go t true w false em false eu false ep false el false eo e = let z : ◌≡◌ {A = ℕ} 0 1 = cc in absurd (omega arith)

  -- ---- the text

  some_line : 0 < length text → 0 < length (lines_of text)
  unfolding lines_bytes
  some_line h =
      let n = length (first_part 10 text) in
      let s = ap length (bytes_step text 0 n (sym (ap (λ (m : List ℕ). length (first_part 10 m)) (rest_part text 0))) h) in
      let d = length-map (lines_of text) (λ l. l.bytes) in
      omega arith

  first_line : {l : TextLine} {ls : List TextLine} → lines_of text ≡ l ∷ ls → l ≡ line_at text 1
  first_line e = sym (rw e refl)

  none_byte : whole most_line (line_at text 1) ≡ true → log_byte text 26 1 ≡ 0
  unfolding place_in
  none_byte w = byte_whole text 26 1 (omega arith) w

  abbrev start : Known
  start = record { columns = columns_of []; steps = [] }

  bad_text : (k n : ℕ) (ls : List TextLine) → lines_of text ≡ ls → FirstBad (judge_line count) start 1 ls k n → Placed count text k n (log_byte text k n)
  bad_text k n ls d (here {l = l} e) = bad_header start k (subst (λ (x : TextLine). judge_line count start 1 x ≡ refused k) (first_line d) e)
  bad_text k n ls d (later {t = t} {l = l} {ls = rest} e bad) =
      bad_step k n (bad_below text count bad (omega arith) (sym (ap (drop 1) d)) (known_first text count start t (subst (λ (x : TextLine). judge_line count start 1 x ≡ passed t) (first_line d) e)))

  -- All lines pass and there is no step: the header is the only line.
  none_text : (s : Known) (ls : List TextLine) → lines_of text ≡ ls → 0 < length text → AllPass (judge_line count) start 1 ls s → length s.steps ≡ 0
      → Placed count text 26 1 (log_byte text 26 1)
  none_text s ls d h done z = let k = some_line h in let e = ap length d in absurd (omega arith)
  none_text s ls d h (next {t = t} {l = l} {ls = rest} e pass) z =
      let p = header_passed count start t (line_at text 1) (subst (λ (x : TextLine). judge_line count start 1 x ≡ passed t) (first_line d) e) in
      let a = steps_counted count pass (omega arith) in
      let m = ap length d in
      at 26 1 0 (none_byte p.whole) (no_step p.whole p.header (omega arith))

  placed : (r : Outcome Known) → walk (judge_line count) start 1 (lines_of text) ≡ r → 0 < length text → (number line : ℕ) → conclude r ≡ faulty number line
      → Placed count text number line (log_byte text number line)
  placed (faulty k n) e h number line f =
      let a : ◌≡◌ {A = ℕ} k number = cc in
      let b : ◌≡◌ {A = ℕ} n line = cc in
      rw (← a, ← b) (bad_text k n (lines_of text) refl ((walk_refuses (judge_line count) start 1 k n (lines_of text)).0 e))
  placed (accepted s) e h number line f = go (eqb (length s.steps) 0) refl f
    where
      go : (t : Bool) → eqb (length s.steps) 0 ≡ t → cond t (faulty 26 1) (accepted s) ≡ faulty number line → Placed count text number line (log_byte text number line)
      go true p g =
          let a : ◌≡◌ {A = ℕ} 26 number = cc in
          let b : ◌≡◌ {A = ℕ} 1 line = cc in
          rw (← a, ← b) (none_text s (lines_of text) refl h ((walk_accepts (judge_line count) start s 1 (lines_of text)).0 e) (eqb-true (length s.steps) 0 p))
      go false p g = let z : ◌≡◌ {A = ℕ} 0 1 = cc in absurd (omega arith)

-- Whatever the text is refused with, its byte stands where the table says.
pub byte_at_fault : (count : ℕ) (text : List ℕ) (number line : ℕ) → log_text count text ≡ faulty number line → Placed count text number line (log_byte text number line)
byte_at_fault count text number line e = go (bad_size most_log_text text) refl e
  where
    some : (t : Bool) → eqb (length text) 0 ≡ t → (t || ltb most_log_text (length text)) ≡ false → 0 < length text
    some true p q = let z : ◌≡◌ {A = ℕ} 0 1 = cc in absurd (omega arith)
    some false p q = let n = eqb-false (length text) 0 p in omega arith

    go : (t : Bool) → bad_size most_log_text text ≡ t
        → conclude (cond t (faulty 20 0) (walk (judge_line count) (record { columns = columns_of []; steps = [] }) 1 (lines_of text))) ≡ faulty number line
        → Placed count text number line (log_byte text number line)
    go true p f =
        let a : ◌≡◌ {A = ℕ} 20 number = cc in
        let b : ◌≡◌ {A = ℕ} 0 line = cc in
        rw (← a, ← b) (at count text 20 0 0 (sym (byte_early text 20 0 (omega arith))) (size p))
    go false p f =
        placed count text (walk (judge_line count) (record { columns = columns_of []; steps = [] }) 1 (lines_of text)) refl (some (eqb (length text) 0) refl p) number line f
