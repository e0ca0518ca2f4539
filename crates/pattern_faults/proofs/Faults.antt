-- `byte_at_fault`: where a pattern text is refused, the byte stands where the table says, and for the reason that it gives.
-- Assumes nothing.
use Prim.Native.Nat.{ℕ, ◌+◌, ◌<◌}
use mathlib.Core.Path.{◌≡◌, refl, sym, ap, ◌∙◌, subst}
use mathlib.Core.Bool.{Bool, true, false, not, cond, ◌&&◌}
use mathlib.Core.List.{List}
use native.Mathlib.Omega.{arith}
use native.Mathlib.Decide.{ℕ_discrete}
use borrow.Author.Tests.{lt-ltb, leb-true, leb-false, eq-eqb, ne_eqb, eqb-true, eqb-false, not-false}
use lib.Dec.{eqb, leb, ltb}
use lib.ListN.{length}
use Rattle.rules.specs.Rules.{needs_one_next}
use Rattle.lists.proofs.LeftmostLaws.{clash}
use Rattle.sets.proofs.Truth.{true_yes}
use Rattle.text.specs.Lines.{lines_of, printable, whole}
use Rattle.text.specs.Walk.{Outcome, accepted, faulty, walk, bad_size}
use Rattle.text.proofs.FirstBadLaws.{walk_accepts, walk_refuses}
use Rattle.line_places.specs.Place.{place_at, place_where, unprintable_place, broken_at, ranked_at, line_at}
use Rattle.line_places.proofs.LineLaws.{place_printable}
use Rattle.line_places.proofs.FaultLaws.{field_at_fault, no_field, byte_at_fault as first_byte}
use Rattle.layout.specs.Layout.{most_pattern_text, most_line}
use Rattle.pattern_header.specs.Header.{is_header}
use Rattle.pattern_order.specs.StateLine.{disordered, misruled}
use Rattle.pattern_row.specs.Fields.{row_of, malformed}
use Rattle.pattern_store.specs.Next.{states_of, all_single}
use Rattle.pattern_store.specs.Format.{Known, judge_line, judge_next, pattern_format, conclude, pattern_text}
use Rattle.pattern_places.specs.Place.{wrong_name, header_at, no_number, malformed_at, bead_wrong, state_wrong, disordered_at, stray_set, straying_at, ambiguous_set, ambiguous_at}
use Rattle.pattern_byte.specs.Byte.{fields_at, labels_named, rows_below, row_before, place_in, pattern_byte}
use Rattle.pattern_faults.specs.Placed.{WholeLine, Formed, FieldAt, Placed, size, long, unended, unprintable, fields, field, name, names, nothing, bead, state, final, rule, stray, ambiguous}
use Rattle.pattern_faults.proofs.Causes.{and_left, or_left, names_missing, count_differs, final_over, order_same, rule_same, stray_some, ambiguous_some}
use Rattle.pattern_faults.proofs.Located.{Before, Bad, Fails, broken, named, shaped, ordered, ruled, first_bad, NextFails, strayed, doubled, first_next, all_header, alone}

-- ---- the byte, by number

module _ (text : List ℕ) (n : ℕ) where
  byte_broken : whole most_line (line_at text n) ≡ false → pattern_byte text 11 n ≡ broken_at most_line (line_at text n)
  unfolding pattern_byte ranked_at
  byte_broken e = rw e refl

  module _ (e : WholeLine text n) where
    byte_shape : pattern_byte text 11 n ≡ malformed_at (labels_named text) (fields_at text n)
    unfolding pattern_byte ranked_at place_in
    byte_shape = rw e refl

    byte_header : pattern_byte text 12 n ≡ header_at (fields_at text n)
    unfolding pattern_byte ranked_at place_in
    byte_header = rw e refl

    byte_nothing : n ≡ 1 → pattern_byte text 13 n ≡ 0
    unfolding pattern_byte ranked_at place_in
    byte_nothing d = rw (e, eq-eqb n 1 d) refl

    byte_order : (n ≡ 1 → ⊥) → pattern_byte text 13 n ≡ disordered_at (row_before text n) (fields_at text n)
    unfolding pattern_byte ranked_at place_in
    byte_order d = rw (e, ne_eqb n 1 d) refl

    byte_rule : pattern_byte text 14 n ≡ place_at (fields_at text n) 1
    unfolding pattern_byte ranked_at place_in
    byte_rule = rw e refl

    byte_stray : pattern_byte text 15 n ≡ straying_at (states_of (rows_below text) (row_of (fields_at text n)).bead) (fields_at text n)
    unfolding pattern_byte ranked_at place_in
    byte_stray = rw e refl

    byte_ambiguous : pattern_byte text 16 n ≡ ambiguous_at (fields_at text n)
    unfolding pattern_byte ranked_at place_in
    byte_ambiguous = rw e refl

-- ---- each kind of fault

module _ (text : List ℕ) (n : ℕ) where
  placed_broken : whole most_line (line_at text n) ≡ false → Placed text 11 n (broken_at most_line (line_at text n))
  placed_broken e =
      go (leb (length (line_at text n).bytes) most_line) refl (line_at text n).newline refl (printable (line_at text n).bytes) refl e
    where
      go : (a : Bool) → leb (length (line_at text n).bytes) most_line ≡ a → (b : Bool) → (line_at text n).newline ≡ b → (c : Bool) → printable (line_at text n).bytes ≡ c
          → (a && (b && c)) ≡ false → Placed text 11 n (cond (a && b) (unprintable_place (line_at text n).bytes) 0)
      go false x b y c z q = long (leb-false (length (line_at text n).bytes) most_line x)
      go true x false y c z q = unended (leb-true (length (line_at text n).bytes) most_line x) y
      go true x true y true z q = clash true refl q
      go true x true y false z q =
          unprintable (leb-true (length (line_at text n).bytes) most_line x) y
          (first_byte (line_at text n).bytes (λ k. clash (printable (line_at text n).bytes) (place_printable (line_at text n).bytes k) z))

  module _ (w : WholeLine text n) (below : 1 < n) where
    placed_shape : malformed (labels_named text) (fields_at text n) ≡ true → Placed text 11 n (malformed_at (labels_named text) (fields_at text n))
    placed_shape m = go (eqb (length (fields_at text n)) (4 + labels_named text)) refl
      where
        go : (t : Bool) → eqb (length (fields_at text n)) (4 + labels_named text) ≡ t
            → Placed text 11 n (cond (eqb (length (fields_at text n)) (4 + labels_named text)) (place_where (no_number (fields_at text n)) (fields_at text n)) 0)
        go true p =
            let c = eqb-true (length (fields_at text n)) (4 + labels_named text) p in
            rw p (field below w c (field_at_fault (no_number (fields_at text n)) (fields_at text n) (λ z. count_differs (labels_named text) (fields_at text n) m (rw p z) c)))
        go false p = rw p (fields below w (eqb-false (length (fields_at text n)) (4 + labels_named text) p))

    module _ (m : malformed (labels_named text) (fields_at text n) ≡ false) where
      formed : Formed text n
      formed = record { below = below; line = w; fields = m }

      counted : length (fields_at text n) ≡ 4 + labels_named text
      counted =
          let t = not-false (eqb (length (fields_at text n)) (4 + labels_named text)) (or_left (not (eqb (length (fields_at text n)) (4 + labels_named text))) _ m) in
          eqb-true (length (fields_at text n)) (4 + labels_named text) t

      field_at : (i : ℕ) → i < 4 → FieldAt text n i (place_at (fields_at text n) i)
      unfolding place_at
      field_at i h =
          let c = counted in
          let k : i < length (fields_at text n) = omega arith in
          record { inside = k; is = rw (lt-ltb i (length (fields_at text n)) k) refl }

      module _ (s : Known) (before : Before text n s) where
        placed_order : disordered s.rows (row_of (fields_at text n)) ≡ true → Placed text 13 n (disordered_at (row_before text n) (fields_at text n))
        unfolding disordered_at
        placed_order d = go (bead_wrong (row_before text n) (row_of (fields_at text n))) refl (state_wrong (row_before text n) (row_of (fields_at text n))) refl
          where
            go : (a : Bool) → bead_wrong (row_before text n) (row_of (fields_at text n)) ≡ a → (b : Bool) → state_wrong (row_before text n) (row_of (fields_at text n)) ≡ b
                → Placed text 13 n (cond a (place_at (fields_at text n) 0) (cond b (place_at (fields_at text n) 2) (place_at (fields_at text n) 3)))
            go true x b y = bead formed x (field_at 0 (omega arith))
            go false x true y = state formed x y (field_at 2 (omega arith))
            go false x false y = final formed x y (final_over before.rows (row_of (fields_at text n)) d x y) (field_at 3 (omega arith))

        placed_rule : disordered s.rows (row_of (fields_at text n)) ≡ false → misruled s.rows (row_of (fields_at text n)) ≡ true
            → Placed text 14 n (place_at (fields_at text n) 1)
        placed_rule d u =
            rule formed (sym (order_same before.rows (row_of (fields_at text n))) ∙ d) (sym (rule_same before.rows (row_of (fields_at text n))) ∙ u)
            (field_at 1 (omega arith))

placed_header : (text : List ℕ) → WholeLine text 1 → is_header (fields_at text 1) ≡ false → Placed text 12 1 (header_at (fields_at text 1))
placed_header text w e = go (ℕ_discrete (header_at (fields_at text 1)) 0)
  where
    go : Dec (header_at (fields_at text 1) ≡ 0) → Placed text 12 1 (header_at (fields_at text 1))
    go (yes z) = subst (Placed text 12 1) (sym z) (names w (no_field (wrong_name (fields_at text 1)) (fields_at text 1) z) (names_missing (fields_at text 1) e z))
    go (no z) = name w (field_at_fault (wrong_name (fields_at text 1)) (fields_at text 1) z)

-- ---- a line refused by 11 to 14, and a row refused by 15 or 16

module _ (text : List ℕ) (k n : ℕ) where
  placed_line : Bad text k n → Placed text k n (pattern_byte text k n)
  placed_line b = go b.why
    where
      low : (n ≡ 1 → ⊥) → 1 < n
      low d = let l = b.low in omega arith

      shape : (n ≡ 1 → ⊥) → b.known.labels ≡ labels_named text
      shape d = b.before.labels (let l = low d in omega arith)

      go : {j : ℕ} → Fails b.known n (line_at text n) j → Placed text j n (pattern_byte text j n)
      go (broken w) = subst (Placed text 11 n) (sym (byte_broken text n w)) (placed_broken text n w)
      go (named w d e) =
          subst (λ (m : ℕ). Placed text 12 m (pattern_byte text 12 m)) (sym d)
          (let v = subst (WholeLine text) d w in
          subst (Placed text 12 1) (sym (byte_header text 1 v)) (placed_header text v (subst (λ (m : ℕ). is_header (fields_at text m) ≡ false) d e)))
      go (shaped w d m) =
          subst (Placed text 11 n) (sym (byte_shape text n w))
          (placed_shape text n w (low d) (ap (λ (c : ℕ). malformed c (fields_at text n)) (sym (shape d)) ∙ m))
      go (ordered w d m o) =
          subst (Placed text 13 n) (sym (byte_order text n w d))
          (placed_order text n w (low d) (ap (λ (c : ℕ). malformed c (fields_at text n)) (sym (shape d)) ∙ m) b.known b.before o)
      go (ruled w d m o u) =
          subst (Placed text 14 n) (sym (byte_rule text n w))
          (placed_rule text n w (low d) (ap (λ (c : ℕ). malformed c (fields_at text n)) (sym (shape d)) ∙ m) b.known b.before o u)

placed_next : (text : List ℕ) (k n : ℕ) → 1 < n → WholeLine text n → NextFails (rows_below text) (row_of (fields_at text n)) k → Placed text k n (pattern_byte text k n)
placed_next text k n below w (strayed e) =
    subst (Placed text 15 n) (sym (byte_stray text n w))
    (stray below w (field_at_fault (stray_set (states_of (rows_below text) (row_of (fields_at text n)).bead) (fields_at text n)) (fields_at text n) (stray_some (rows_below text) (fields_at text n) e)))
placed_next text k n below w (doubled x y) =
    subst (Placed text 16 n) (sym (byte_ambiguous text n w))
    (ambiguous below w x (and_left (needs_one_next (row_of (fields_at text n)).rule) (not (all_single (row_of (fields_at text n)).next)) y)
    (field_at_fault (ambiguous_set (fields_at text n)) (fields_at text n) (ambiguous_some (fields_at text n) y)))

-- ---- the text

module _ (text : List ℕ) (number line : ℕ) where
  abbrev Answered : Type 0
  Answered = Placed text number line (pattern_byte text number line)

  number_in : Outcome Known → ℕ
  number_in (accepted k) = 0
  number_in (faulty a b) = a

  line_in : Outcome Known → ℕ
  line_in (accepted k) = 0
  line_in (faulty a b) = b

  said : (a b : ℕ) → ◌≡◌ {A = Outcome Known} (faulty a b) (faulty number line) → Placed text a b (pattern_byte text a b) → Answered
  unfolding number_in line_in
  said a b e p =
      subst (λ (j : ℕ). Placed text j line (pattern_byte text j line)) (ap number_in e)
      (subst (λ (m : ℕ). Placed text a m (pattern_byte text a m)) (ap line_in e) p)

  abbrev lines : Outcome Known
  lines = walk judge_line pattern_format.start 1 (lines_of text)

  abbrev nexts : Known → Outcome Known
  nexts k = walk (judge_next k.rows) k 2 k.rows

  -- A byte that is not 0 is the place of what is at fault, and no fault ranks higher; where it is 0, there is no such place.
  pub byte_at_fault : pattern_text text ≡ faulty number line → Placed text number line (pattern_byte text number line)
  unfolding pattern_byte
  byte_at_fault e = sized (bad_size most_pattern_text text) refl e
    where
      next_sets : (k : Known) → lines ≡ accepted k → (o : Outcome Known) → nexts k ≡ o → o ≡ faulty number line → Answered
      next_sets k w o x q =
          let f = (walk_refuses (judge_next k.rows) k 2 number line k.rows).0 (x ∙ q) in
          let b = first_next text k pattern_format.start refl ((walk_accepts judge_line pattern_format.start k 1 (lines_of text)).0 w) number line f in
          placed_next text number line b.below b.line b.why

      rows : 0 < length text → (k : Known) → lines ≡ accepted k → (t : Bool) → eqb (length k.rows) 0 ≡ t → cond t (faulty 13 1) (nexts k) ≡ faulty number line → Answered
      rows h k w true z q =
          let p = (walk_accepts judge_line pattern_format.start k 1 (lines_of text)).0 w in
          let a = all_header text k pattern_format.start refl p h in
          let c = alone text k pattern_format.start refl p h (eqb-true (length k.rows) 0 z) in
          said 13 1 q (subst (Placed text 13 1) (sym (byte_nothing text 1 a.0 refl)) (nothing a.0 a.1 c))
      rows h k w false z q = next_sets k w (nexts k) refl q

      walked : 0 < length text → (o : Outcome Known) → lines ≡ o → conclude o ≡ faulty number line → Answered
      walked h (faulty a b) w q =
          said a b q (placed_line text a b (first_bad text pattern_format.start a b refl ((walk_refuses judge_line pattern_format.start 1 a b (lines_of text)).0 w)))
      walked h (accepted k) w q = rows h k w (eqb (length k.rows) 0) refl q

      some_bytes : bad_size most_pattern_text text ≡ false → 0 < length text
      some_bytes x = let d = eqb-false (length text) 0 (or_left (eqb (length text) 0) (ltb most_pattern_text (length text)) x) in omega arith

      sized : (t : Bool) → bad_size most_pattern_text text ≡ t → conclude (cond t (faulty 10 0) lines) ≡ faulty number line → Answered
      sized true x q = said 10 0 q (size (true_yes (bad_size most_pattern_text text) x))
      sized false x q = walked (some_bytes x) lines refl q
