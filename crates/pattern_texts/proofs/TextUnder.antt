-- The rows' lines of a buffer that passes, under any accepted header for as many labels, are an accepted text that says the buffer's rows.
-- Assumes nothing.
use Prim.Native.Nat.{ℕ, zero, suc, ◌+◌, ◌*◌, ◌^◌, ◌≤◌, ◌<◌}
use mathlib.Core.Path.{◌≡◌, refl, sym, ap, ◌∙◌, subst}
use mathlib.Core.Bool.{true, false, cond}
use mathlib.Core.List.Memᴰ
use mathlib.Core.List.{List, [], ◌∷◌, ◌++◌, map, map-append, Memᴰ}
use native.Mathlib.Omega.{arith}
use borrow.Author.Tests.{ne_eqb, le-leb, le-ltb, leb-true}
use lib.Dec.{T, leb}
use lib.ListN.{length, get_or, length-append}
use lib.Pow.{pow_mono}
use lib.Seq.{append_snoc}
use Rattle.text.proofs.WalkLaws.{walk_nil, walk_cons, walk_step, accepted_same}
use Rattle.sets.proofs.Truth.{both_true}
use Rattle.lists.specs.Places.{at}
use Rattle.sets.specs.Sets.{single}
use Rattle.text.specs.Split.{joined, line_from}
use Rattle.text.specs.Lines.{TextLine, lines_of, printable}
use Rattle.text.specs.Walk.{Judged, refused, passed, accepted, walk, read_text}
use Rattle.layout.specs.Layout.{most_pattern_text, most_line, most_states, states_at, next_at}
use Rattle.pattern_order.specs.StateLine.{StateLine, disordered, misruled}
use Rattle.pattern_store.specs.Next.{states_of, all_within, strays, ambiguous}
use Rattle.pattern_row.specs.Fields.{row_of, malformed}
use Rattle.pattern_store.specs.Format.{Known, judge_row, judge_line, pattern_format, judge_next, conclude, pattern_text}
use Rattle.lists.specs.Tables.{table}
use Rattle.pattern_buffer.specs.Meaning.{labels_in, beads_in}
use Rattle.pattern_texts.specs.Spelled.{row_in, rows_of_bead, rows_of_beads, state_lines_of, fields_of, row_most, row_lines, text_under, text_most, Heads}
use Rattle.pattern_buffer.proofs.Places.{Passes, bead_there, next_there}
use Rattle.pattern_texts.proofs.Ordered.{Ordered, start, more}
use Rattle.pattern_texts.proofs.RowTests.{row_in_order}
use Rattle.pattern_texts.proofs.NextSets.{within_in, single_in, unambiguous}
use Rattle.pattern_texts.proofs.Accepted.{known_more}
use Rattle.lists.proofs.Tables.{length-table, get_or-table}
use Rattle.pattern_texts.proofs.FromBuffer.{rows_out, states_again, row_there, known, rows_told, rows_ordered}
use Rattle.text.proofs.Spelled.{split_parts, length_line, printable_joined, no_lines, next_line, lines_from}
use Rattle.numbers.proofs.SpelledNumbers.{under_in}
use Rattle.pattern_texts.proofs.Spelling.{Readable, row_lacks, row_printable, row_again, row_well, length-row}

-- ---- the lines of rows

abbrev row_line : StateLine → TextLine
row_line r = record { bytes = joined 32 (fields_of r); newline = true }

rows_lines : (rs : List StateLine) → lines_of (row_lines rs) ≡ map row_line rs
unfolding row_lines
rows_lines [] = no_lines
rows_lines (r ∷ rs) =
    lines_from (fields_of r) (row_lines rs) (row_printable r) ∙ ap (λ (ls : List TextLine). row_line r ∷ ls) (rows_lines rs)

rows_length : (rs : List StateLine) → ((r : StateLine) → Memᴰ r rs → Readable r) → length (row_lines rs) ≤ row_most * length rs
unfolding row_lines
rows_length [] f = omega arith
rows_length (r ∷ rs) f =
    let h = rows_length rs (λ s m. f s (Memᴰ.tail m)) in
    let g = length-row r (f r (Memᴰ.head refl)) in
    let a = length-append (line_from (fields_of r)) (row_lines rs) in
    let c = length_line (fields_of r) in
    omega arith

-- ---- each line passes

judge_fields : (k : Known) (fs : List (List ℕ)) (r : StateLine) → row_of fs ≡ r → malformed k.labels fs ≡ false → disordered k.rows r ≡ false
    → misruled k.rows r ≡ false → judge_row k fs ≡ passed (known_more k r)
judge_fields k fs r e m d u =
    rw m (subst (λ (x : StateLine). after x ≡ passed (known_more k r)) (sym e) (rw (d, u)))
  where
    after : StateLine → Judged Known
    after x = cond (disordered k.rows x) (refused 13) (cond (misruled k.rows x) (refused 14) (passed (known_more k x)))

judge_line_lem : (k : Known) (n : ℕ) → 2 ≤ n → (r : StateLine) → Readable r → length r.next ≡ k.labels → disordered k.rows r ≡ false
    → misruled k.rows r ≡ false → judge_line k n (row_line r) ≡ passed (known_more k r)
judge_line_lem k n h r g l d u =
    let short = length-row r g in
    rw (
      le-leb (length (joined 32 (fields_of r))) most_line (omega arith),
      printable_joined (fields_of r) (row_printable r),
      ne_eqb n 1 (λ z. omega arith),
      split_parts 32 _ _ (row_lacks r),
    )
    (judge_fields k (fields_of r) r (row_again r g) (rw (← l) (row_well r g)) d u)

-- a walk that is accepted, and a line more that passes
walk_snoc : {S L : Type 0} (judge : S → ℕ → L → Judged S) (s : S) (n : ℕ) (ls : List L) (l : L) (t u : S) → walk judge s n ls ≡ accepted t
    → judge t (n + length ls) l ≡ passed u → walk judge s n (ls ++ (l ∷ [])) ≡ accepted u
walk_snoc judge s n [] l t u e d =
    let z : n + 0 ≡ n = omega arith in
    let q : s ≡ t = accepted_same s t (sym (walk_nil judge s n) ∙ e) in
    let j : judge s n l ≡ passed u = rw (q, ← z) d in
    walk_cons judge s n l [] ∙ rw j (walk_nil judge u (n + 1))
walk_snoc judge s n (x ∷ ls) l t u e d =
    let w = walk_step judge s n x ls t e in
    let z : n + suc (length ls) ≡ n + 1 + length ls = omega arith in
    walk_cons judge s n x (ls ++ (l ∷ [])) ∙ rw w.1 (walk_snoc judge w.0 (n + 1) ls l t u w.2 (rw (← z) d))

rows_walk : {c : ℕ} {rs : List StateLine} {p : StateLine} → Ordered c rs p → ((r : StateLine) → Memᴰ r rs → Readable r)
    → walk judge_line (record { labels = c; rows = [] }) 2 (map row_line rs) ≡ accepted (record { labels = c; rows = rs })
rows_walk {c} start f = walk_nil judge_line (record { labels = c; rows = [] }) 2
rows_walk {c} (more {rs = rs} r o fo fi) f =
    let w = row_in_order o r fo fi in
    let k : Known = record { labels = c; rows = rs } in
    ap (walk judge_line (record { labels = c; rows = [] }) 2) (map-append row_line rs (r ∷ []))
    ∙ walk_snoc judge_line (record { labels = c; rows = [] }) 2 (map row_line rs) (row_line r) k (known_more k r)
    (rows_walk o (λ s m. f s (Memᴰ.append_left (r ∷ []) m)))
    (judge_line_lem k (2 + length (map row_line rs)) (omega arith) r (f r (Memᴰ.append_right rs (Memᴰ.head refl))) fi.labelled w.0 w.1)

-- ---- 15 and 16

next_walk : (all rs : List StateLine) (k : Known) (n : ℕ) → ((r : StateLine) → Memᴰ r rs → (strays all r ≡ false) × (ambiguous r ≡ false))
    → walk (judge_next all) k n rs ≡ accepted k
next_walk all [] k n f = walk_nil (judge_next all) k n
next_walk all (r ∷ rs) k n f =
    let w = f r (Memᴰ.head refl) in
    walk_cons (judge_next all) k n r rs ∙ rw (w.0, w.1) (next_walk all rs k (n + 1) (λ s m. f s (Memᴰ.tail m)))

-- ---- the header

module _ (c : ℕ) (header : List ℕ) (g : Heads c header) where
  header_facts : (leb (length header) most_line ≡ true) × (printable header ≡ true)
  header_facts = both_true (leb (length header) most_line) (printable header) g.whole_passes

  header_short : length header ≤ most_line
  header_short = leb-true (length header) most_line header_facts.0

  header_passes : judge_line pattern_format.start 1 (record { bytes = header; newline = true }) ≡ passed (record { labels = c; rows = [] })
  header_passes = rw (g.whole_passes, g.header_ok) (ap (λ (m : ℕ). passed (record { labels = m; rows = [] })) g.names)

-- ---- the text of a buffer that passes

length_bead : (b : List ℕ) (j n : ℕ) → length (rows_of_bead b j n) ≡ n
unfolding rows_of_bead
length_bead b j zero = refl
length_bead b j (suc n) = length-append (rows_of_bead b j n) (row_in b j n ∷ []) ∙ (let h = length_bead b j n in omega arith)

length_rows : (b : List ℕ) (n : ℕ) → ((j : ℕ) → j < n → at b (states_at j) ≤ most_states) → length (rows_of_beads b n) ≤ most_states * n
unfolding rows_of_beads
length_rows b zero f = omega arith
length_rows b (suc n) f =
    let h = length_rows b n (λ j l. f j (omega arith)) in
    let g = length_bead b n (at b (states_at n)) in
    let k = f n (omega arith) in
    let a = length-append (rows_of_beads b n) (rows_of_bead b n (at b (states_at n))) in
    omega arith

member-length : {r : StateLine} {rs : List StateLine} → Memᴰ r rs → 0 < length rs
member-length (Memᴰ.head e) = omega arith
member-length (Memᴰ.tail m) = omega arith

module _ (b : List ℕ) (p : Passes b) where
  abbrev rows : List StateLine
  rows = state_lines_of b

  abbrev sets : ℕ → ℕ → List ℕ
  sets j q = table (λ a. at b (next_at j q a)) (labels_in b)

  -- a fact of every next set of a row
  each_set : (Q : ℕ → Type 0) (j q : ℕ) → ((a : ℕ) → a < labels_in b → Q (at b (next_at j q a)))
      → (a : ℕ) → a < length (sets j q) → Q (get_or (sets j q) a 0)
  each_set Q j q f a h =
      let l : a < labels_in b = (let z = length-table (λ a. at b (next_at j q a)) (labels_in b) in omega arith) in
      subst Q (sym (get_or-table (λ a. at b (next_at j q a)) (labels_in b) a l)) (f a l)

  row_readable : (j q : ℕ) → j < beads_in b → q < at b (states_at j) → Readable (row_in b j q)
  row_readable j q h k =
      let g = bead_there b p j h in
      let f = ((rows_told b p).each (row_in b j q) (row_there b p j q (let m = p.beads_most in omega arith) k)).fits in
      let wide : 2 ^ at b (states_at j) ≤ 2 ^ most_states = pow_mono g.states_most in
      record {
        bead = let m = f.bead_most in omega arith;
        rule = g.rule;
        state = let m = f.state_most in omega arith;
        accepting = let m = f.accepting_most in omega arith;
        next = under_in 65536 (sets j q) (each_set (λ s. s < 65536) j q (λ a l. (let i = (next_there b p j q a h k l).inside in omega arith)));
        labels = let z = length-table (λ a. at b (next_at j q a)) (labels_in b) in let m = p.labels_most in omega arith;
      }

  readable : (r : StateLine) → Memᴰ r rows → Readable r
  readable r m = let w = rows_out b (beads_in b) r m in rw w.is (row_readable w.place w.state w.below w.there)

  row_next : (j q : ℕ) → j < beads_in b → q < at b (states_at j) → (strays rows (row_in b j q) ≡ false) × (ambiguous (row_in b j q) ≡ false)
  row_next j q h k =
      let inside : all_within (states_of rows (j + 1)) (sets j q) ≡ true =
      rw (states_again b p j (let m = p.beads_most in omega arith))
      (within_in (at b (states_at j)) (sets j q) (each_set (λ s. s < 2 ^ at b (states_at j)) j q (λ a l. (next_there b p j q a h k l).inside)))
      in (
        rw inside,
        unambiguous (row_in b j q) (λ e. single_in (sets j q) (each_set (λ s. T (single most_states s)) j q (λ a l. (next_there b p j q a h k l).one e))),
      )

  next_passes : (r : StateLine) → Memᴰ r rows → (strays rows r ≡ false) × (ambiguous r ≡ false)
  next_passes r m = let w = rows_out b (beads_in b) r m in rw w.is (row_next w.place w.state w.below w.there)

  some_row : 0 < length rows
  some_row =
      let n = p.some_bead in
      member-length (row_there b p 0 0 (omega arith) (bead_there b p 0 (omega arith)).some_state)

  module _ (header : List ℕ) (g : Heads (labels_in b) header) where
    abbrev text : List ℕ
    text = text_under (header ++ (10 ∷ [])) b

    sizes : length text ≡ length header + 1 + length (row_lines rows)
    sizes = length-append (header ++ (10 ∷ [])) (row_lines rows) ∙ (let a = length-append header (10 ∷ []) in omega arith)

    pub under_length : length text ≤ text_most
    under_length =
        let h = header_short (labels_in b) header g in
        let a = sizes in
        let r = rows_length rows readable in
        let m = p.beads_most in
        let n = length_rows b (beads_in b) (λ j l. (bead_there b p j l).states_most) in
        omega arith

    under_lines : lines_of text ≡ record { bytes = header; newline = true } ∷ map row_line rows
    under_lines =
        ap lines_of (append_snoc header 10 (row_lines rows)) ∙ next_line header (row_lines rows) (header_facts (labels_in b) header g).1
        ∙ ap (λ (ls : List TextLine). record { bytes = header; newline = true } ∷ ls) (rows_lines rows)

    lines_accepted : walk judge_line pattern_format.start 1 (lines_of text) ≡ accepted (known b p)
    lines_accepted =
        ap (walk judge_line pattern_format.start 1) under_lines
        ∙ walk_cons judge_line pattern_format.start 1 (record { bytes = header; newline = true }) (map row_line rows)
        ∙ rw (header_passes (labels_in b) header g) (rows_walk (rows_ordered b p) readable)

    read_accepted : read_text pattern_format text ≡ accepted (known b p)
    read_accepted =
        let l = under_length in
        let a = sizes in
        rw (ne_eqb (length text) 0 (λ e. omega arith), le-ltb most_pattern_text (length text) (omega arith)) lines_accepted

    pub under_accepted : pattern_text (text_under (header ++ (10 ∷ [])) b) ≡ accepted (known b p)
    under_accepted =
        let s = some_row in
        ap conclude read_accepted
        ∙ rw (ne_eqb (length rows) 0 (λ e. omega arith)) (next_walk rows rows (known b p) 2 next_passes)
