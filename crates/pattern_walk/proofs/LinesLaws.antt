-- The lines of a text as the code reads them: the first line, then the rows.
-- Assumes nothing.
use mathlib.Core.Path.{◌≡◌, refl, sym, ap, ◌∙◌, subst}
use mathlib.Core.Bool.{Bool, true, false, cond}
use mathlib.Core.List.{List, [], ◌∷◌, ◌++◌}
use Prim.Native.Nat.{ℕ, ◌+◌, ◌-◌, ◌^◌, ◌≤◌, ◌<◌}
use native.Mathlib.Omega.{arith}
use borrow.Author.Tests.{ne_eqb, eqb-false}
use lib.Dec.{eqb}
use lib.ListN.{length, take, drop}
use Rattle.std.specs.Prelude.{Option, Some, None, Result, Ok, Err}
use Rattle.text.specs.Lines.{lines_of, line_of, whole_or}
use Rattle.text.specs.Walk.{faulty, walk, answer_says, judge_fields, bad_size, read_text}
use Rattle.text.proofs.WalkLaws.{text_end}
use Rattle.text.proofs.FormatLaws.{below_judged, next_in, end_fits, next_fits, rest_falls, line_broken, line_refused, line_passed, size_bad, size_most}
use Rattle.text.proofs.FormatLaws.{start_in, first_in, start_fits, first_broken, first_refused, first_passed}
use Rattle.layout.specs.Layout.{most_pattern_text, pattern_length, most_line}
use Rattle.pattern_line.specs.Line.{fields_of}
use Rattle.pattern_order.specs.StateLine.{StateLine}
use Rattle.pattern_row.specs.Fields.{row_of}
use Rattle.pattern_store.specs.Format.{judge_header, judge_row, judge_line, pattern_format}
use Rattle.pattern_store.specs.Buffer.{buffer_of}
use Rattle.pattern_line.specs.Answers.{refusal_number}
use Rattle.pattern_header.specs.inner.Answers.{header_judged}
use Rattle.pattern_order.specs.inner.Answers.{rows_at}
use Rattle.pattern_row.specs.inner.Answers.{row_judged, next_sets}
use Rattle.pattern_store.specs.inner.Store.{row_stored}
use Rattle.pattern_walk.specs.Reading.{Begun, HeaderRead, FirstTold, FirstRead, LinesRead, RowsTold, RowsRead}
use Rattle.pattern_line.specs.declared.refusals.Refusal.{Refusal}
use Rattle.pattern_line.specs.declared.refusals.Refusal.TheVariants.{Malformed}
use Rattle.text.specs.inner.Faults.{in_line}
use Rattle.text.proofs.FaultLaws.{lined_ok}
use Rattle.text.specs.declared.faults.Fault.{Fault}
use Rattle.pattern_order.specs.declared.LineValues.{LineValues}
use Rattle.pattern_store.proofs.RowsLaws.{Last, last_rows, last_of, last_more, Added, Sound, sound_none}
use Rattle.pattern_store.proofs.BufferLaws.{Holds, buffer_holds, Says, stored_is}
use Rattle.pattern_walk.proofs.JudgedLaws.{named, header_says, header_few, last_decides, row_refused, RowPasses, row_passes, row_says, row_added, row_sound, sets_size, sets_are}

-- ---- the first line

module _ (text : List ℕ) (t : Bool) (size : t ≡ bad_size most_pattern_text text) where
  pub first_size : t ≡ true → read_text pattern_format text ≡ faulty 10 0
  first_size = size_bad pattern_format text t size

  module _ (right : t ≡ false) (w : Result ℕ Refusal) (told : w ≡ whole_or Malformed (line_of most_line text)) (x : Result ℕ (Fault Refusal))
      (lined : x ≡ in_line 1 w) where
    pub text_broken : (f : Fault Refusal) → x ≡ Err f → read_text pattern_format text ≡ faulty (refusal_number f.refusal) f.line
    text_broken = first_broken pattern_format refusal_number Malformed refl text t size right w told x lined

    module _ (e : ℕ) (p : x ≡ Ok e) (a : Result ℕ Refusal) (said : a ≡ header_judged (fields_of (take e text))) (y : Result ℕ (Fault Refusal))
        (header : y ≡ in_line 1 a) where
      as_header : answer_says refusal_number named a ≡ judge_header (fields_of (take e text))
      as_header = ap (answer_says refusal_number named) said ∙ header_says (fields_of (take e text))

      pub header_refused : (f : Fault Refusal) → y ≡ Err f → read_text pattern_format text ≡ faulty (refusal_number f.refusal) f.line
      header_refused = first_refused pattern_format refusal_number Malformed refl text t size right w told x lined e p named a as_header y header

      pub header_read : (c : ℕ) → y ≡ Ok c → HeaderRead text c (e + 1)
      header_read c q = record {
        left = first_passed pattern_format refusal_number Malformed refl text t size right w told x lined e p named a as_header y header c q;
        few = header_few (fields_of (take e text)) c (sym (lined_ok 1 a c (sym header ∙ q)) ∙ said);
        short = size_most pattern_format text t size right;
        begun = omega arith;
        inside = start_in Malformed most_line text w told x lined e p;
      }

pub first_told : (text : List ℕ) (f : Fault Refusal) → read_text pattern_format text ≡ faulty (refusal_number f.refusal) f.line → (r : Result (ℕ × ℕ) (Fault Refusal)) → r ≡ Err f → FirstRead text r
first_told text f e r p = record { told = subst (FirstTold text) (sym p) e }

pub ruleset first_kit = (first_size, text_broken, first_in, start_fits, header_refused, header_read)

-- ---- the rows

-- The rows before the place `at`, of which the next line has this number.
pub record Before (text : List ℕ) (labels at line : ℕ) (last : Option LineValues) (buffer : List ℕ) : Type 0 where
  pub rows : List StateLine
  pub inside : at ≤ length text
  pub low : 2 ≤ line
  pub number : line ≤ at + 1
  pub short : length text ≤ most_pattern_text
  pub left : read_text pattern_format text ≡ walk judge_line (record { labels = labels; rows = rows }) line (lines_of (drop at text))
  pub sound : Sound labels rows
  pub last_is : rows_at last ≡ last_rows (last_of rows)
  pub numbers : buffer ≡ buffer_of (record { labels = labels; rows = rows })

last_none : last_of [] ≡ record { bead = 0; rule = 0; state = 0 }
unfolding last_of
last_none = refl

pub rows_none : (text : List ℕ) (labels start : ℕ) (b : List ℕ) → HeaderRead text labels start → b ≡ buffer_of (record { labels = labels; rows = [] })
    → Before text labels start 2 None b
rows_none text labels start b h e =
    let i = h.begun in
    record {
      rows = [];
      inside = h.inside;
      low = omega arith;
      number = omega arith;
      short = h.short;
      left = h.left;
      sound = sound_none labels;
      last_is = ap last_rows (sym last_none);
      numbers = e;
    }

module _ (text : List ℕ) (labels at line : ℕ) (last : Option LineValues) (buffer : List ℕ) (d : Before text labels at line last buffer) where
  pub rows_size : length buffer ≡ pattern_length
  rows_size = ap length d.numbers ∙ (buffer_holds (record { labels = labels; rows = d.rows })).size

  pub rows_begun : Begun last
  rows_begun = record { bead = λ v e. go (last_of d.rows) v (sym (ap rows_at e) ∙ d.last_is) }
    where
      first_bead : List StateLine → ℕ
      first_bead [] = 0
      first_bead (r ∷ rs) = r.bead

      go : (l : Last) (v : LineValues) → rows_at (Some v) ≡ last_rows l → 1 ≤ v.bead
      go l v e = some (eqb l.bead 0) refl (ap first_bead e) (ap length e)
        where
          some : (t : Bool) → eqb l.bead 0 ≡ t
              → v.bead ≡ first_bead (cond t [] (record { bead = l.bead; rule = l.rule; state = l.state; accepting = 0; next = [] } ∷ []))
              → 1 ≡ length {A = StateLine} (cond t [] (record { bead = l.bead; rule = l.rule; state = l.state; accepting = 0; next = [] } ∷ [])) → 1 ≤ v.bead
          some true f b n = absurd (omega arith)
          some false f b n = let z = eqb-false l.bead 0 f in omega arith

  pub rows_end : length text ≤ at → LinesRead text buffer
  rows_end h =
      record {
        known = record { labels = labels; rows = d.rows };
        lines = text_end judge_line (record { labels = labels; rows = d.rows }) line text at (read_text pattern_format text) d.left h;
        numbers = d.numbers;
      }

  module _ (w : Result ℕ Refusal) (told : w ≡ whole_or Malformed (line_of most_line (take (length text - at) (drop at text))))
      (x : Result ℕ (Fault Refusal)) (lined : x ≡ in_line line w) where
    pub rows_broken : at < length text → (f : Fault Refusal) → x ≡ Err f → read_text pattern_format text ≡ faulty (refusal_number f.refusal) f.line
    rows_broken =
        line_broken pattern_format refusal_number Malformed refl (record { labels = labels; rows = d.rows }) line text at
        (read_text pattern_format text) d.left w told x lined

    module _ (e : ℕ) (p : x ≡ Ok e) where
      pub line_fits : line + 1 < 2 ^ 16
      line_fits = let h = next_in Malformed most_line text at line w told x lined e p in let s = d.short in let n = d.number in omega arith

      module _ (a : Result LineValues Refusal) (said : a ≡ row_judged labels (rows_at last) (fields_of (take (at + e - at) (drop at text))))
          (y : Result LineValues (Fault Refusal)) (row_lined : y ≡ in_line line a) where
        judged : judge_fields pattern_format (record { labels = labels; rows = d.rows }) line (fields_of (take (at + e - at) (drop at text)))
            ≡ judge_row (record { labels = labels; rows = d.rows }) (fields_of (take (at + e - at) (drop at text)))
        judged = below_judged pattern_format (record { labels = labels; rows = d.rows }) line (fields_of (take (at + e - at) (drop at text))) d.low

        said_all : a ≡ row_judged labels d.rows (fields_of (take (at + e - at) (drop at text)))
        said_all =
            said ∙ ap (λ (rs : List StateLine). row_judged labels rs (fields_of (take (at + e - at) (drop at text)))) d.last_is
            ∙ last_decides (record { labels = labels; rows = d.rows }) d.sound.orderly (fields_of (take (at + e - at) (drop at text)))

        pub rows_refused : (f : Fault Refusal) → y ≡ Err f → read_text pattern_format text ≡ faulty (refusal_number f.refusal) f.line
        rows_refused =
            line_refused pattern_format refusal_number Malformed refl (record { labels = labels; rows = d.rows }) line text at
            (read_text pattern_format text) d.left w told x lined e p a y row_lined
            (λ r q.
            judged ∙ row_refused (record { labels = labels; rows = d.rows }) (fields_of (take (at + e - at) (drop at text))) r (sym q ∙ said_all))

        module _ (v : LineValues) (z : y ≡ Ok v) where
          q : a ≡ Ok v
          q = lined_ok line a v (sym row_lined ∙ z)

          passes : RowPasses (record { labels = labels; rows = d.rows }) (fields_of (take (at + e - at) (drop at text)))
          passes = row_passes (record { labels = labels; rows = d.rows }) (fields_of (take (at + e - at) (drop at text))) v (sym q ∙ said_all)

          says : Says v (row_of (fields_of (take (at + e - at) (drop at text))))
          says = row_says (record { labels = labels; rows = d.rows }) (fields_of (take (at + e - at) (drop at text))) v (sym q ∙ said_all)

          fits : Added d.rows (row_of (fields_of (take (at + e - at) (drop at text))))
          fits = row_added (record { labels = labels; rows = d.rows }) (fields_of (take (at + e - at) (drop at text))) passes d.sound.orderly

          pub rows_more : (after : List ℕ) → after ≡ row_stored buffer a (fields_of (take (at + e - at) (drop at text)))
              → Before text labels (at + e + 1) (line + 1) (Some v) after
          rows_more after put =
              let i = next_in Malformed most_line text at line w told x lined e p in
              let m = d.low in
              let k = d.number in
              record {
                inside = i;
                low = omega arith;
                number = omega arith;
                short = d.short;
                rows = d.rows ++ (row_of (fields_of (take (at + e - at) (drop at text))) ∷ []);
                left =
                    line_passed pattern_format refusal_number Malformed refl (record { labels = labels; rows = d.rows }) line text at
                    (read_text pattern_format text) d.left w told x lined e p
                    (record { labels = labels; rows = d.rows ++ (row_of (fields_of (take (at + e - at) (drop at text))) ∷ []) }) (judged ∙ passes.judged);
                sound = row_sound (record { labels = labels; rows = d.rows }) (fields_of (take (at + e - at) (drop at text))) passes d.sound;
                last_is =
                    same_last v (row_of (fields_of (take (at + e - at) (drop at text)))) says fits.bead_low
                    ∙ ap last_rows (sym (last_more d.rows (row_of (fields_of (take (at + e - at) (drop at text))))));
                numbers =
                    put ∙ ap (λ (x : Result LineValues Refusal). row_stored buffer x (fields_of (take (at + e - at) (drop at text)))) q
                    ∙ stored_is (record { labels = labels; rows = d.rows }) (row_of (fields_of (take (at + e - at) (drop at text)))) d.sound.orderly fits buffer
                    (next_sets (fields_of (take (at + e - at) (drop at text))))
                    (subst (Holds (record { labels = labels; rows = d.rows })) (sym d.numbers) (buffer_holds (record { labels = labels; rows = d.rows }))) v says
                    (sets_size (fields_of (take (at + e - at) (drop at text)))) (sets_are (fields_of (take (at + e - at) (drop at text))));
              }
            where
              same_last : (u : LineValues) (o : StateLine) → Says u o → 1 ≤ o.bead → rows_at (Some u) ≡ last_rows (record { bead = o.bead; rule = o.rule; state = o.state })
              same_last u o s low = rw (s.bead, s.rule, s.state) (sym (rw (ne_eqb o.bead 0 (λ z. absurd (omega arith))) refl))

pub rows_told : (text : List ℕ) (f : Fault Refusal) → read_text pattern_format text ≡ faulty (refusal_number f.refusal) f.line
    → (r : Result (Unit {0}) (Fault Refusal)) → r ≡ Err f → (buffer : List ℕ) → RowsRead text r buffer
rows_told text f e r p buffer = record { told = subst (λ (x : Result (Unit {0}) (Fault Refusal)). RowsTold text x buffer) (sym p) e }

pub ruleset rows_kit = (
  rows_none,
  rows_size,
  rows_begun,
  rows_end,
  rows_broken,
  rows_refused,
  rows_more,
  end_fits,
  next_fits,
  line_fits,
  rest_falls,
)
