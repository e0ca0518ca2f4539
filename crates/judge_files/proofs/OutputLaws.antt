-- What is laid out at the front of the output, after the two files were read and judged. Assumes nothing.
use Prim.Native.Nat.{ℕ, ◌*◌, ◌≤◌, ◌<◌}
use mathlib.Core.Path.{◌≡◌, sym, ap, ◌∙◌, subst}
use mathlib.Core.List.{List, ◌++◌}
use native.Mathlib.Omega.{arith}
use borrow.Author.Tests.{eq-eqb, ne_eqb}
use lib.Dec.{T, eqb}
use lib.ListN.{length, get_or, drop}
use lib.Seq.{sets-eq, length-sets, length-take-le}
use Rattle.layout.specs.Layout.{result_length, row_length}
use Rattle.answer.specs.declared.Answer.{Answer}
use Rattle.pattern_buffer.specs.Meaning.{beads_in}
use Rattle.log_buffer.specs.Meaning.{steps_in}
use Rattle.judging.specs.Judge.{accepts, result_after}
use Rattle.writing.specs.Put.{Put}
use Rattle.report_lines.specs.Lines.{header_text, refusal_text}
use Rattle.report.specs.Report.{row_lines, output_text}
use Rattle.report.proofs.Fits.{few_steps, output_fits, refusal_fits}
use Rattle.judge_files.specs.Files.{LogJudged, log_refused, log_judged, Run, pattern_refused, pattern_read}
use Rattle.judge_files.specs.Output.{AtFront}

-- The result is what an accepted judging of the two buffers left.
record Judged (pattern log result : List ℕ) : Type 0 where
  old : List ℕ
  work : List ℕ
  accepted : T (accepts pattern log old work)
  left : result ≡ result_after pattern log old work

judged_log : {text pattern log result work log' result' work' : List ℕ} {r : Answer}
    → LogJudged text pattern log result work r log' result' work' → r.number ≡ 0 → Judged pattern log' result'
judged_log (log_refused d h e f) z = absurd (h z)
judged_log {result = result} {work = work} (log_judged a d h e f g) z = record {
  old = result;
  work = work;
  accepted = subst (λ (n : ℕ). T (eqb n 0)) (sym z ∙ ap (λ (b : Answer). b.number) e) tt;
  left = f;
}

judged : {pattern_text log_text pattern log result work pattern' log' result' work' : List ℕ} {r : Answer}
    → Run pattern_text log_text pattern log result work r pattern' log' result' work' → r.number ≡ 0 → Judged pattern' log' result'
judged (pattern_refused d h e f g) z = absurd (h z)
judged (pattern_read a d h j) z = judged_log j z

-- A text that is put at the front of a buffer that has room for it.
front : (text old new : List ℕ) (n : ℕ) → Put text 0 old n new → length text ≤ length old → AtFront text old n new
front text old new n w h = record {
  laid = w.laid ∙ sets-eq text old 0 (omega arith) ∙ ap (λ (k : ℕ). text ++ drop k old) (sym w.next);
  size = size;
  fits = (fits, sym (length-take-le n new fits));
}
  where
    size : n ≡ length text
    size = omega (arith, w.next)

    fits : n ≤ length new
    fits = omega (arith, ap length w.laid ∙ length-sets old 0 text, size)

module _ (pattern_text log_text pattern log result work pattern' log' result' work' : List ℕ) (r : Answer)
    (run : Run pattern_text log_text pattern log result work r pattern' log' result' work') (z : r.number ≡ 0) where
  pub rows_room : length result' ≡ result_length → row_length * get_or log' 0 0 ≤ length result'
  rows_room e = let j = judged run z in omega (arith, few_steps pattern' log' j.old j.work j.accepted)

  pub rows_out : (old new : List ℕ) (n : ℕ) → Put (header_text ++ row_lines (get_or pattern' 1 0) (get_or log' 0 0) result') 0 old n new
      → length old ≡ 65536 → AtFront (output_text r (beads_in pattern') (steps_in log') result') old n new
  rows_out old new n w e =
      let j = judged run z in
      let fits = output_fits pattern' log' j.old j.work j.accepted (get_or pattern' 1 0) in
      let short : length (header_text ++ row_lines (get_or pattern' 1 0) (get_or log' 0 0) result') ≤ 55319 =
      subst (λ (l : List ℕ). length (header_text ++ row_lines (get_or pattern' 1 0) (get_or log' 0 0) l) ≤ 55319) (sym j.left) fits in
      rw (eq-eqb _ _ z) (front (header_text ++ row_lines (get_or pattern' 1 0) (get_or log' 0 0) result') old new n w (omega arith))

pub refusal_out : (old new result : List ℕ) (r : Answer) (beads steps n : ℕ) → (r.number ≡ 0 → ⊥) → r.number < 65536 → r.line < 65536 → r.byte < 65536
    → Put (refusal_text r) 0 old n new → length old ≡ 65536 → AtFront (output_text r beads steps result) old n new
refusal_out old new result r beads steps n h f g b w e =
    let short = refusal_fits r f g b in
    rw (ne_eqb _ _ h) (front (refusal_text r) old new n w (omega arith))
