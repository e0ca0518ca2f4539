-- The judge's own functions, put together from its phases.
-- Assumes nothing.
use Prim.Native.Nat.{ℕ, ◌+◌, ◌-◌, ◌*◌, ◌≤◌, ◌<◌}
use mathlib.Core.Path.{◌≡◌, sym, ap, ap₂, ◌∙◌}
use mathlib.Core.List.{List, ◌++◌, append_assoc}
use native.Mathlib.Omega.{arith}
use lib.ListN.{length, get_or, take, drop, replicate}
use lib.Seq.{take_at, drop_at, drop-drop}
use borrow.Rule.Slice.PartMut.{put_mid}
use Rattle.lists.proofs.Tables.{zeros_at}
use Rattle.rows.specs.Rows.{rows_from, whole_from}
use Rattle.rows.proofs.RowLaws.{length_rows}
use Rattle.log_buffer.specs.Meaning.{log_of, steps_in}
use Rattle.pattern_buffer.specs.Meaning.{beads_in, labels_in, pattern_of}
use Rattle.pattern_buffer.proofs.Meaning.{pattern_well_formed}
use Rattle.pattern_buffer.proofs.Places.{passes_out}
use Rattle.log_links.specs.Links.{Laid}
use Rattle.log_links.proofs.LinkLaws.{laid}
use Rattle.prefix_phase.specs.Marked.{Tested, Unmarked, PrefixesMarked}
use Rattle.walk_places.specs.Walked.{WalkedBack}
use Rattle.walk_places.proofs.PlaceLaws.{tested_some, tested_beads, tested_steps}
use Rattle.layout.specs.Layout.{result_length, row_length, most_beads, most_steps}
use Rattle.results.specs.Result.{rows_up_to, whole_up_to, rows_of}
use Rattle.results.specs.inner.Arrays.{result_from, Sized}
use Rattle.results.proofs.Rows.{counted, rows_are}

-- ---- the result, from the arrays

pub written_result : (beads n : ℕ) (prefixes pivots l mid : List ℕ) → n ≤ most_steps → result_length ≤ length l → mid ≡ rows_from beads prefixes pivots n ++ drop (row_length * n) l
    → (zeros : List ℕ) → zeros ≡ replicate (result_length - row_length * n) 0 → put_mid (row_length * n) (result_length - row_length * n) mid zeros ≡ result_from beads prefixes pivots n l
written_result beads n prefixes pivots l mid h k e zeros z =
    let r = length_rows beads prefixes pivots n in
    let s : row_length * n + (result_length - row_length * n) ≡ result_length = omega arith in
    ap₂ (λ (x y : List ℕ). x ++ y) (ap (take (row_length * n)) e ∙ take_at (rows_from beads prefixes pivots n) (drop (row_length * n) l) (row_length * n) r)
    (ap₂ (λ (x y : List ℕ). x ++ y) z
    (ap (λ (m : List ℕ). drop (result_length - row_length * n) (drop (row_length * n) m)) e
    ∙ ap (drop (result_length - row_length * n)) (drop_at (rows_from beads prefixes pivots n) (drop (row_length * n) l) (row_length * n) r)
    ∙ drop-drop (result_length - row_length * n) (row_length * n) l ∙ ap (λ (m : ℕ). drop m l) s))

-- ---- what the tests give

pub unmarked_zeros : (n : ℕ) → Unmarked (replicate n 0)
unmarked_zeros n = record { none = zeros_at n }

module _ (pattern log labels : List ℕ) (beads n : ℕ) (s : Sized pattern log labels beads n) (prefixes : List ℕ) (m : PrefixesMarked (log_of log labels) (pattern_of pattern) (steps_in log) prefixes) where
  some : 1 ≤ beads_in pattern
  some = let e = s.beads_are in let h = s.some_bead in omega arith

  few : beads_in pattern ≤ most_beads
  few = let e = s.beads_are in let h = s.few_beads in omega arith

  pub count_judged : (c : ℕ) → c ≡ whole_from beads prefixes n → c ≡ whole_up_to (log_of log labels) (pattern_of pattern) (log_of log labels).size
  unfolding pattern_of log_of
  count_judged c e =
      e ∙ ap₂ (λ (b v : ℕ). whole_from b prefixes v) s.beads_are s.steps_are
      ∙ counted (log_of log labels) (pattern_of pattern) some (steps_in log) prefixes m (steps_in log) (omega arith)

  pub result_judged : (pivots l last : List ℕ) → WalkedBack (log_of log labels) (pattern_of pattern) (steps_in log) pivots
      → last ≡ result_from beads prefixes pivots n l → last ≡ rows_of (log_of log labels) (pattern_of pattern) ++ drop result_length l
  unfolding pattern_of log_of
  result_judged pivots l last w e =
      e ∙ ap₂ (λ (b v : ℕ). result_from b prefixes pivots v l) s.beads_are s.steps_are
      ∙ ap (λ (x : List ℕ). x ++ (replicate (result_length - row_length * steps_in log) 0 ++ drop result_length l))
      (rows_are (log_of log labels) (pattern_of pattern) some (steps_in log) prefixes m few pivots w (steps_in log) (omega arith))
      ∙ sym (append_assoc (rows_up_to (log_of log labels) (pattern_of pattern) (steps_in log)) (replicate (result_length - row_length * steps_in log) 0) (drop result_length l))

module _ (pattern log labels : List ℕ) (t : Tested pattern log labels) where
  pub sized : (beads n : ℕ) → beads ≡ get_or pattern 1 0 → n ≡ get_or log 0 0 → Sized pattern log labels beads n
  unfolding pattern_of
  sized beads n e f =
      let p = pattern_well_formed pattern t.pattern_passes in
      let b = p.some_bead in
      let c = p.at_most in
      let l = (laid (labels_in pattern) log t.log_passes).few in
      record { tested = t; beads_are = e; steps_are = f; some_bead = omega arith; few_beads = omega arith; few_steps = omega arith }

  pub pattern_there : 1 < length pattern
  pattern_there = let h = (passes_out pattern t.pattern_passes).long in omega arith

  pub log_there : 0 < length log
  log_there = let h = (laid (labels_in pattern) log t.log_passes).long in omega arith

pub tested_laid : (pattern log labels : List ℕ) → Tested pattern log labels → Laid log
tested_laid pattern log labels t = laid (labels_in pattern) log t.log_passes

pub ruleset tested_kit = (tested_some, tested_beads, tested_steps, pattern_there, log_there)
