-- An accepted write is read back: its output is an accepted text that gives the same numbers. So two different patterns have different
-- outputs, under any headers.
-- Assumes nothing.
use Prim.Native.Nat.{ℕ, ◌+◌, ◌≤◌}
use mathlib.Core.Path.{◌≡◌, refl, sym, ap, ◌∙◌}
use mathlib.Core.Bool.{not}
use mathlib.Core.List.{List, [], ◌∷◌, ◌++◌}
use native.Mathlib.Omega.{arith}
use borrow.Author.Tests.{not-false}
use lib.Dec.{T, ltb}
use lib.ListN.{length, get_or, take, drop, length-take}
use lib.Seq.{take_at, take_all, get_or-take}
use Rattle.sets.proofs.Truth.{true_yes}
use Rattle.answer.specs.declared.Answer.{Answer}
use Rattle.answer.specs.Answers.{accepted_with, refused_at, refused_in}
use Rattle.pattern_byte.specs.Header.{header_text_at}
use Rattle.answer.specs.Faults.{when}
use Rattle.answer.proofs.FaultLaws.{Passed, numbered, accepted_passed, passed_first, passed_others, answer_accepted, room_filled, passed_past, passed_all}
use Rattle.text.specs.Walk.{Outcome, accepted}
use Rattle.layout.specs.Layout.{pattern_length}
use Rattle.pattern_store.specs.Format.{Known, pattern_text}
use Rattle.pattern_store.specs.Buffer.{buffer_of}
use Rattle.pattern.specs.Answer.{answer_of, filled_by, host_faults, pattern_answer, pattern_after}
use Rattle.pattern_buffer.specs.Meaning.{labels_in, beads_in}
use Rattle.pattern_buffer.specs.Valid.{is_pattern}
use Rattle.pattern_buffer.proofs.Places.{passes_out}
use Rattle.pattern_texts.specs.Spelled.{state_lines_of, text_most}
use Rattle.pattern_texts.proofs.TextUnder.{under_accepted}
use Rattle.pattern_texts.proofs.PatternBuffers.{text_gives}
use Rattle.pattern_writer.specs.Writer.{header_fits, written, pattern_written, room_faults, test_faults, write_faults, write_answer, accepts, in_front, text_after}
use Rattle.pattern_writer.specs.inner.Tested.{Tested}
use Rattle.pattern_written.specs.ReadBack.{ReadBack}
use Rattle.pattern_writer.proofs.HeaderLaws.{headed}
use Rattle.pattern_writer.proofs.WriteLaws.{written_length}

module _ (pattern header text : List ℕ) (a : T (accepts pattern header text)) where
  abbrev b : List ℕ
  b = take pattern_length pattern

  -- ---- an accepted write has no fault

  passed : Passed (write_faults pattern header text)
  unfolding numbered
  passed = accepted_passed (write_faults pattern header text) (length (pattern_written header pattern)) refl a

  tested : Tested b header
  tested =
      let p = passed_others (ltb (length pattern) pattern_length) (refused_at 2 0) (test_faults b header text) passed in
      let q = passed_others (not (is_pattern b)) (refused_at 6 0) (when (not (header_fits (labels_in b) header)) (refused_in 12 1 (header_text_at header)) ∷ room_faults b header text) p in
      record {
        pattern_passes = true_yes (is_pattern b) (not-false (is_pattern b)
            (passed_first (not (is_pattern b)) (refused_at 6 0) (when (not (header_fits (labels_in b) header)) (refused_in 12 1 (header_text_at header)) ∷ room_faults b header text) p));
        fits = not-false (header_fits (labels_in b) header)
            (passed_first (not (header_fits (labels_in b) header)) (refused_in 12 1 (header_text_at header)) (room_faults b header text) q);
      }

  counts : write_answer pattern header text ≡ accepted_with (length (pattern_written header pattern))
  counts =
      sym (answer_accepted (write_faults pattern header text) (accepted_with (length (pattern_written header pattern)))
      (accepted_with (length (pattern_written header pattern))) passed refl)

  front_passes : take (length (pattern_written header pattern)) (text_after pattern header text) ≡ pattern_written header pattern
  front_passes =
      ap (take (length (pattern_written header pattern)))
      (sym (room_filled (write_faults pattern header text) text (in_front (pattern_written header pattern) text) (in_front (pattern_written header pattern) text) passed refl))
      ∙ take_at (pattern_written header pattern) (drop (length (pattern_written header pattern)) text) (length (pattern_written header pattern)) refl

  -- The count is at most 65,535: a u16 holds it.
  pub written_fits : (length (pattern_written header pattern) ≤ text_most) × ((write_answer pattern header text).count ≤ 65535)
  written_fits =
      let h = written_length b header tested.pattern_passes tested.fits in
      let c : (write_answer pattern header text).count ≡ length (pattern_written header pattern) = ap (λ (r : Answer). r.count) counts in
      (h, omega arith)

  -- ---- what the reader reads

  abbrev known : Known
  known = record { labels = labels_in b; rows = state_lines_of b }

  reads : pattern_text (pattern_written header pattern) ≡ accepted known
  unfolding written
  reads =
      let h = headed (labels_in b) header tested.fits in
      rw h.ended (under_accepted b (passes_out b tested.pattern_passes) h.line h.heads)

  gives : buffer_of known ≡ b
  gives =
      sym (text_gives b tested.pattern_passes) ∙ take_all pattern_length b (let h = length-take pattern_length pattern in omega arith)

  module _ (buffer : List ℕ) (h : pattern_length ≤ length buffer) where
    host : Passed (host_faults buffer)
    host = passed_past (length buffer) pattern_length (refused_at 2 0) [] h passed_all

    answers : pattern_answer (pattern_written header pattern) buffer ≡ accepted_with (beads_in pattern)
    answers =
        sym (answer_accepted (host_faults buffer) (accepted_with (beads_in pattern)) (answer_of (pattern_written header pattern) (pattern_text (pattern_written header pattern))) host
        (sym (ap (answer_of (pattern_written header pattern)) reads ∙ ap accepted_with (ap (λ (l : List ℕ). get_or l 1 0) gives ∙ get_or-take pattern_length pattern 1 0 (omega arith)))))

    fills : pattern_after (pattern_written header pattern) buffer ≡ b ++ drop pattern_length buffer
    fills =
        sym (room_filled (host_faults buffer) buffer (filled_by (pattern_text (pattern_written header pattern)) buffer) (b ++ drop pattern_length buffer) host
        (sym (ap (λ (o : Outcome Known). filled_by o buffer) reads ∙ ap (λ (l : List ℕ). l ++ drop pattern_length buffer) gives)))

  pub pattern_read_back : ReadBack pattern header text
  pattern_read_back = record {
    output = pattern_written header pattern;
    is_written = refl;
    counts = counts;
    front_passes = front_passes;
    known = known;
    reads = reads;
    gives = gives;
    answers = answers;
    fills = fills;
  }

-- Two accepted writes with the same output have the same 2,074 numbers.
pub patterns_differ : (p q h g t u : List ℕ) → T (accepts p h t) → T (accepts q g u) → pattern_written h p ≡ pattern_written g q
    → take pattern_length p ≡ take pattern_length q
patterns_differ p q h g t u a c e =
    let r = pattern_read_back p h t a in
    let s = pattern_read_back q g u c in
    let z : accepted r.known ≡ accepted s.known = sym r.reads ∙ ap pattern_text (r.is_written ∙ e ∙ sym s.is_written) ∙ s.reads in
    let y : r.known ≡ s.known = cc in
    sym r.gives ∙ ap buffer_of y ∙ s.gives
