-- What an accepted call wrote: its length fits 16 bits, reading it gives the log buffer back, and two buffers that differ give two texts.
-- Assumes nothing.
use Prim.Native.Nat.{ℕ, ◌^◌, ◌≤◌, max}
use mathlib.Core.Path.{◌≡◌, refl, sym, ap, ◌∙◌, subst}
use mathlib.Core.Bool.{Bool, true, false, not, ◌||◌}
use mathlib.Core.List.{List, ◌++◌}
use native.Mathlib.Omega.{arith}
use borrow.Author.Tests.{ltb-false}
use lib.Dec.{T, ltb}
use lib.Pow.{pow_mono}
use lib.ListN.{length, take, drop}
use lib.Seq.{take_at, take_all, length-take-le}
use Rattle.answer.specs.declared.Answer.{Answer}
use Rattle.answer.specs.Answers.{accepted_with}
use Rattle.answer.proofs.FaultLaws.{Passed, passed_past, passed_inside, passed_all, passed_first, passed_others, answer_accepted, room_filled, numbered, accepted_passed}
use Rattle.text.specs.Walk.{Outcome, accepted}
use Rattle.layout.specs.Layout.{most_labels, log_length}
use Rattle.log_line.specs.Format.{Known, log_text}
use Rattle.log_store.specs.Buffer.{buffer_of}
use Rattle.log_walk.specs.Filled.{filled_by}
use Rattle.log_reader.specs.Answer.{host_faults, text_answer}
use Rattle.log_buffer.specs.Valid.{is_log}
use Rattle.log_buffer.proofs.Sound.{sound_iff}
use Rattle.log_texts.specs.Spelled.{steps_of}
use Rattle.log_texts.proofs.LogBuffers.{text_says, steps_give}
use Rattle.log_texts.proofs.LogText.{known}
use Rattle.log_writer.specs.Writer.{log_written, write_faults, write_answer, text_after, accepts, output}
use Rattle.log_written.specs.ReadBack.{ReadBack}
use Rattle.log_writer.proofs.Fits.{text_fits}

-- ---- a buffer that passes under a label count

-- It passes under each larger one.
pub passes_more : (count more : ℕ) (b : List ℕ) → count ≤ more → T (is_log count b) → T (is_log more b)
passes_more count more b h t =
    let s = (sound_iff count b).0 t in
    (sound_iff more b).1 (record {
      long = s.long;
      started = s.started;
      few_steps = s.few_steps;
      bare = s.bare;
      labelled = λ v l n. let k = s.labelled v l n in let p : 2 ^ count ≤ 2 ^ more = pow_mono h in omega arith;
      boarded = s.boarded;
      no_labels = s.no_labels;
      no_board = s.no_board;
      start = s.start;
      unlinked = s.unlinked;
      linked = s.linked;
      at_most = s.at_most;
      no_begin = s.no_begin;
      few_links = s.few_links;
      below = s.below;
      rising = s.rising;
      rest = s.rest;
    })

-- The first 7,170 numbers of a longer buffer are what the steps of its text give.
steps_back : (count : ℕ) (log : List ℕ) → log_length ≤ length log → T (is_log count (take log_length log))
    → buffer_of (steps_of (take log_length log)) ≡ take log_length log
steps_back count log h t =
    sym (steps_give count (take log_length log) t)
    ∙ take_all log_length (take log_length log) (let e = length-take-le log_length log h in omega arith)

-- Two with the same text, under one count, have the same numbers.
same_text : (count : ℕ) (a b : List ℕ) → count ≤ most_labels → log_length ≤ length a → log_length ≤ length b
    → T (is_log count (take log_length a)) → T (is_log count (take log_length b)) → log_written a ≡ log_written b
    → take log_length a ≡ take log_length b
same_text count a b few long_a long_b t u e =
    let z : accepted (known (steps_of (take log_length a))) ≡ accepted (known (steps_of (take log_length b)))
    = sym (text_says count (take log_length a) few t) ∙ ap (log_text count) e ∙ text_says count (take log_length b) few u in
    let k : known (steps_of (take log_length a)) ≡ known (steps_of (take log_length b)) = cc in
    sym (steps_back count a long_a t) ∙ ap (λ (m : Known). buffer_of m.steps) k ∙ steps_back count b long_b u

-- ---- the tests that an accepted call passed

pub record Accepted (log : List ℕ) (count : ℕ) (text : List ℕ) : Type 0 where
  pub long : log_length ≤ length log
  pub some : 1 ≤ count
  pub few : count ≤ most_labels
  pub log_passes : T (is_log count (take log_length log))
  pub room : length (log_written log) ≤ length text

or_neither : (a b : Bool) → (a || b) ≡ false → (a ≡ false) × (b ≡ false)
or_neither false b e = (refl, e)
or_neither true b e = absurd (subst T e tt)

granted : (b : Bool) → not b ≡ false → T b
granted true e = tt
granted false e = absurd (subst T e tt)

module _ (log : List ℕ) (count : ℕ) (text : List ℕ) (t : T (accepts log count text)) where
  no_fault : Passed (write_faults log count text)
  unfolding numbered
  no_fault = accepted_passed (write_faults log count text) (length (log_written log)) refl t

  pub passed_tests : Accepted log count text
  passed_tests =
      let one = no_fault in
      let five = passed_others _ _ _ one in
      let seven = passed_others _ _ _ five in
      let eight = passed_others _ _ _ seven in
      let count_fits = or_neither (ltb count 1) (ltb most_labels count) (passed_first _ _ _ five) in
      record {
        long = ltb-false (length log) log_length (passed_first _ _ _ one);
        some = ltb-false count 1 count_fits.0;
        few = ltb-false most_labels count count_fits.1;
        log_passes = granted (is_log count (take log_length log)) (passed_first _ _ _ seven);
        room = ltb-false (length text) (length (log_written log)) (passed_first _ _ _ eight);
      }

  -- ---- what it answers and leaves

  pub answer_counts : write_answer log count text ≡ accepted_with (length (log_written log))
  answer_counts = sym (answer_accepted (write_faults log count text) (accepted_with (length (log_written log))) (accepted_with (length (log_written log))) no_fault refl)

  pub text_stands : text_after log count text ≡ log_written log ++ drop (length (log_written log)) text
  text_stands =
      sym (room_filled (write_faults log count text) text (log_written log ++ drop (length (log_written log)) text)
      (log_written log ++ drop (length (log_written log)) text) no_fault refl)

  -- The output is the text.
  pub output_is : output log count text ≡ log_written log
  output_is =
      ap (λ (a : Answer). take a.count (text_after log count text)) answer_counts
      ∙ ap (take (length (log_written log))) text_stands
      ∙ take_at (log_written log) (drop (length (log_written log)) text) (length (log_written log)) refl

  -- The count fits 16 bits.
  pub written_fits : (write_answer log count text).count ≤ 65535
  written_fits =
      let p = passed_tests in
      let e = ap (λ (a : Answer). a.count) answer_counts in
      omega (arith, text_fits count (take log_length log) p.few p.log_passes)

  -- Reading the output under the label count handed in gives the log buffer back.
  pub log_read_back : ReadBack log count (output log count text)
  log_read_back = subst (ReadBack log count) (sym output_is) back
    where
      p : Accepted log count text
      p = passed_tests

      says : log_text count (log_written log) ≡ accepted (known (steps_of (take log_length log)))
      says = text_says count (take log_length log) p.few p.log_passes

      gives : buffer_of (steps_of (take log_length log)) ≡ take log_length log
      gives = steps_back count log p.long p.log_passes

      no_host_fault : (buffer : List ℕ) → log_length ≤ length buffer → Passed (host_faults count buffer)
      no_host_fault buffer h =
          passed_past (length buffer) log_length _ _ h
          (passed_inside 1 count most_labels _ _ p.some p.few passed_all)

      back : ReadBack log count (log_written log)
      back = record {
        read = known (steps_of (take log_length log));
        reads = says;
        gives = gives;
        answers = λ buffer h.
            sym (answer_accepted (host_faults count buffer) (accepted_with (length (steps_of (take log_length log)))) (text_answer (log_written log) (log_text count (log_written log)))
            (no_host_fault buffer h) (ap (text_answer (log_written log)) (sym says)));
        fills = λ buffer h.
            sym (room_filled (host_faults count buffer) buffer (filled_by (log_text count (log_written log)) buffer)
            (take log_length log ++ drop log_length buffer) (no_host_fault buffer h)
            (ap (λ (l : List ℕ). l ++ drop log_length buffer) (sym gives) ∙ ap (λ (o : Outcome Known). filled_by o buffer) (sym says)));
      }

-- Two accepted calls with the same output were handed the same 7,170 numbers, whatever the two label counts: a buffer that passes under a
-- count passes under the larger one.
pub logs_differ : (a b : List ℕ) (i j : ℕ) (text room : List ℕ) → T (accepts a i text) → T (accepts b j room) → output a i text ≡ output b j room
    → take log_length a ≡ take log_length b
logs_differ a b i j text room t u e =
    let p = passed_tests a i text t in
    let q = passed_tests b j room u in
    let few_i = p.few in
    let few_j = q.few in
    same_text (max i j) a b (omega arith) p.long q.long
    (passes_more i (max i j) (take log_length a) (omega arith) p.log_passes)
    (passes_more j (max i j) (take log_length b) (omega arith) q.log_passes)
    (sym (output_is a i text t) ∙ e ∙ output_is b j room u)
