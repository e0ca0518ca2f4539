-- Buffers that two accepted texts give are never refused with 6 or 7; and the row that the judge leaves for two texts.
-- Assumes nothing.
use Prim.Native.Nat.{ℕ, ◌≤◌, ◌<◌}
use mathlib.Core.Path.{◌≡◌, refl, sym, ap, ap₂, ◌∙◌, subst}
use mathlib.Core.List.{List}
use native.Mathlib.Omega.{arith}
use lib.Dec.{T}
use lib.ListN.{length, get_or, take}
use lib.Seq.{take-take, length-take-le}
use Rattle.answer.specs.Answers.{accepted_with}
use Rattle.text.specs.Walk.{accepted}
use Rattle.layout.specs.Layout.{pattern_length, log_length, result_length, work_length}
use Rattle.pattern_store.specs.Format.{Known as PatternKnown, pattern_text}
use Rattle.pattern_store.specs.Buffer.{buffer_of as pattern_buffer}
use Rattle.log_line.specs.Format.{Known as LogKnown, log_text}
use Rattle.log_store.specs.Buffer.{buffer_of as log_buffer}
use Rattle.pattern_buffer.specs.Meaning.{labels_in, pattern_of}
use Rattle.pattern_buffer.specs.Valid.{is_pattern}
use Rattle.pattern_texts.proofs.PatternBuffers.{pattern_buffers}
use Rattle.log_buffer.specs.Meaning.{log_of, log_of_room}
use Rattle.log_buffer.specs.Valid.{is_log}
use Rattle.log_texts.proofs.LogBuffers.{given_passes}
use Rattle.necklace.specs.Compute.{row}
use Rattle.judging.specs.Judge.{pattern_in, log_in, judge_answer, accepts, result_after}
use Rattle.results.specs.Result.{row_in}
use Rattle.judging.proofs.Calls.{Accepted, accepted_call, row_in_result}

-- Two accepted texts, and buffers that hold what they give.
module _ (pt lt : List ℕ) (k : PatternKnown) (m : LogKnown) (reads : pattern_text pt ≡ accepted k) (reads_log : log_text k.labels lt ≡ accepted m)
    (pattern log result work : List ℕ) (pattern_long : pattern_length ≤ length pattern) (log_long : log_length ≤ length log)
    (result_long : result_length ≤ length result) (work_long : work_length ≤ length work)
    (gives : take pattern_length pattern ≡ pattern_buffer k) (gives_log : take log_length log ≡ log_buffer m.steps) where
  front_length : length (take pattern_length pattern) ≡ pattern_length
  front_length = length-take-le pattern_length pattern pattern_long

  length_of_log : length (take log_length log) ≡ log_length
  length_of_log = length-take-le log_length log log_long

  pattern_passes : T (is_pattern (take pattern_length pattern))
  pattern_passes =
      (pattern_buffers (take pattern_length pattern)).1 (record {
        long = (let e = front_length in omega arith);
        text = pt;
        known = k;
        reads = reads;
        gives = take-take pattern_length pattern_length pattern (omega arith) ∙ gives;
      })

  same_labels : labels_in (take pattern_length pattern) ≡ k.labels
  same_labels = ap (λ (l : List ℕ). get_or l 0 0) gives

  log_passes : T (is_log (labels_in (take pattern_length pattern)) (take log_length log))
  log_passes =
      subst (λ (c : ℕ). T (is_log c (take log_length log))) (sym same_labels)
      (given_passes k.labels (take log_length log) lt m reads_log (let e = length_of_log in omega arith) (take-take log_length log_length log (omega arith) ∙ gives_log))

  -- The judge never refuses them with 6 or 7: it accepts.
  pub whole : Accepted pattern log result work
  whole = record {
    log_long = log_long;
    pattern_long = pattern_long;
    result_long = result_long;
    work_long = work_long;
    pattern_passes = pattern_passes;
    log_passes = log_passes;
  }

  -- What it then leaves for a step.
  pub whole_row : (v : ℕ) → v < (log_in log).size → row_in (result_after pattern log result work) v ≡ row (log_of_room (log_buffer m.steps)) (pattern_of (pattern_buffer k)) v
  whole_row v h =
      row_in_result pattern log result work (accepted_call pattern log result work whole) v h
      ∙ ap₂ (λ (l p : List ℕ). row (log_of_room l) (pattern_of p) v) gives_log gives
