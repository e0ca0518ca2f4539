-- The reader's loop over the lines below the header: what is known so far, and each way out.
-- Assumes nothing.
use mathlib.Core.Path.{◌≡◌, refl, sym, ap, ◌∙◌, subst}
use mathlib.Core.List.{List, [], ◌∷◌, ◌++◌}
use Prim.Native.Nat.{ℕ, ◌+◌, ◌-◌, ◌≤◌, ◌<◌}
use native.Mathlib.Omega.{arith}
use borrow.Author.Tests.{eq-eqb, ne_eqb}
use lib.ListN.{length, take, drop, replicate, length-append}
use lib.Seq.{length-take-le}
use Rattle.answer.specs.Answers.{accepted_with, refused_at}
use Rattle.text.specs.Split.{split}
use Rattle.text.specs.Lines.{lines_of, line_of, whole_or}
use Rattle.text.specs.Walk.{Outcome, accepted, faulty, walk, judge_fields}
use Rattle.std.specs.Prelude.{Result, Ok, Err}
use Rattle.text.specs.declared.faults.Fault.{Fault}
use Rattle.text.specs.inner.Faults.{in_line}
use Rattle.text.proofs.FaultLaws.{lined_ok}
use Rattle.text.proofs.WalkLaws.{text_end}
use Rattle.text.proofs.FormatLaws.{below_judged, end_fits, next_fits, rest_falls, line_broken, line_refused, line_passed}
use Rattle.layout.specs.Layout.{most_steps, most_links, most_line, log_length}
use Rattle.log_line.specs.Step.{Step, link_count}
use Rattle.log_line.specs.Format.{Known, judge_step, judge_line, log_format, conclude}
use Rattle.log_line.specs.Answers.{refusal_number, order_of}
use Rattle.log_step.specs.Limits.{InLimits}
use Rattle.log_step.specs.Answers.{Limited}
use Rattle.log_walk.specs.inner.Reading.{steps_read}
use Rattle.log_store.specs.inner.Stores.{knowing, Added, LineAdded}
use Rattle.log_store.specs.Buffer.{begins, links, buffer_of}
use Rattle.log_walk.specs.Filled.{answer_of, filled_by}
use Rattle.log_line.specs.declared.refusals.Refusal.{Refusal}
use Rattle.log_line.specs.declared.refusals.Refusal.TheVariants.{Malformed}
use Rattle.log_line.specs.declared.header.ColumnOrder.{ColumnOrder}
use Rattle.log_line.specs.declared.preds.Links.{Links}
use Rattle.log_step.specs.declared.StepValues.{StepValues}
use Rattle.log_store.proofs.BufferLaws.{count_more, count_end}

-- Before the line at the place `at`, v steps with so many links are read, and they are in the buffer.
pub record Reading (text : List ℕ) (start count : ℕ) (o : ColumnOrder) (at v edges : ℕ) (buffer : List ℕ) : Type 0 where
  pub known : List Step
  pub ahead : walk (judge_line count) (knowing (order_of o) []) 2 (lines_of (drop start text)) ≡ walk (judge_line count) (knowing (order_of o) known)
      (v + 2) (lines_of (drop at text))
  pub counted : length known ≡ v
  pub linked : link_count known ≡ edges
  pub stored : buffer ≡ buffer_of known

zeros : replicate {A = ℕ} log_length 0 ≡ buffer_of []
unfolding begins links
zeros = refl

reading_start : (text : List ℕ) (start count : ℕ) (o : ColumnOrder) → Reading text start count o start 0 0 (replicate log_length 0)
reading_start text start count o = record { known = []; ahead = refl; counted = refl; linked = count_end; stored = zeros }

pub reading_none : (text : List ℕ) (start count : ℕ) (o : ColumnOrder) (v : ℕ) → v ≡ 0 → (edges : ℕ) → edges ≡ 0
    → Reading text start count o start v edges (replicate log_length 0)
reading_none text start count o v z edges y = rw (z, y) (reading_start text start count o)

pub log_room : (log buffer : List ℕ) → log_length ≤ length log → length buffer ≡ log_length → length (take log_length log) ≡ length buffer
log_room log buffer h e = length-take-le log_length log h ∙ sym e

steps_fault : (count : ℕ) (o : ColumnOrder) (rest : List ℕ) (n line : ℕ)
    → walk (judge_line count) (knowing (order_of o) []) 2 (lines_of rest) ≡ faulty n line
    → steps_read count (order_of o) rest ≡ faulty n line
unfolding steps_read
steps_fault count o rest n line e = ap conclude e

steps_none : (count : ℕ) (o : ColumnOrder) (rest : List ℕ) (xs : List Step)
    → walk (judge_line count) (knowing (order_of o) []) 2 (lines_of rest) ≡ accepted (knowing (order_of o) xs)
    → length xs ≡ 0 → steps_read count (order_of o) rest ≡ faulty 26 1
unfolding steps_read
steps_none count o rest xs e z = ap conclude e ∙ rw (eq-eqb (length xs) 0 z)

steps_all : (count : ℕ) (o : ColumnOrder) (rest : List ℕ) (xs : List Step)
    → walk (judge_line count) (knowing (order_of o) []) 2 (lines_of rest) ≡ accepted (knowing (order_of o) xs)
    → (length xs ≡ 0 → ⊥) → steps_read count (order_of o) rest ≡ accepted (knowing (order_of o) xs)
unfolding steps_read
steps_all count o rest xs e z = ap conclude e ∙ rw (ne_eqb (length xs) 0 z)

-- ---- the loop

module _ (text : List ℕ) (start count : ℕ) (o : ColumnOrder) (at v edges : ℕ) (buffer : List ℕ)
    (g : Reading text start count o at v edges buffer) where
  abbrev all : Outcome Known
  all = walk (judge_line count) (knowing (order_of o) []) 2 (lines_of (drop start text))

  -- ---- after the last line

  module _ (end : length text ≤ at) where
    ended : all ≡ accepted (knowing (order_of o) g.known)
    ended = text_end (judge_line count) (knowing (order_of o) g.known) (v + 2) text at all g.ahead end

    pub none_answered : v ≡ 0 → refused_at 26 1 ≡ answer_of (steps_read count (order_of o) (drop start text))
    none_answered z = sym (ap answer_of (steps_none count o (drop start text) g.known ended (g.counted ∙ z)))

    pub none_filled : v ≡ 0 → (log : List ℕ) → log ≡ filled_by (steps_read count (order_of o) (drop start text)) log
    none_filled z log = sym (ap (λ (k : Outcome Known). filled_by k log) (steps_none count o (drop start text) g.known ended (g.counted ∙ z)))

    pub all_answered : (v ≡ 0 → ⊥) → accepted_with v ≡ answer_of (steps_read count (order_of o) (drop start text))
    all_answered z =
        ap accepted_with (sym g.counted) ∙ sym
        (ap answer_of (steps_all count o (drop start text) g.known ended (λ e. z (sym g.counted ∙ e))))

    pub all_filled : (v ≡ 0 → ⊥) → (log front : List ℕ) → front ≡ buffer → front ++ drop log_length log ≡ filled_by (steps_read count (order_of o) (drop start text)) log
    all_filled z log front e =
        ap (λ (b : List ℕ). b ++ drop log_length log) (e ∙ g.stored)
        ∙ sym (ap (λ (k : Outcome Known). filled_by k log) (steps_all count o (drop start text) g.known ended (λ e. z (sym g.counted ∙ e))))

  -- ---- a line

  module _ (b : Result ℕ Refusal) (given : b ≡ whole_or Malformed (line_of most_line (take (length text - at) (drop at text))))
      (r : Result ℕ (Fault Refusal)) (said : r ≡ in_line (v + 2) b) where
    module _ (h : at < length text) (f : Fault Refusal) (p : r ≡ Err f) where
      broken : all ≡ faulty (refusal_number f.refusal) f.line
      broken =
          line_broken (log_format count) refusal_number Malformed refl (knowing (order_of o) g.known) (v + 2) text at all g.ahead b given r said h f p

      pub broken_answered : refused_at (refusal_number f.refusal) f.line ≡ answer_of (steps_read count (order_of o) (drop start text))
      broken_answered = sym (ap answer_of (steps_fault count o (drop start text) (refusal_number f.refusal) f.line broken))

      pub broken_filled : (log : List ℕ) → log ≡ filled_by (steps_read count (order_of o) (drop start text)) log
      broken_filled log = sym (ap (λ (k : Outcome Known). filled_by k log) (steps_fault count o (drop start text) (refusal_number f.refusal) f.line broken))

    module _ (e : ℕ) (p : r ≡ Ok e) (a : Result (StepValues × Links) Refusal) (new : List ℕ) (m : ℕ) (same : m ≡ count)
        (added : LineAdded m v edges (order_of o) (split 32 (take (at + e - at) (drop at text))) buffer a new) where
      d : LineAdded count v edges (order_of o) (split 32 (take (at + e - at) (drop at text))) buffer a new
      d = subst (λ (k : ℕ). LineAdded k v edges (order_of o) (split 32 (take (at + e - at) (drop at text))) buffer a new) same added

      judged : judge_fields (log_format count) (knowing (order_of o) g.known) (v + 2) (split 32 (take (at + e - at) (drop at text)))
          ≡ judge_step count (knowing (order_of o) g.known) (v + 2) (split 32 (take (at + e - at) (drop at text)))
      judged = below_judged (log_format count) (knowing (order_of o) g.known) (v + 2) (split 32 (take (at + e - at) (drop at text))) (omega arith)

      outcome : Added count v (order_of o) (split 32 (take (at + e - at) (drop at text))) g.known a new
      outcome = d.added g.known g.counted g.linked g.stored

      module _ (s : Result (StepValues × Links) (Fault Refusal)) (told : s ≡ in_line (v + 2) a) where
        module _ (f : Fault Refusal) (q : s ≡ Err f) where
          refusing : all ≡ faulty (refusal_number f.refusal) f.line
          refusing =
              line_refused (log_format count) refusal_number Malformed refl (knowing (order_of o) g.known) (v + 2) text at all g.ahead b given r said e p a s told
              (λ x y.
              judged
              ∙ subst (λ (b : Result (StepValues × Links) Refusal). Added count v (order_of o) (split 32 (take (at + e - at) (drop at text))) g.known b new) y
              outcome)
              f q

          pub refused_answered : refused_at (refusal_number f.refusal) f.line ≡ answer_of (steps_read count (order_of o) (drop start text))
          refused_answered =
              sym (ap answer_of (steps_fault count o (drop start text) (refusal_number f.refusal) f.line refusing))

          pub refused_filled : (log : List ℕ) → log ≡ filled_by (steps_read count (order_of o) (drop start text)) log
          refused_filled log = sym (ap (λ (k : Outcome Known). filled_by k log) (steps_fault count o (drop start text) (refusal_number f.refusal) f.line refusing))

        module _ (w : StepValues × Links) (is : s ≡ Ok w) where
          q : a ≡ Ok w
          q = lined_ok (v + 2) a w (sym told ∙ is)

          pub values_limits : InLimits w.1.count v edges
          values_limits = (subst (Limited v edges) q d.limits).1

          pub step_more : v + 1 ≤ most_steps
          step_more = let h = values_limits.step in omega arith

          pub links_more : edges + w.1.count ≤ most_links
          links_more = values_limits.all

          read_on : Reading text start count o (at + e + 1) (v + 1) (edges + w.1.count) new
          read_on = go (subst (λ (b : Result (StepValues × Links) Refusal). Added count v (order_of o) (split 32 (take (at + e - at) (drop at text))) g.known b new) q outcome)
            where
              go : Added count v (order_of o) (split 32 (take (at + e - at) (drop at text))) g.known (Ok w) new
                  → Reading text start count o (at + e + 1) (v + 1) (edges + w.1.count) new
              go (us, size, passes, stored) =
                  let x : Step = record { board = w.0.board; labels = w.0.labels; preds = us } in
                  let n : v + 2 + 1 ≡ v + 1 + 2 = omega arith in
                  record {
                    known = g.known ++ (record { board = w.0.board; labels = w.0.labels; preds = us } ∷ []);
                    ahead =
                        line_passed (log_format count) refusal_number Malformed refl (knowing (order_of o) g.known) (v + 2) text at all g.ahead b given r said e p
                        (knowing (order_of o) (g.known ++ (record { board = w.0.board; labels = w.0.labels; preds = us } ∷ []))) (judged ∙ passes)
                        ∙ ap (λ (n : ℕ). walk (judge_line count) (knowing (order_of o) (g.known ++ (record { board = w.0.board; labels = w.0.labels; preds = us } ∷ []))) n
                        (lines_of (drop (at + e + 1) text))) n;
                    counted = length-append g.known (record { board = w.0.board; labels = w.0.labels; preds = us } ∷ [])
                        ∙ (let c = g.counted in omega arith);
                    linked = count_more g.known (record { board = w.0.board; labels = w.0.labels; preds = us }) ∙ (let c = g.linked in omega arith);
                    stored = stored;
                  }

          pub reading_more : (v' : ℕ) → v' ≡ v + 1 → (edges' : ℕ) → edges' ≡ edges + w.1.count → Reading text start count o (at + e + 1) v' edges' new
          reading_more v' p edges' q' = rw (p, q') read_on

pub ruleset reading_kit = (
  reading_none,
  log_room,
  none_answered,
  none_filled,
  all_answered,
  all_filled,
  values_limits,
  step_more,
  links_more,
  end_fits,
  next_fits,
  rest_falls,
)
