-- A whole text: its size, its first line, and the host's faults before all.
-- Assumes nothing.
use mathlib.Core.Path.{◌≡◌, refl, sym, ap, ◌∙◌}
use mathlib.Core.Bool.{Bool, true, false}
use mathlib.Core.List.{List, []}
use Prim.Native.Nat.{ℕ, ◌+◌}
use native.Mathlib.Omega.{arith}
use lib.ListN.{take, drop}
use Rattle.answer.specs.declared.Answer.{Answer}
use Rattle.answer.specs.Answers.{accepted_with, refused_at, refused_in}
use Rattle.text.specs.Split.{split}
use Rattle.text.specs.Lines.{line_of, whole_or}
use Rattle.text.specs.Walk.{Outcome, accepted, faulty, bad_size, read_text}
use Rattle.text.specs.declared.faults.Fault.{Fault}
use Rattle.text.specs.inner.Faults.{in_line}
use Rattle.std.specs.Prelude.{Result, Ok, Err}
use Rattle.text.proofs.FormatLaws.{size_bad, start_in, first_in, first_counts, first_broken, first_refused, first_passed}
use Rattle.log_line.specs.Format.{Known, judge_header, log_format, conclude, log_text}
use Rattle.log_line.specs.Answers.{refusal_number, order_of, header_says}
use Rattle.log_byte.specs.Byte.{log_byte}
use Rattle.log_reader.specs.Answer.{refused_with, text_answer}
use Rattle.log_walk.specs.Filled.{answered, answer_of, filled_by}
use Rattle.log_walk.specs.inner.Reading.{steps_read}
use Rattle.log_store.specs.inner.Stores.{knowing}
use Rattle.log_line.specs.declared.refusals.Refusal.{Refusal}
use Rattle.log_line.specs.declared.refusals.Refusal.TheVariants.{Size, Malformed, Header, Number, Links, Labels, Limit}
use Rattle.log_line.specs.declared.header.ColumnOrder.{ColumnOrder}
use Rattle.layout.specs.Layout.{most_log_text, most_line}

-- ---- what an outcome gives

module _ (count : ℕ) (text : List ℕ) (n line : ℕ) (e : read_text (log_format count) text ≡ faulty n line) where
  fault_answer : refused_at n line ≡ answer_of (log_text count text)
  fault_answer = sym (ap (λ (k : Outcome Known). answer_of (conclude k)) e)

  fault_fill : (log : List ℕ) → log ≡ filled_by (log_text count text) log
  fault_fill log = sym (ap (λ (k : Outcome Known). filled_by (conclude k) log) e)

-- ---- the size

module _ (count : ℕ) (text : List ℕ) (t : Bool) (size : t ≡ bad_size most_log_text text) where
  pub size_answered : t ≡ true → refused_at 20 0 ≡ answer_of (log_text count text)
  size_answered e = fault_answer count text 20 0 (size_bad (log_format count) text t size e)

  pub size_filled : t ≡ true → (log : List ℕ) → log ≡ filled_by (log_text count text) log
  size_filled e = fault_fill count text 20 0 (size_bad (log_format count) text t size e)

  -- ---- the first line

  module _ (right : t ≡ false) (b : Result ℕ Refusal) (given : b ≡ whole_or Malformed (line_of most_line text)) (r : Result ℕ (Fault Refusal))
      (said : r ≡ in_line 1 b) where
    module _ (f : Fault Refusal) (p : r ≡ Err f) where
      broken : read_text (log_format count) text ≡ faulty (refusal_number f.refusal) f.line
      broken = first_broken (log_format count) refusal_number Malformed refl text t size right b given r said f p

      pub broken_answered : refused_at (refusal_number f.refusal) f.line ≡ answer_of (log_text count text)
      broken_answered = fault_answer count text (refusal_number f.refusal) f.line broken

      pub broken_filled : (log : List ℕ) → log ≡ filled_by (log_text count text) log
      broken_filled = fault_fill count text (refusal_number f.refusal) f.line broken

    module _ (e : ℕ) (p : r ≡ Ok e) (a : Result ColumnOrder Refusal) (header : header_says a ≡ judge_header (split 32 (take e text)))
        (s : Result ColumnOrder (Fault Refusal)) (told : s ≡ in_line 1 a) where
      -- what is known after a header
      abbrev after : ColumnOrder → Known
      after c = knowing (order_of c) []

      module _ (f : Fault Refusal) (q : s ≡ Err f) where
        unordered : read_text (log_format count) text ≡ faulty (refusal_number f.refusal) f.line
        unordered = first_refused (log_format count) refusal_number Malformed refl text t size right b given r said e p after a header s told f q

        pub header_answered : refused_at (refusal_number f.refusal) f.line ≡ answer_of (log_text count text)
        header_answered = fault_answer count text (refusal_number f.refusal) f.line unordered

        pub header_filled : (log : List ℕ) → log ≡ filled_by (log_text count text) log
        header_filled = fault_fill count text (refusal_number f.refusal) f.line unordered

      module _ (o : ColumnOrder) (q : s ≡ Ok o) where
        below : log_text count text ≡ steps_read count (order_of o) (drop (e + 1) text)
        unfolding steps_read
        below =
            ap conclude
            (first_passed (log_format count) refusal_number Malformed refl text t size right b given r said e p after a header s told o q)

        pub steps_answered : (x : Answer) → x ≡ answer_of (steps_read count (order_of o) (drop (e + 1) text)) → x ≡ answer_of (log_text count text)
        steps_answered x y = y ∙ sym (ap answer_of below)

        pub steps_filled : (log exit : List ℕ) → exit ≡ filled_by (steps_read count (order_of o) (drop (e + 1) text)) log
            → exit ≡ filled_by (log_text count text) log
        steps_filled log exit y = y ∙ sym (ap (λ (k : Outcome Known). filled_by k log) below)

pub ruleset text_kit = (
  size_answered,
  size_filled,
  start_in,
  first_in,
  first_counts,
)

-- ---- a refusal with its byte

no_byte : (text : List ℕ) (m line : ℕ) → m ≡ 0 → log_byte text m line ≡ 0
unfolding log_byte
no_byte text m line z = rw z refl

module _ (text : List ℕ) (o : Outcome Known) (a : Result ℕ (Fault Refusal)) (said : answered a ≡ answer_of o) where
  pub placed_count : (n : ℕ) → a ≡ Ok n → (r : Answer) → r ≡ accepted_with n → r ≡ text_answer text o
  placed_count n q r w = w ∙ go o (ap answered (sym q) ∙ said)
    where
      go : (p : Outcome Known) → accepted_with n ≡ answer_of p → accepted_with n ≡ text_answer text p
      go (accepted k) e = e
      go (faulty number line) e =
          let z : number ≡ 0 = sym (ap (λ (x : Answer). x.number) e) in
          e ∙ sym (ap (refused_in number line) (no_byte text number line z))

  pub placed_at : (f : Fault Refusal) → a ≡ Err f → (r : Answer) → r ≡ refused_with text (refusal_number f.refusal) f.line → r ≡ text_answer text o
  placed_at f q r p = p ∙ go o (ap answered (sym q) ∙ said)
    where
      some : (x : Refusal) → refusal_number x ≡ 0 → ⊥
      some Size z = absurd (omega arith)
      some Malformed z = absurd (omega arith)
      some Header z = absurd (omega arith)
      some Number z = absurd (omega arith)
      some Links z = absurd (omega arith)
      some Labels z = absurd (omega arith)
      some Limit z = absurd (omega arith)

      go : (p : Outcome Known) → refused_at (refusal_number f.refusal) f.line ≡ answer_of p
          → refused_in (refusal_number f.refusal) f.line (log_byte text (refusal_number f.refusal) f.line) ≡ text_answer text p
      go (accepted k) e = absurd (some f.refusal (ap (λ (x : Answer). x.number) e))
      go (faulty number line) e = ap (λ (x : Answer). refused_in x.number x.line (log_byte text x.number x.line)) e

pub ruleset placed_kit = (placed_count, placed_at)
