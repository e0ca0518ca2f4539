-- The reader's parts over the whole text: the conclusion, and the answer of the call.
-- Assumes nothing.
use mathlib.Core.Path.{◌≡◌, refl, sym, ap, ◌∙◌, subst}
use mathlib.Core.Bool.{Bool, true, false, cond}
use mathlib.Core.List.{List, [], ◌∷◌, ◌++◌}
use Prim.Native.Nat.{ℕ, ◌+◌, ◌≤◌, ◌<◌}
use native.Mathlib.Omega.{arith}
use borrow.Author.Tests.{eq-eqb, ne_eqb, eqb-true, eqb-false}
use borrow.Rule.Slice.PartMut.{put_mid}
use lib.Dec.{eqb}
use lib.ListN.{length, get_or, take, drop, set, replicate, length-replicate, get_or-replicate}
use lib.Seq.{length-take-le}
use Rattle.answer.specs.declared.Answer.{Answer}
use Rattle.answer.specs.Answers.{accepted_with, refused_at, refused_in}
use Rattle.std.specs.Prelude.{Result, Ok, Err}
use Rattle.text.specs.Walk.{Outcome, accepted, faulty, walk, read_text}
use Rattle.sets.specs.Sets.{set_of}
use Rattle.layout.specs.Layout.{pattern_length, states_at, accepting_at, sets_begin, most_states}
use Rattle.pattern_order.specs.StateLine.{StateLine}
use Rattle.pattern_store.specs.Next.{states_of}
use Rattle.pattern_store.specs.Format.{Known, judge_next, pattern_format, conclude, pattern_text}
use Rattle.pattern_store.specs.Buffer.{bead_count, rule_of_bead, accepting_of, next_of, buffer_of}
use Rattle.pattern_byte.specs.Byte.{pattern_byte}
use Rattle.pattern.specs.Answer.{refused_with, host_faults, answer_of, filled_by, pattern_answer, pattern_after}
use Rattle.answer.proofs.FaultLaws.{Passed, answer_refused as first_answer, answer_accepted as other_answer, room_kept, room_filled, first_below, stopped_below, passed_past, passed_all}
use Rattle.pattern_line.specs.Answers.{refusal_number}
use Rattle.pattern_late.specs.Late.{Bounded, late_faults, late_said}
use Rattle.pattern_walk.specs.Reading.{HeaderRead, FirstTold, FirstRead, LinesRead, RowsTold, RowsRead}
use Rattle.pattern.specs.inner.Reading.{text_said, counted, concluded, beads_of, TextRead}
use Rattle.pattern_line.specs.declared.refusals.Refusal.{Refusal}
use Rattle.text.specs.declared.faults.Fault.{Fault}
use Rattle.pattern_store.proofs.BufferLaws.{Holds, buffer_holds, holds_buffer}
use Rattle.pattern_late.proofs.SlotLaws.{outcome_as, late_rows, bounded}
use Rattle.pattern.proofs.AcceptedLaws.{Accepted, lines_accepted}

-- ---- the label count

-- A buffer that holds nothing takes it.
module _ (b : List ℕ) (e : b ≡ buffer_of (record { labels = 0; rows = [] })) where
  pub labels_place : 0 < length b
  labels_place = let n = ap length e ∙ (buffer_holds (record { labels = 0; rows = [] })).size in omega arith

  pub labels_stored : (labels : ℕ) → set b 0 labels ≡ buffer_of (record { labels = labels; rows = [] })
  labels_stored labels = ap (λ (l : List ℕ). set l 0 labels) e

pub ruleset begin_kit = (labels_place, labels_stored)

-- ---- the conclusion

pub beads_inside : (b : List ℕ) → Bounded b → 1 < length b
beads_inside b f = let n = f.size in omega arith

module _ (b : List ℕ) where
  pub conclude_none : get_or b 1 0 ≡ 0 → faulty 13 1 ≡ concluded b
  unfolding concluded
  conclude_none e = sym (rw (eq-eqb (get_or b 1 0) 0 e) refl)

  module _ (n : get_or b 1 0 ≡ 0 → ⊥) (a : Result (Unit {0}) (Fault Refusal)) (said : late_said a ≡ late_faults b) where
    late : concluded b ≡ counted (get_or b 1 0) (late_said a)
    unfolding concluded
    late = rw (ne_eqb (get_or b 1 0) 0 n) (ap (counted (get_or b 1 0)) (sym said))

    pub conclude_fault : (f : Fault Refusal) → a ≡ Err f → faulty (refusal_number f.refusal) f.line ≡ concluded b
    conclude_fault f p = sym (late ∙ ap (λ (x : Result (Unit {0}) (Fault Refusal)). counted (get_or b 1 0) (late_said x)) p)

    pub conclude_fine : (u : Unit {0}) → a ≡ Ok u → accepted (get_or b 1 0) ≡ concluded b
    conclude_fine u p = sym (late ∙ ap (λ (x : Result (Unit {0}) (Fault Refusal)). counted (get_or b 1 0) (late_said x)) p)

pub ruleset conclude_kit = (beads_inside, conclude_none, conclude_fault, conclude_fine)

-- ---- the text

beads_none : (rows : List StateLine) → length rows ≡ 0 → bead_count rows ≡ 0
unfolding bead_count
beads_none [] e = refl
beads_none (r ∷ rows) e = absurd (omega arith)

-- The faults of all rows, as the walk over them has it and as the buffer has it.
module _ (k : Known) (acc : Accepted k) (b : List ℕ) (h : Holds k b) where
  beads_some : (length k.rows ≡ 0 → ⊥) → bead_count k.rows ≡ 0 → ⊥
  beads_some n z = n (acc.sound.orderly.some (sym acc.sound.orderly.beads ∙ z))

  concluded_rows : beads_of (conclude (accepted k)) ≡ concluded b
  unfolding concluded outcome_as
  concluded_rows = go (eqb (length k.rows) 0) refl
    where
      late : (o : Outcome (Unit {0})) → beads_of (outcome_as k o) ≡ counted (bead_count k.rows) o
      late (accepted u) = refl
      late (faulty n l) = refl

      go : (t : Bool) → eqb (length k.rows) 0 ≡ t
          → beads_of (cond t (faulty 13 1) (walk (judge_next k.rows) k 2 k.rows)) ≡ cond (eqb (get_or b 1 0) 0) (faulty 13 1) (counted (get_or b 1 0) (late_faults b))
      go true e = sym (rw (eq-eqb (get_or b 1 0) 0 (h.beads ∙ beads_none k.rows (eqb-true (length k.rows) 0 e))) refl)
      go false e =
          let n = beads_some (eqb-false (length k.rows) 0 e) in
          ap beads_of (late_rows k b h acc.few acc.sound) ∙ late (late_faults b)
          ∙ sym (rw (ne_eqb (get_or b 1 0) 0 (λ z. n (sym h.beads ∙ z)), h.beads) refl)

  concluded_known : (t : Known) → conclude (accepted k) ≡ accepted t → k ≡ t
  unfolding outcome_as
  concluded_known t e = go (eqb (length k.rows) 0) e
    where
      late : (o : Outcome (Unit {0})) → outcome_as k o ≡ accepted t → k ≡ t
      late (accepted u) q = cc
      late (faulty n l) q = let w : ◌≡◌ {A = ℕ} 0 1 = cc in absurd (omega arith)

      go : (x : Bool) → cond x (faulty 13 1) (walk (judge_next k.rows) k 2 k.rows) ≡ accepted t → k ≡ t
      go true q = let w : ◌≡◌ {A = ℕ} 0 1 = cc in absurd (omega arith)
      go false q = late (late_faults b) (sym (late_rows k b h acc.few acc.sound) ∙ q)

-- A refusal before the end of the text stays.
refused_text : (text : List ℕ) (f : Fault Refusal) (b : List ℕ) → read_text pattern_format text ≡ faulty (refusal_number f.refusal) f.line → TextRead text (Err f) b
refused_text text f b e =
    record {
      said = sym (ap (λ (o : Outcome Known). beads_of (conclude o)) e);
      numbers = λ k q. never (sym (ap conclude e) ∙ q);
    }
  where
    never : {X : Type 0} {k : Known} → faulty (refusal_number f.refusal) f.line ≡ accepted k → X
    never q = let w : ◌≡◌ {A = ℕ} 0 1 = cc in absurd (omega arith)

module _ (text : List ℕ) where
  pub first_ends : (a : Result (ℕ × ℕ) (Fault Refusal)) → FirstRead text a → (f : Fault Refusal) → a ≡ Err f → (b : List ℕ) → TextRead text (Err f) b
  first_ends a d f p b = refused_text text f b (subst (FirstTold text) p d.told)

  pub first_goes : (a : Result (ℕ × ℕ) (Fault Refusal)) → FirstRead text a → (labels at : ℕ) → a ≡ Ok (labels, at) → HeaderRead text labels at
  first_goes a d labels at p = subst (FirstTold text) p d.told

  module _ (a : Result (Unit {0}) (Fault Refusal)) (b : List ℕ) (d : RowsRead text a b) where
    pub rows_end_text : (f : Fault Refusal) → a ≡ Err f → TextRead text (Err f) b
    rows_end_text f p = refused_text text f b (subst (λ (x : Result (Unit {0}) (Fault Refusal)). RowsTold text x b) p d.told)

    module _ (u : Unit {0}) (p : a ≡ Ok u) where
      all_read : LinesRead text b
      all_read = subst (λ (x : Result (Unit {0}) (Fault Refusal)). RowsTold text x b) p d.told

      read_known : Accepted all_read.known
      read_known = lines_accepted text all_read.known all_read.lines

      held : Holds all_read.known b
      held = subst (Holds all_read.known) (sym all_read.numbers) (buffer_holds all_read.known)

      pub rows_bounded : Bounded b
      rows_bounded = bounded all_read.known b held read_known.few read_known.sound

      pub text_concluded : (r : Result ℕ (Fault Refusal)) → text_said r ≡ concluded b → TextRead text r b
      text_concluded r e =
          record {
            said = e ∙ sym (ap (λ (o : Outcome Known). beads_of (conclude o)) all_read.lines ∙ concluded_rows all_read.known read_known b held);
            numbers = λ k q. all_read.numbers ∙ ap buffer_of (concluded_known all_read.known read_known b held k (sym (ap conclude all_read.lines) ∙ q));
          }

pub ruleset text_kit = (first_ends, first_goes, rows_end_text, rows_bounded, text_concluded)

-- ---- the call

-- A local array of zeros holds nothing.
pub zeros_hold : replicate pattern_length 0 ≡ buffer_of (record { labels = 0; rows = [] })
unfolding bead_count rule_of_bead states_of accepting_of next_of set_of
zeros_hold = holds_buffer (record { labels = 0; rows = [] }) (replicate pattern_length 0) (record {
  size = length-replicate {A = ℕ} pattern_length 0;
  labels = get_or-replicate {A = ℕ} pattern_length 0 0 0 (omega arith);
  beads = get_or-replicate {A = ℕ} pattern_length 1 0 0 (omega arith);
  rules = λ j h. get_or-replicate {A = ℕ} pattern_length (2 + j) 0 0 (omega arith);
  states = λ j h. get_or-replicate {A = ℕ} pattern_length (states_at j) 0 0 (omega arith);
  finals = λ j h. get_or-replicate {A = ℕ} pattern_length (accepting_at j) 0 0 (omega arith) ∙ none_final (j + 1);
  nexts = λ i h. get_or-replicate {A = ℕ} pattern_length (sets_begin + i) 0 0 (omega arith);
})
  where
    none_final : (b : ℕ) → 0 ≡ set_of most_states (accepting_of [] b)
    none_final b = refl

faulty_said : (o : Outcome Known) (n line : ℕ) → faulty n line ≡ beads_of o → o ≡ faulty n line
faulty_said (accepted k) n line e = let w : ◌≡◌ {A = ℕ} 0 1 = cc in absurd (omega arith)
faulty_said (faulty m l) n line e = let x : n ≡ m = cc in let y : line ≡ l = cc in rw (x, y) refl

accepted_said : (o : Outcome Known) (c : ℕ) → accepted c ≡ beads_of o → (k : Known) × (o ≡ accepted k) × (c ≡ bead_count k.rows)
accepted_said (accepted k) c e = (k, refl, cc)
accepted_said (faulty m l) c e = let w : ◌≡◌ {A = ℕ} 0 1 = cc in absurd (omega arith)

pub refuse_is : (text : List ℕ) (f : Fault Refusal) (n b : ℕ) (a : Answer) → n ≡ refusal_number f.refusal → b ≡ pattern_byte text n f.line → a ≡ refused_in n f.line b
    → a ≡ refused_with text (refusal_number f.refusal) f.line
refuse_is text f n b a m e q = q ∙ ap (refused_in n f.line) e ∙ ap (λ (k : ℕ). refused_with text k f.line) m

pub ruleset refuse_kit = (refuse_is)

pub room_part : (room b : List ℕ) → pattern_length ≤ length room → length b ≡ pattern_length → length (take pattern_length room) ≡ length b
room_part room b f e = length-take-le pattern_length room f ∙ sym e

module _ (text room : List ℕ) where
  module _ (short : length room < pattern_length) where
    pub answer_short : (a : Answer) → a ≡ refused_at 2 0 → a ≡ pattern_answer text room
    answer_short a e = first_answer (host_faults room) (refused_at 2 0) a (answer_of text (pattern_text text)) e (first_below (length room) pattern_length (refused_at 2 0) [] short)

    pub after_short : room ≡ pattern_after text room
    after_short = room_kept (host_faults room) room (filled_by (pattern_text text) room) (stopped_below (length room) pattern_length (refused_at 2 0) [] short)

  module _ (fits : pattern_length ≤ length room) (r : Result ℕ (Fault Refusal)) (b : List ℕ) (d : TextRead text r b) where
    passed : Passed (host_faults room)
    passed = passed_past (length room) pattern_length (refused_at 2 0) [] fits passed_all

    answer_long : pattern_answer text room ≡ answer_of text (pattern_text text)
    answer_long = sym (other_answer (host_faults room) (answer_of text (pattern_text text)) (answer_of text (pattern_text text)) passed refl)

    after_long : pattern_after text room ≡ filled_by (pattern_text text) room
    after_long = sym (room_filled (host_faults room) room (filled_by (pattern_text text) room) (filled_by (pattern_text text) room) passed refl)

    module _ (f : Fault Refusal) (p : r ≡ Err f) where
      fault : pattern_text text ≡ faulty (refusal_number f.refusal) f.line
      fault = faulty_said (pattern_text text) (refusal_number f.refusal) f.line (sym (ap text_said p) ∙ d.said)

      pub answer_refused : (a : Answer) → a ≡ refused_with text (refusal_number f.refusal) f.line → a ≡ pattern_answer text room
      answer_refused a q = q ∙ sym (answer_long ∙ ap (answer_of text) fault)

      pub after_refused : room ≡ pattern_after text room
      after_refused = sym (after_long ∙ ap (λ (o : Outcome Known). filled_by o room) fault)

    module _ (c : ℕ) (p : r ≡ Ok c) where
      known : (k : Known) × (pattern_text text ≡ accepted k) × (c ≡ bead_count k.rows)
      known = accepted_said (pattern_text text) c (sym (ap text_said p) ∙ d.said)

      pub answer_accepted : (a : Answer) → a ≡ accepted_with c → a ≡ pattern_answer text room
      answer_accepted a q = q ∙ ap accepted_with known.2 ∙ sym (answer_long ∙ ap (answer_of text) known.1)

      numbers_are : b ≡ buffer_of known.0
      numbers_are = d.numbers known.0 known.1

      -- the copy, as the part of the room that it fills
      pub after_accepted : (part : List ℕ) → part ≡ b → put_mid 0 pattern_length room part ≡ pattern_after text room
      after_accepted part e =
          ap (λ (x : List ℕ). x ++ drop pattern_length room) (e ∙ numbers_are)
          ∙ sym (after_long ∙ ap (λ (o : Outcome Known). filled_by o room) known.1)

pub ruleset pattern_kit = (
  zeros_hold,
  answer_short,
  after_short,
  answer_refused,
  after_refused,
  answer_accepted,
  room_part,
  after_accepted,
)
