-- A buffer passes the test of refusal 6 if and only if some accepted text gives it; and it means the pattern that the text's rows say.
use mathlib.Core.Path.{◌≡◌, sym, ap, ◌∙◌}
use mathlib.Core.Logic.{◌↔◌}
use mathlib.Core.List.{List}
use Prim.Native.Nat.{ℕ, ◌+◌, ◌≤◌, ◌<◌}
use native.Mathlib.Omega.{arith}
use lib.Dec.{T}
use lib.ListN.{length, take}
use lib.Seq.{get_or-take}
use Rattle.sets.specs.Sets.{member, members, set_of}
use Rattle.sets.proofs.Laws.{member-set_of}
use Rattle.necklace.specs.Necklace.{Pattern}
use Rattle.text.specs.Walk.{accepted}
use Rattle.layout.specs.Layout.{most_beads, most_states, most_labels, rule_at, states_at, accepting_at, next_at, pattern_length}
use Rattle.pattern_order.specs.StateLine.{StateLine}
use Rattle.pattern_store.specs.Next.{states_of}
use Rattle.pattern_store.specs.Format.{Known, pattern_text}
use Rattle.pattern_store.specs.Buffer.{bead_count, rule_of_bead, accepting_of, next_of, buffer_of}
use Rattle.lists.specs.Places.{at}
use Rattle.pattern_buffer.specs.Meaning.{labels_in, beads_in, modality_of, pattern_of}
use Rattle.pattern_buffer.specs.Valid.{is_pattern}
use Rattle.pattern_texts.specs.Given.{GivenPattern}
use Rattle.pattern_texts.specs.Spelled.{state_lines_of, text_of}
use Rattle.pattern_buffer.proofs.Places.{Passes, passes_out, passes_in, bead_there}
use Rattle.pattern_buffer.proofs.Meaning.{count_is, modality_is, states_is, accepting_is, next_is}
use Rattle.pattern_texts.proofs.Accepted.{text_out}
use Rattle.pattern_texts.proofs.Buffers.{rule_place, states_place, accepting_place, next_place}
use Rattle.pattern_texts.proofs.FromText.{sound_passes}
use Rattle.pattern_texts.proofs.FromBuffer.{gives_back}
use Rattle.pattern_texts.proofs.TextOf.{text_accepted}

-- The text spelled from a buffer that passes is accepted, with the buffer's label count and rows.
pub text_reads : (b : List ℕ) → T (is_pattern b) → pattern_text (text_of b) ≡ accepted (record { labels = labels_in b; rows = state_lines_of b })
text_reads b t = text_accepted b (passes_out b t)

-- And it gives the buffer.
pub text_gives : (b : List ℕ) → T (is_pattern b) → take pattern_length b ≡ buffer_of (record { labels = labels_in b; rows = state_lines_of b })
text_gives b t = gives_back b (passes_out b t)

pub pattern_buffers : (b : List ℕ) → T (is_pattern b) ↔ GivenPattern b
pattern_buffers b = (given, tested)
  where
    given : T (is_pattern b) → GivenPattern b
    given t = record {
      long = (passes_out b t).long;
      text = text_of b;
      known = record { labels = labels_in b; rows = state_lines_of b };
      reads = text_reads b t;
      gives = text_gives b t;
    }

    tested : GivenPattern b → T (is_pattern b)
    tested g = passes_in b (sound_passes g.known (text_out g.text g.known g.reads) b g.long g.gives)

-- A buffer that begins with what an accepted text gives means the pattern of the text's rows: as many beads, and for each its rule, its
-- states, which of them are final, and the next states of each under each label. Rows count beads from 1, a pattern from 0.
pub record Means (P : Pattern) (labels : ℕ) (rows : List StateLine) : Type 0 where
  pub count : P.count ≡ bead_count rows
  pub modality : (j : ℕ) → j < bead_count rows → (P.bead j).modality ≡ modality_of (rule_of_bead rows (j + 1))
  pub states : (j : ℕ) → j < bead_count rows → (P.bead j).automaton.states ≡ states_of rows (j + 1)
  pub accepting : (j q : ℕ) → j < bead_count rows → q < states_of rows (j + 1) → (P.bead j).automaton.accepting q ≡ accepting_of rows (j + 1) q
  pub next : (j q a : ℕ) → j < bead_count rows → q < states_of rows (j + 1) → a < labels
      → (P.bead j).automaton.next q a ≡ members most_states (next_of rows (j + 1) q a)

module _ (b text : List ℕ) (k : Known) (reads : pattern_text text ≡ accepted k) (long : pattern_length ≤ length b) (gives : take pattern_length b ≡ buffer_of k) where
  passes : Passes b
  passes = sound_passes k (text_out text k reads) b long gives

  place : (i : ℕ) → i < pattern_length → at b i ≡ at (buffer_of k) i
  place i h = sym (get_or-take pattern_length b i 0 h) ∙ ap (λ (l : List ℕ). at l i) gives

  beads_are : beads_in b ≡ bead_count k.rows
  beads_are = place 1 (omega arith)

  labels_most : k.labels ≤ most_labels
  labels_most = let e : labels_in b ≡ k.labels = place 0 (omega arith) in let m = passes.labels_most in omega arith

  module _ (j : ℕ) (h : j < bead_count k.rows) where
    bead_most : j < most_beads
    bead_most = let e = beads_are in let m = passes.beads_most in omega arith

    states_are : at b (states_at j) ≡ states_of k.rows (j + 1)
    states_are = place (states_at j) (let m = bead_most in omega arith) ∙ states_place k j bead_most

    states_most : states_of k.rows (j + 1) ≤ most_states
    states_most = let e = states_are in let m = (bead_there b passes j (let n = beads_are in omega arith)).states_most in omega arith

    rule_are : at b (rule_at j) ≡ rule_of_bead k.rows (j + 1)
    rule_are = place (rule_at j) (let m = bead_most in omega arith) ∙ rule_place k j bead_most

    accepting_are : at b (accepting_at j) ≡ set_of most_states (accepting_of k.rows (j + 1))
    accepting_are = place (accepting_at j) (let m = bead_most in omega arith) ∙ accepting_place k j bead_most

    module _ (q : ℕ) (s : q < states_of k.rows (j + 1)) where
      accepts : ((pattern_of b).bead j).automaton.accepting q ≡ accepting_of k.rows (j + 1) q
      accepts =
          accepting_is b j q ∙ ap (member q) accepting_are
          ∙ member-set_of most_states (accepting_of k.rows (j + 1)) q (let m = states_most in omega arith)

      nexts : (a : ℕ) → a < k.labels → ((pattern_of b).bead j).automaton.next q a ≡ members most_states (next_of k.rows (j + 1) q a)
      nexts a l =
          let m = bead_most in
          let n = states_most in
          let o = labels_most in
          next_is b j q a (omega arith) (omega arith) ∙ ap (members most_states) (place (next_at j q a) (omega arith) ∙ next_place k j q a m (omega arith) (omega arith))

  pub given_means : Means (pattern_of b) k.labels k.rows
  given_means = record {
    count = count_is b ∙ beads_are;
    modality = λ j h. modality_is b j ∙ ap modality_of (rule_are j h);
    states = λ j h. states_is b j ∙ states_are j h;
    accepting = λ j q h s. accepts j h q s;
    next = λ j q a h s l. nexts j h q s a l;
  }
