-- The buffer that an accepted text gives passes the test.
use Prim.Native.Nat.{ℕ, ◌+◌, ◌-◌, ◌^◌, ◌≤◌, ◌<◌}
use mathlib.Core.Path.{◌≡◌, sym, ap, ◌∙◌, subst}
use mathlib.Core.Logic.{◌⊎◌, inl, inr}
use mathlib.Core.Bool.{true}
use mathlib.Core.List.{List}
use native.Mathlib.Nat.{lt_of_not-le}
use native.Mathlib.Omega.{arith}
use borrow.Author.Tests.{not-false}
use lib.Dec.{T}
use lib.ListN.{length, get_or, take, get_or-eq_default}
use lib.Seq.{get_or-take}
use Rattle.lists.specs.Places.{at}
use Rattle.sets.specs.Sets.{member, set_of}
use Rattle.sets.proofs.Truth.{false_no}
use Rattle.sets.proofs.Laws.{within_below, set_of_above, member-set_of}
use Rattle.layout.specs.Layout.{most_beads, most_states, most_labels, rule_at, states_at, accepting_at, next_at, pattern_length}
use Rattle.pattern_order.specs.StateLine.{StateLine}
use Rattle.pattern_store.specs.Next.{states_of, all_within}
use Rattle.pattern_store.specs.Format.{Known}
use Rattle.pattern_store.proofs.RowsLaws.{rule_absent}
use Rattle.pattern_store.specs.Buffer.{rule_of_bead, accepting_of, next_of, buffer_of}
use Rattle.pattern_buffer.specs.Meaning.{labels_in, beads_in}
use Rattle.pattern_buffer.proofs.Places.{Bead, bead_in, Unused, Next, next_in, Passes}
use Rattle.pattern_texts.proofs.Rows.{Found, found, missing, find}
use Rattle.pattern_texts.proofs.Told.{Told, told}
use Rattle.pattern_texts.proofs.NextSets.{within_out, single_out, not_ambiguous}
use Rattle.pattern_texts.proofs.Accepted.{Sound}
use Rattle.pattern_texts.proofs.Buffers.{rule_place, states_place, accepting_place, next_place}

-- ---- place by place

module _ (k : Known) (sound : Sound k) (b : List ℕ) (long : pattern_length ≤ length b) (gives : take pattern_length b ≡ buffer_of k) where
  abbrev rows : List StateLine
  rows = k.rows

  tells : Told k.labels rows sound.last
  tells = told sound.ordered

  place : (i : ℕ) → i < pattern_length → at b i ≡ at (buffer_of k) i
  place i h = sym (get_or-take pattern_length b i 0 h) ∙ ap (λ (l : List ℕ). at l i) gives

  labels_are : labels_in b ≡ k.labels
  labels_are = place 0 (omega arith)

  beads_are : beads_in b ≡ sound.last.bead
  beads_are = place 1 (omega arith) ∙ tells.count

  beads_most : sound.last.bead ≤ most_beads
  beads_most = let r = tells.filled sound.last.bead 0 (tells.some sound.last.bead sound.some_row (omega arith)) in
      let e = r.2 in let m = (tells.each r.0 r.1).fits.bead_most in omega arith

  module _ (j : ℕ) (h : j < most_beads) where
    rule_are : at b (rule_at j) ≡ rule_of_bead rows (j + 1)
    rule_are = place (rule_at j) (omega arith) ∙ rule_place k j h

    states_are : at b (states_at j) ≡ states_of rows (j + 1)
    states_are = place (states_at j) (omega arith) ∙ states_place k j h

    -- the final set has only states that rows speak of
    accepting_in : at b (accepting_at j) < 2 ^ at b (states_at j)
    accepting_in =
        rw (place (accepting_at j) (omega arith) ∙ accepting_place k j h, states_are)
        (within_below (states_of rows (j + 1)) (set_of most_states (accepting_of rows (j + 1))) (λ q t. go q t (find rows (j + 1) q)))
      where
        low : (q : ℕ) → T (member q (set_of most_states (accepting_of rows (j + 1)))) → q < most_states
        low q t = lt_of_not-le (λ g. set_of_above most_states (accepting_of rows (j + 1)) q g t)

        go : (q : ℕ) → T (member q (set_of most_states (accepting_of rows (j + 1)))) → Found rows (j + 1) q → q < states_of rows (j + 1)
        go q t (found r m e s x y) = let w = (tells.each r m).there in rw (← e, ← s) w
        go q t (missing f x y) =
            absurd (false_no (accepting_of rows (j + 1) q) x (subst T (member-set_of most_states (accepting_of rows (j + 1)) q (low q t)) t))

    bead_there : j < beads_in b → Bead b j
    bead_there l =
        let low : j + 1 ≤ sound.last.bead = (let z = beads_are in omega arith) in
        record {
          rule = rw rule_are (tells.rule_known (j + 1) (omega arith) low);
          turn = λ p e. turns p low e;
          some_state = rw states_are (tells.some (j + 1) (omega arith) low);
          states_most = rw states_are (tells.most (j + 1));
          accepting = accepting_in;
        }
      where
        turns : 0 < j → j + 1 ≤ sound.last.bead → at b (rule_at j) ≡ at b (rule_at (j - 1)) → ⊥
        turns p low e =
            let z : j - 1 + 1 ≡ j = omega arith in
            let before : at b (rule_at (j - 1)) ≡ rule_of_bead rows j =
            place (rule_at (j - 1)) (omega arith) ∙ rule_place k (j - 1) (omega arith) ∙ ap (rule_of_bead rows) z
            in
            tells.turns j p (omega arith) (sym before ∙ sym e ∙ rule_are)

    bead_unused : beads_in b ≤ j → Unused b j
    bead_unused l =
        let none : states_of rows (j + 1) ≡ 0 = tells.above (j + 1) (let z = beads_are in omega arith) in
        let zero_states : at b (states_at j) ≡ 0 = states_are ∙ none in
        let small : at b (accepting_at j) < 2 ^ 0 = rw zero_states at accepting_in in
        record { rule = rule_are ∙ rule_absent rows (j + 1) none; states = zero_states; accepting = omega arith }

    module _ (q a : ℕ) (hq : q < most_states) (ha : a < most_labels) where
      next_are : at b (next_at j q a) ≡ next_of rows (j + 1) q a
      next_are = place (next_at j q a) (omega arith) ∙ next_place k j q a h hq ha

      next_there : q < at b (states_at j) → a < labels_in b → Next b j q a
      next_there s l = go (find rows (j + 1) q)
        where
          go : Found rows (j + 1) q → Next b j q a
          go (missing f x y) =
              let r = tells.filled (j + 1) q (rw states_are at s) in
              absurd (f r.0 r.1 r.2 r.3)
          go (found r m e d x y) =
              let each = tells.each r m in
              let inside : a < length r.next = (let z = each.fits.labelled in let w = labels_are in omega arith) in
              let w : all_within (states_of rows r.bead) r.next ≡ true =
              not-false (all_within (states_of rows r.bead) r.next) (sound.next r m).0
              in
              let is : at b (next_at j q a) ≡ get_or r.next a 0 = next_are ∙ y a in
              let own : r.rule ≡ at b (rule_at j) = each.rule ∙ ap (rule_of_bead rows) e ∙ sym rule_are in
              record {
                inside = rw (is, states_are, ← e) (within_out (states_of rows r.bead) r.next w a inside);
                one = λ asked. rw is (single_out r.next (not_ambiguous r (sound.next r m).1 (rw own asked)) a inside);
              }

      next_unused : (at b (states_at j) ≤ q) ⊎ (labels_in b ≤ a) → at b (next_at j q a) ≡ 0
      next_unused o = next_are ∙ go (find rows (j + 1) q) o
        where
          go : Found rows (j + 1) q → (at b (states_at j) ≤ q) ⊎ (labels_in b ≤ a) → next_of rows (j + 1) q a ≡ 0
          go (missing f x y) o = y a
          go (found r m e d x y) (inl s) =
              let w = (tells.each r m).there in
              let v : r.state < states_of rows (j + 1) = rw e at w in
              let z = states_are in
              absurd (omega arith)
          go (found r m e d x y) (inr l) =
              y a ∙ get_or-eq_default r.next 0 {n = a} (let z = (tells.each r m).fits.labelled in let w = labels_are in omega arith)

  pub sound_passes : Passes b
  sound_passes =
      let l = labels_are in
      let n = beads_are in
      let s = sound.some_row in
      let m = beads_most in
      let low = sound.some_label in
      let high = sound.labels_most in
      record {
        long = long;
        some_label = omega arith;
        labels_most = omega arith;
        some_bead = omega arith;
        beads_most = omega arith;
        beads = λ j h. bead_in b j (bead_there j h) (bead_unused j h);
        nexts = λ j q a h hq ha. next_in b j q a (next_there j h q a hq ha) (next_unused j h q a hq ha);
      }
