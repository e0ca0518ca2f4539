-- The places before the walk.
-- Assumes nothing.
use Prim.Native.Nat.{ℕ, suc, ◌+◌, ◌-◌, ◌*◌, ◌/◌, ◌%◌, ◌≤◌, ◌<◌}
use mathlib.Core.Path.{◌≡◌, refl, ap, ◌∙◌}
use mathlib.Core.Bool.{Bool, true, false}
use mathlib.Core.List.{List}
use native.Mathlib.Decide.{ℕ_discrete}
use native.Mathlib.Omega.{arith}
use borrow.Author.Tests.{lt-ltb, le-ltb}
use lib.ListN.{get_or}
use Rattle.lists.specs.inner.Filled.{Filled}
use Rattle.sets.specs.Sets.{member}
use Rattle.necklace.specs.Compute.{holds?}
use Rattle.necklace.proofs.RowMeaning.{prefixes_member}
use Rattle.layout.specs.Layout.{most_beads, most_steps}
use Rattle.log_buffer.specs.Meaning.{log_of, steps_in}
use Rattle.pattern_buffer.specs.Meaning.{beads_in, pattern_of}
use Rattle.pattern_buffer.proofs.Places.{passes_out}
use Rattle.rows.specs.Rows.{pivot_at}
use Rattle.prefix_phase.specs.Marked.{Tested, PrefixesMarked}
use Rattle.prefix_phase.proofs.MarkLaws.{lies, beads_few}
use Rattle.walk_places.specs.Walked.{pivot_of, first_place, sought, looked, Walked}
use Rattle.walk_places.proofs.WalkLaws.{looked_none, looked_rest}

-- ---- the places before the walk

module _ (beads n : ℕ) (sets : List ℕ) (i : ℕ) where
  pub place_whole : (b : Bool) → b ≡ member (beads - 1) (get_or sets (i % most_steps) 0) → b ≡ true → i / most_steps < beads → n ≡ first_place beads n sets i
  unfolding first_place
  place_whole b e y h = rw (lt-ltb (i / most_steps) beads h, ← e, y) refl

  pub place_fails : (b : Bool) → b ≡ member (beads - 1) (get_or sets (i % most_steps) 0) → b ≡ false → i / most_steps < beads → 0 ≡ first_place beads n sets i
  unfolding first_place
  place_fails b e y h = rw (lt-ltb (i / most_steps) beads h, ← e, y) refl

  pub place_last : beads ≤ i / most_steps → i % most_steps ≡ first_place beads n sets i
  unfolding first_place
  place_last h = rw (le-ltb (i / most_steps) beads h) refl

pub ruleset place_kit = (place_whole, place_fails, place_last)

module _ (pattern log labels : List ℕ) (t : Tested pattern log labels) where
  pub tested_some : (beads : ℕ) → beads ≡ get_or pattern 1 0 → 1 ≤ beads
  tested_some beads b = let s = (passes_out pattern t.pattern_passes).some_bead in omega arith

  pub tested_beads : (beads : ℕ) → beads ≡ get_or pattern 1 0 → beads ≤ most_beads
  tested_beads beads b = let f = beads_few pattern log labels t in omega arith

  pub tested_steps : (n : ℕ) → n ≡ get_or log 0 0 → n ≤ most_steps
  tested_steps n e = let f = (lies pattern log labels t).few in omega arith

-- nothing is looked at yet
pub walk_begun : (pattern log labels sets : List ℕ) (beads n : ℕ) (pivots : List ℕ) → Tested pattern log labels → PrefixesMarked (log_of log labels) (pattern_of pattern) (steps_in log) sets
    → beads ≡ get_or pattern 1 0 → n ≡ get_or log 0 0 → Filled (first_place beads n sets) (most_steps * beads + n) pivots
    → Walked (log_of log labels) (pattern_of pattern) n beads 0 0 0 pivots
unfolding first_place sought pattern_of
walk_begun pattern log labels sets beads n pivots t m eb en d = record { last = last; places = places }
  where
    f : n ≤ most_steps
    f = tested_steps pattern log labels t n en

    last : (v : ℕ) → v < n → get_or pivots (pivot_at (beads_in pattern) v) 0 ≡ v
    last v l =
        let g = f in
        let i : most_steps * beads_in pattern + v ≡ most_steps * beads + v = omega arith in
        let q : (most_steps * beads + v) / most_steps ≡ beads = omega arith in
        let r : (most_steps * beads + v) % most_steps ≡ v = omega arith in
        ap (λ (x : ℕ). get_or pivots x 0) i ∙ d.number (most_steps * beads + v) (omega arith) ∙ rw (q, r, le-ltb beads beads (omega arith)) refl

    none : (j v : ℕ) → j < beads → Dec (suc j ≡ beads) → looked n beads 0 0 0 j v ≡ 0
    none j v b (yes e) = looked_rest n beads 0 0 0 j v e (omega arith)
    none j v b (no e) = looked_none n beads 0 0 0 j v (omega arith)

    places : (j v : ℕ) → j < beads_in pattern → v < n → get_or pivots (pivot_at j v) 0 ≡ sought (log_of log labels) (pattern_of pattern) n j (looked n beads 0 0 0 j v) v
    places j v b l =
        let g = f in
        let s = tested_some pattern log labels t beads eb in
        let q : (most_steps * j + v) / most_steps ≡ j = omega arith in
        let r : (most_steps * j + v) % most_steps ≡ v = omega arith in
        let w : suc (beads - 1) ≡ beads_in pattern = omega arith in
        let whole : member (beads - 1) (get_or sets v 0) ≡ holds? (log_of log labels) (pattern_of pattern) (beads_in pattern) v =
        ap (member (beads - 1)) (m.marked v (omega arith)) ∙ prefixes_member (log_of log labels) (pattern_of pattern) v (beads - 1) (omega arith)
        ∙ ap (λ (k : ℕ). holds? (log_of log labels) (pattern_of pattern) k v) w in
        d.number (most_steps * j + v) (omega arith)
        ∙ rw (q, r, none j v (omega arith) (ℕ_discrete (suc j) beads), lt-ltb j beads (omega arith), le-ltb (pivot_of (log_of log labels) (pattern_of pattern) j v) 0 (omega arith), whole) refl

pub ruleset begin_kit = (tested_some, tested_beads, tested_steps, walk_begun)
