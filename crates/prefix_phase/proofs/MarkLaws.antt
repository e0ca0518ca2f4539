-- A turn of the first phase, as the code makes it.
-- Assumes nothing.
use Prim.Native.Nat.{ℕ, zero, suc, ◌+◌, ◌*◌, ◌≤◌, ◌<◌}
use mathlib.Core.Path.{◌≡◌, refl, sym, ap, ◌∙◌, subst}
use mathlib.Core.Bool.{Bool, true}
use mathlib.Core.List.{List}
use native.Mathlib.Nat.{suc-mul}
use native.Mathlib.Numerals.{add-one}
use Rattle.std.proofs.Common.{add-zero}
use native.Mathlib.Omega.{arith}
use lib.Dec.{T}
use lib.ListN.{length, drop, length-drop}
use lib.Seq.{length-take-le}
use Rattle.layout.specs.Layout.{most_steps, labels_at, most_beads}
use Rattle.necklace.specs.Dag.{WellFormed}
use Rattle.necklace.specs.Compute.{holds?}
use Rattle.log_buffer.specs.Meaning.{log_of, steps_in}
use Rattle.log_buffer.proofs.Meaning.{log_well_formed}
use Rattle.pattern_buffer.specs.Meaning.{beads_in, labels_in, pattern_of}
use Rattle.pattern_buffer.specs.Valid.{is_pattern}
use Rattle.pattern_buffer.proofs.Places.{passes_out, states_fit}
use Rattle.pattern_buffer.proofs.Meaning.{pattern_well_formed}
use Rattle.log_links.specs.Links.{Laid}
use Rattle.log_links.proofs.LinkLaws.{laid}
use Rattle.entering.specs.Entering.{BeadIn}
use Rattle.hope.specs.Hope.{AllBeads}
use Rattle.passes.specs.Passes.{PassOf}
use Rattle.starts.specs.Starts.{prefix_at, Earlier}
use Rattle.marking.specs.Marking.{found_at, Added, AllMarked}
use Rattle.marking.proofs.AddLaws.{added_ext, added_all}
use Rattle.serving.specs.Serving.{Asked, serves_in, FoundIn}
use Rattle.prefix_phase.specs.Marked.{Tested, Unmarked, MarkedUpTo, TurnMade, PrefixesMarked}
use lib.Arith.{digits_lt}
use Rattle.prefix_phase.proofs.PrefixPhase.{marked_none, marked_turn, marked_all, marked_whole}

-- ---- what the tests give

module _ (pattern log labels : List ℕ) (t : Tested pattern log labels) where
  pub lies : Laid log
  lies = laid (labels_in pattern) log t.log_passes

  pub labels_long : most_steps ≤ length labels
  labels_long =
      let l = lies.long in
      let d = length-drop (labels_at 0) log in
      let e = ap length t.labels_are ∙ length-take-le most_steps (drop (labels_at 0) log) (omega arith) in
      omega arith

  pub pattern_there : 1 < length pattern
  pattern_there = let p = passes_out pattern t.pattern_passes in let l = p.long in omega arith

  pub beads_few : beads_in pattern ≤ most_beads
  beads_few = (passes_out pattern t.pattern_passes).beads_most

bead_in : (pattern : List ℕ) (j : ℕ) → T (is_pattern pattern) → j < beads_in pattern → BeadIn pattern j
bead_in pattern j t h =
    let p = passes_out pattern t in
    let m = p.beads_most in
    record { long = p.long; place = omega arith; states = states_fit pattern j (p.beads j (omega arith)) }

pub all_beads : (pattern log labels : List ℕ) → Tested pattern log labels → AllBeads pattern
all_beads pattern log labels t =
    let p = passes_out pattern t.pattern_passes in
    record { long = p.long; few = p.beads_most; beads = λ j h. bead_in pattern j t.pattern_passes h }

pub pass_of : (pattern log labels : List ℕ) → Tested pattern log labels → (k : ℕ) → k < beads_in pattern → PassOf pattern log labels k
unfolding pattern_of
pass_of pattern log labels t k h = record {
  bead = bead_in pattern k t.pattern_passes h;
  one_next = (pattern_well_formed pattern t.pattern_passes).one_next k h;
  laid = laid (labels_in pattern) log t.log_passes;
  well_formed = subst (λ (ls : List ℕ). WellFormed (labels_in pattern) (log_of log ls)) (sym t.labels_are) (log_well_formed (labels_in pattern) log t.log_passes);
}

-- ---- one turn

module _ (pattern log labels : List ℕ) (k from : ℕ) (prefixes : List ℕ) (ask : Asked pattern log labels (steps_in log) k from prefixes) (n : ℕ) (steps : n ≡ steps_in log) where
  -- where every later step has the bead nothing is left to look at
  pub made_all : (r : Bool) → AllMarked k from n prefixes r → r ≡ true → TurnMade pattern log labels (steps_in log) k from n prefixes prefixes
  made_all r a e = let b = ask.begin in
      record {
        some = omega arith;
        inside = omega arith;
        added = subst (λ (m : ℕ). Added (serves_in (log_of log labels) (pattern_of pattern) k from n) k from m prefixes prefixes) steps
            (added_all (serves_in (log_of log labels) (pattern_of pattern) k from n) k from n prefixes r a e);
      }

  pub made_found : (to : ℕ) (found new : List ℕ) → FoundIn pattern log labels (steps_in log) k from to found → Added (found_at found) k from n prefixes new
      → TurnMade pattern log labels (steps_in log) k from to prefixes new
  made_found to found new f a = record {
    some = f.some;
    inside = f.inside;
    added = added_ext (found_at found) (serves_in (log_of log labels) (pattern_of pattern) k from to) k from (steps_in log) prefixes new (λ v up l. f.served v l) (rw steps at a);
  }

pub ruleset made_kit = (made_all, made_found)

-- ---- the turns of a bead

module _ (pattern log labels : List ℕ) (t : Tested pattern log labels) (k : ℕ) (h : k < beads_in pattern) (from : ℕ) (prefixes : List ℕ)
    (m : MarkedUpTo (log_of log labels) (pattern_of pattern) (steps_in log) (k * steps_in log + from) prefixes) where
  bead_few : k < most_beads
  bead_few = let f = beads_few pattern log labels t in omega arith

  earlier_at : (j : ℕ) → j ≤ k → Earlier (log_of log labels) (pattern_of pattern) j (steps_in log) prefixes
  unfolding prefix_at holds?
  earlier_at zero g = record { holds = λ u l. refl }
  earlier_at (suc j) g = record {
    holds = λ u l.
        let q : j * steps_in log + u < k * steps_in log = digits_lt g l in
        marked_whole (log_of log labels) (pattern_of pattern) (steps_in log) prefixes (k * steps_in log + from) m j u (let b = bead_few in omega arith) l (omega arith);
  }

  pub turn_asked : from < steps_in log → Asked pattern log labels (steps_in log) k from prefixes
  turn_asked below = record {
    pass = pass_of pattern log labels t k h;
    bead = h;
    steps_are = refl;
    begin = below;
    earlier = earlier_at k (omega arith);
  }

  -- a turn's marks
  pub turn_marked : (to : ℕ) (new : List ℕ) → from < steps_in log → TurnMade pattern log labels (steps_in log) k from to prefixes new
      → MarkedUpTo (log_of log labels) (pattern_of pattern) (steps_in log) (k * steps_in log + to) new
  turn_marked to new below a =
      marked_turn (log_of log labels) (pattern_of pattern) (steps_in log) (k * steps_in log + from) prefixes new m k from to refl below a.some a.inside a.added

  -- all turns of the bead are made
  pub bead_marked : from ≤ steps_in log → steps_in log ≤ from → MarkedUpTo (log_of log labels) (pattern_of pattern) (steps_in log) ((k + 1) * steps_in log + 0) prefixes
  bead_marked low high =
      let e : k * steps_in log + from ≡ (k + 1) * steps_in log + 0 =
      let r : (k + 1) * steps_in log ≡ k * steps_in log + steps_in log = ap (λ (x : ℕ). x * steps_in log) (add-one k) ∙ suc-mul k (steps_in log) in omega arith in
      rw e at m

pub ruleset bead_kit = (turn_asked, turn_marked, bead_marked)

-- ---- all beads

module _ (pattern log labels : List ℕ) (t : Tested pattern log labels) (prefixes : List ℕ) where
  pub none_marked : Unmarked prefixes → MarkedUpTo (log_of log labels) (pattern_of pattern) (steps_in log) (0 * steps_in log + 0) prefixes
  none_marked u =
      let e : 0 ≡ 0 * steps_in log + 0 = omega arith in
      subst (λ (i : ℕ). MarkedUpTo (log_of log labels) (pattern_of pattern) (steps_in log) i prefixes) e
      (marked_none (log_of log labels) (pattern_of pattern) (steps_in log) prefixes u.none)

  pub all_marked : (beads k : ℕ) → beads ≡ beads_in pattern → k ≡ beads → MarkedUpTo (log_of log labels) (pattern_of pattern) (steps_in log) (k * steps_in log + 0) prefixes
      → PrefixesMarked (log_of log labels) (pattern_of pattern) (steps_in log) prefixes
  unfolding pattern_of
  all_marked beads k b e m = record {
    marked = λ v g.
        marked_all (log_of log labels) (pattern_of pattern) (steps_in log) (k * steps_in log + 0) prefixes (let f = beads_few pattern log labels t in omega arith)
        (let z : k ≡ beads_in pattern = omega arith in ap (λ (x : ℕ). x * steps_in log + 0) z ∙ add-zero (beads_in pattern * steps_in log)) m v g;
  }

pub ruleset all_kit = (none_marked, all_marked)
