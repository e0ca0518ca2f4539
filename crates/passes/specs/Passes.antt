-- What a pass in sixteen lanes finds out: which lanes reach which steps.
use Rattle.std.specs.Prelude.{ℕ, ◌<◌, ◌≡◌, List, get_or}
use Rattle.sets.specs.Sets.{set_of}
use Rattle.necklace.specs.Dag.{WellFormed}
use Rattle.necklace.specs.Automaton.{OneNext}
use Rattle.necklace.specs.Necklace.{ALL}
use Rattle.layout.specs.Layout.{most_lanes}
use Rattle.pattern_buffer.specs.Meaning.{labels_in, automaton_of, pattern_of}
use Rattle.log_buffer.specs.Meaning.{steps_in, log_of}
use Rattle.log_links.specs.Links.{Laid}
use Rattle.entering.specs.Entering.{BeadIn}
use Rattle.hope.specs.Hope.{HopefulSet}
use Rattle.pass_steps.specs.PassSteps.{lane_reaches}
use Rattle.pass_steps.specs.declared.Pass.{Pass}

-- What a pass relies on: a bead of the pattern, under ALL with exactly one next state everywhere, and a log that is well formed.
pub record PassOf (pattern log labels : List ℕ) (k : ℕ) : Type 0 where
  pub bead : BeadIn pattern k
  pub one_next : ((pattern_of pattern).bead k).modality ≡ ALL → OneNext (labels_in pattern) (automaton_of pattern k)
  pub laid : Laid log
  pub well_formed : WellFormed (labels_in pattern) (log_of log labels)

-- For each step the set of the lanes that reach it.
pub record Found (pattern log labels : List ℕ) (k : ℕ) (seeds : List ℕ) (first until : ℕ) (found : List ℕ) : Type 0 where
  pub lanes : (v : ℕ) → v < steps_in log → get_or found v 0 ≡ set_of most_lanes (lane_reaches pattern log labels k seeds first until v)

-- ---- the same, by what a pass is made of

abbrev pub PassFor : Pass → Type 0
PassFor pass = PassOf pass.bead.pattern.now pass.log.now pass.labels.now pass.bead.place

abbrev pub HopefulBy : Pass → Type 0
HopefulBy pass = HopefulSet pass.bead.pattern.now pass.bead.place pass.hopeful

abbrev pub FoundOf : Pass → List ℕ → Type 0
FoundOf pass found = Found pass.bead.pattern.now pass.log.now pass.labels.now pass.bead.place pass.seeds.now pass.first pass.until found
