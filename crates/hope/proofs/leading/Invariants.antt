-- `leading` gathers the states that lead into a set, each with its value.
use mathlib.Core.Path.{◌≡◌}
use Rattle.sets.specs.Sets.{set_of}
use Rattle.hope.specs.Hope.{leads_into}
use Rattle.hope.proofs.leading.Given as goal

abbrev pub invariant-loop-state : goal.invariant-loop-state
invariant-loop-state l = l.all ≡ set_of l.state (leads_into l.onwards l.set)
