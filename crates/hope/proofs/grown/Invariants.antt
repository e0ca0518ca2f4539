-- `grown` keeps the first states from round to round, and stops where a round adds nothing.
use Rattle.hope.specs.Hope.{Has}
use Rattle.hope.proofs.grown.Given as goal

abbrev pub invariant-loop : goal.invariant-loop
invariant-loop l = Has l.first l.set
