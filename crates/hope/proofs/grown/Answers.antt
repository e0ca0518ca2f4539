-- The set of all states has each that leads into it.
use Rattle.hope.proofs.HopeLaws.{closed_all}
use Rattle.hope.proofs.grown.Goals as goal

pub returns : goal.returns
returns c = closed_all _ _
