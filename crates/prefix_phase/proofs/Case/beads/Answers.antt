-- The pattern of a case has passed its test.
use Rattle.prefix_phase.proofs.MarkLaws.{pattern_there}
use Rattle.prefix_phase.proofs.Case.beads.Goals as goal

pub bounds-self-1 : goal.bounds-self-1
bounds-self-1 c = pattern_there _ _ _ c.args.self.now.tested
