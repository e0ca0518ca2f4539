-- The pass is of the bead at its place, from the starting steps.
use Rattle.serving.proofs.ServingLaws.{found_from, served_from}
use Rattle.serving.proofs.Course.pass_from.Goals as goal

pub returns-clause-found_from : goal.returns-clause-found_from
returns-clause-found_from c =
    found_from _ _ _ _ _ _ c.requires.asked _ c.steps.ensures _ _ c.choose-starts.ensures.starts_of _ _ c.bead.ensures _ c.pass.ensures _ c.choose-starts.ensures.apart_if c.requires.lanes_for

pub returns-clause-served_from : goal.returns-clause-served_from
returns-clause-served_from c =
    served_from _ _ _ _ _ _ c.requires.asked _ c.steps.ensures _ _ c.choose-starts.ensures.starts_of _ _ c.bead.ensures _ c.pass.ensures _ c.choose-starts.ensures.apart_if
