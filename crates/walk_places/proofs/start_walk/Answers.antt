-- The counts are those of buffers that passed their tests.
use borrow.Author.Rules.{rules}
use Rattle.walk_places.proofs.PlaceLaws.{tested_some, tested_beads, tested_steps}
use Rattle.walk_places.proofs.start_walk.Goals as goal

pub begin_walk-requires : goal.begin_walk-requires
begin_walk-requires c =
    let t = c.requires.tested in
    let n = c.requires.counts in
    (tested_some _ _ _ t _ n.0, tested_beads _ _ _ t _ n.0, tested_steps _ _ _ t _ n.1, search rules, search rules)
