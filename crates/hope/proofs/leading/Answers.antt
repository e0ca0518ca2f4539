-- A state is added or passed over.
use borrow.Author.Rules.{rules}
use Rattle.hope.proofs.HopeLaws.{leading_kit as kit}
use Rattle.hope.proofs.leading.Goals as goal
use Rattle.hope.proofs.leading.Goals.{then-overlaps, else-overlaps}

pub loop-state-preserved : goal.loop-state-preserved
loop-state-preserved c =
    elim c.if-overlaps.branch [
      | then-overlaps w ↦ rw w.all-is (search (rules, kit))
      | else-overlaps w ↦ rw w.all-is (search (rules, kit))
    ]
