-- The lanes of a state are brought on, or it has none.
use borrow.Author.Rules.{rules}
use Rattle.turning.proofs.EnterLaws.{kit}
use Rattle.turning.proofs.enter_all.Goals as goal
use Rattle.turning.proofs.enter_all.Goals.{then-lanes-ne0, else-lanes-ne0}

pub loop-state-init : goal.loop-state-init
loop-state-init c = search (rules, kit)

pub loop-state-preserved : goal.loop-state-preserved
loop-state-preserved c =
    elim c.if-lanes-ne0.branch [
      | then-lanes-ne0 w ↦ rw w.next-is (search (rules, kit))
      | else-lanes-ne0 w ↦ rw w.next-is (search (rules, kit))
    ]

pub returns : goal.returns
returns c = search (rules, kit)
