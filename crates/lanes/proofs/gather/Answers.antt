-- The lanes of a listed step are added, or it has none.
use borrow.Author.Rules.{rules}
use Rattle.lanes.proofs.GatherLaws.{gather_none, link_kit as kit, gather_end}
use Rattle.lanes.proofs.gather.Goals as goal
use Rattle.lanes.proofs.gather.Goals.{then-first-w, else-first-w}

pub loop-link-init : goal.loop-link-init
loop-link-init c = search (rules, gather_none)

pub loop-link-preserved : goal.loop-link-preserved
loop-link-preserved c =
    elim c.if-first-w.branch [
      | then-first-w w ↦ rw w.here-is (search (rules, kit))
      | else-first-w w ↦ rw w.here-is (search (rules, kit))
    ]

pub returns : goal.returns
returns c = search (rules, gather_end)
