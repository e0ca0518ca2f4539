-- One field more, and behind the last one.
use borrow.Author.Rules.{rules}
use Rattle.pattern_row.proofs.RowLaws.{sets_kit}
use Rattle.pattern_row.proofs.read_next.Goals.{then-is_none, else-is_none}
use Rattle.pattern_row.proofs.read_next.Goals as goal

pub loop-a-preserved : goal.loop-a-preserved
loop-a-preserved c = (
  search (rules, sets_kit),
  elim c.if-is_none.branch [
    | then-is_none w ↦ rw w.numbers-is (search (rules, sets_kit))
    | else-is_none w ↦ rw w.numbers-is (search (rules, sets_kit))
  ],
)

pub returns-clause-sets : goal.returns-clause-sets
returns-clause-sets c = search (rules, sets_kit)

pub returns-clause-numbers : goal.returns-clause-numbers
returns-clause-numbers c = search (rules, sets_kit)
