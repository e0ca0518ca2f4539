use borrow.Author.Rules.{rules}
use Rattle.pattern_late.proofs.LateLaws.{late_kit, late_pass}
use Rattle.pattern_late.proofs.find_late.Goals.{then-q-from+in_ok-in_line, else-q-from}
use Rattle.pattern_late.proofs.find_late.Goals as goal

pub loop-slot-preserved : goal.loop-slot-preserved
loop-slot-preserved c =
    elim c.if-q-from.branch [
      | then-q-from+in_ok-in_line w ↦
          rw w.line-is (
            search rules,
            late_pass _ _ _ c.loop-slot.invariant.1 (search rules) c.from.result (search rules) w.if-q-from.true w.judge_slot.result w.judge_slot.ensures
                w.in_line.result w.in_line.ensures w.in_ok-in_line.field-0 (search rules),
          )
      | else-q-from w ↦ rw w.line-is (search rules, search (rules, late_kit))
    ]
