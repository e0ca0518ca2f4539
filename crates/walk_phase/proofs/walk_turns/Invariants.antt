-- `walk_turns` goes through the turns.
use Rattle.walk_turn.specs.Turns.{Walking, turns_left}
use Rattle.walk_phase.proofs.walk_turns.Given as goal

abbrev pub invariant-loop-turn : goal.invariant-loop-turn
invariant-loop-turn l =
    Walking l.walk.case.course.pattern.now l.walk.case.course.log.numbers.now l.walk.case.course.log.labels.now l.n l.turn l.seeds l.found l.pivots

abbrev pub decreases-loop-turn : goal.decreases-loop-turn
decreases-loop-turn l = turns_left l.n l.turn
