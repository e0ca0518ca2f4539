-- The step looked at is a starting step or not.
use borrow.Author.Rules.{rules}
use Rattle.starts.proofs.StartLaws.{looked_none, looked_yes, looked_no, starts_end}
use Rattle.starts.proofs.LaneLaws.{lanes_none, lane_given, lane_kept, lane_most, starts_full, apart_full, apart_end}
use Rattle.starts.proofs.choose.Goals as goal
use Rattle.starts.proofs.choose.Goals.{then-holds, else-holds}

pub loop-u-init : goal.loop-u-init
loop-u-init c = (search rules, search (rules, looked_none), search (rules, lanes_none))

pub loop-u-preserved : goal.loop-u-preserved
loop-u-preserved c =
    elim c.if-holds.branch [
      | then-holds w ↦ rw (w.first-is, w.until-is, w.lane-is) (
        lane_most _ _ _ w.lane_after-lane.ensures (search rules),
        looked_yes _ _ _ _ _ _ _ _ _ c.loop-u.invariant.1 (search rules) (search rules) (search rules) (search rules) c.prefix_at-holds.ensures c.give.ensures _ w.min-first.ensures,
        lane_given _ _ _ _ _ _ _ c.loop-u.invariant.2 (search rules) (search rules) c.give.ensures _ w.lane_after-lane.ensures,
      )
      | else-holds w ↦ rw (w.first-is, w.until-is, w.lane-is) (
        search rules,
        looked_no _ _ _ _ _ _ _ _ _ c.loop-u.invariant.1 (search rules) (search rules) (search rules) (search rules) c.prefix_at-holds.ensures c.give.ensures (search rules),
        search (rules, lane_kept),
      )
    ]

pub returns-then-lane-eq-MOST_LANES-clause-starts_of : goal.returns-then-lane-eq-MOST_LANES-clause-starts_of
returns-then-lane-eq-MOST_LANES-clause-starts_of c = search (rules, starts_full)

pub returns-then-lane-eq-MOST_LANES-clause-apart_if : goal.returns-then-lane-eq-MOST_LANES-clause-apart_if
returns-then-lane-eq-MOST_LANES-clause-apart_if c = search (rules, apart_full)

pub returns-clause-starts_of : goal.returns-clause-starts_of
returns-clause-starts_of c = search (rules, starts_end)

pub returns-clause-apart_if : goal.returns-clause-apart_if
returns-clause-apart_if c = search (rules, apart_end)
