-- `begin_turn` finds the candidates, and takes aim.
use Rattle.std.proofs.Common.{arith, rules}
use Rattle.walk_turn.proofs.TurnLaws.{begins, open_lasts}
use Rattle.walk_turn.proofs.Walk.begin_turn.Goals as goal

pub invariant_of-places : goal.invariant_of-places
invariant_of-places c =
    let t = c.requires.due.walking.turn_in c.requires.due.some in
    record { lasts_in = open_lasts _ _ _ _ _ _ _ _ c.requires.due; inside = (t.place, t.few, c.requires.in_bounds.0) }

pub take_aim-aim-requires : goal.take_aim-aim-requires
take_aim-aim-requires c =
    let t = c.requires.due.walking.turn_in c.requires.due.some in
    (search rules, c.requires.due.some, omega (arith, t.inside), search rules)

pub returns : goal.returns
returns c = search (rules, begins)
