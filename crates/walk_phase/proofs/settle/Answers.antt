-- What is aimed at lies inside the turn, and what is picked among its candidates.
use Rattle.std.proofs.Common.{arith, rules}
use Rattle.walk_phase.proofs.settle.Goals as goal

pub pick-picked-requires : goal.pick-picked-requires
pick-picked-requires c =
    let t = c.requires.turn_in.1 in
    let a = c.requires.aimed.some _ c.in-Some.is in
    (c.requires.turn_in.0, omega (arith, t.most, t.few), a.inside, search rules, search rules)

pub put_down-requires-clause-turn_in : goal.put_down-requires-clause-turn_in
put_down-requires-clause-turn_in c =
    let t = c.requires.turn_in.1 in
    let a = c.requires.aimed.some _ c.in-Some.is in
    (t.some, t.place, omega (arith, a.next.inside, t.few), search rules)

pub put_down-requires-clause-picked_bound : goal.put_down-requires-clause-picked_bound
put_down-requires-clause-picked_bound c u e =
    let t = c.requires.turn_in.1 in
    let f = c.pick-picked.ensures.some u e in
    omega (arith, f.high, t.most, t.few)

pub overflow_add-aim : goal.overflow_add-aim
overflow_add-aim c =
    let t = c.requires.turn_in.1 in
    let a = c.requires.aimed.some _ c.in-Some.is in
    omega (arith, a.next.inside, t.few)

pub next_turn-requires : goal.next_turn-requires
next_turn-requires c =
    let a = c.requires.aimed.some _ c.in-Some.is in
    (c.requires.turn_in.0, omega (arith, a.next.low), c.requires.turn_in.1)
