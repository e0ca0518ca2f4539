-- `open_turn` finds the candidates at the first step of a turn.
use borrow.Author.Rules.{rules}
use Rattle.serving.proofs.ServingLaws.{lanes_all}
use Rattle.walk_turn.proofs.TurnLaws.{open_few, open_asked, open_going, open_bead, open_begin, open_done, open_made}
use Rattle.walk_turn.proofs.Walk.open_turn.Goals as goal

pub returns-in-Some : goal.returns-in-Some
returns-in-Some c = search (rules, open_going)

pub none_search-requires : goal.none_search-requires
none_search-requires c = (search (rules, open_bead), search (rules, open_begin), search (rules, open_few), search rules)

pub returns-then-none_search : goal.returns-then-none_search
returns-then-none_search c = search (rules, open_done)

pub pass_from-requires-clause-asked : goal.pass_from-requires-clause-asked
pass_from-requires-clause-asked c = search (rules, open_asked)

pub pass_from-requires-clause-lanes_for : goal.pass_from-requires-clause-lanes_for
pass_from-requires-clause-lanes_for c = search (rules, lanes_all)

pub returns : goal.returns
returns c = search (rules, open_made)
