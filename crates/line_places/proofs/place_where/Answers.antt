-- What `find` says of the indexes, whatever function the test computes.
use Rattle.std.proofs.Common.{arith, rules, tests}
use Rattle.std.proofs.lemmas.Iterator.{first_from_Range, serves_from_Range}
use Rattle.line_places.proofs.PlaceLaws.{where_found, where_none}
use Rattle.line_places.proofs.place_where.Goals as goal

pub find-requires-clause-callable : goal.find-requires-clause-callable
find-requires-clause-callable g c =
    serves_from_Range (λ x q k. search (rules, tests)) (λ x low high y e. let n = c.len.ensures in c.requires y.now (omega arith))

pub returns-in_err-index : goal.returns-in_err-index
returns-in_err-index g c = λ f computes.
    search (
      rules,
      where_none _ _ _ c.len.ensures f computes _ (first_from_Range _ _ _ _ _ _ c.find.ensures.ran (λ x q k. search rules) (λ x q k. (search rules, search rules))),
    )

pub returns : goal.returns
returns g c = λ f computes.
    where_found _ _ _ c.len.ensures f computes _ (first_from_Range _ _ _ _ _ _ c.find.ensures.ran (λ x q k. search rules) (λ x q k. (search rules, search rules)))
    _ (search rules) _ c.place_at.ensures
