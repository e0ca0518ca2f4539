-- `all` over the part, from its end.
use Rattle.std.proofs.Common.{◌≡◌, ◌-◌, take, drop, rules, tests}
use Rattle.std.specs.Prelude.{reverse}
use Rattle.std.specs.List.{list_all}
use Rattle.std.proofs.lemmas.Iterator.Search.{all_from_yields_List}
use Rattle.std.proofs.lemmas.Iterator.Adapters.{YieldsList-from_rev_slice}
use Rattle.sets.specs.Sets.{member}
use Rattle.marking.proofs.AddLaws.{all_have}
use Rattle.marking.proofs.all_marked.Goals as goal

pub returns : goal.returns
returns c =
    let part = take (c.args.n - c.args.u) (drop c.args.u c.args.prefixes.now) in
    let e : c.all.result ≡ list_all (member c.args.bead) (reverse part) =
    all_from_yields_List (member c.args.bead) _ _ c.all.result c.all.ensures.ran (YieldsList-from_rev_slice part (search rules)) (λ x b q k. search (rules, tests)) in
    all_have _ _ _ _ _ e (search rules)
