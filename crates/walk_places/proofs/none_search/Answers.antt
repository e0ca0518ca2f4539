-- `all` over the places of a bead, from their end.
use Rattle.std.proofs.Common.{◌≡◌, ℕ, ◌+◌, ◌-◌, ◌*◌, not, eqb, take, drop, rules, tests}
use Rattle.std.specs.Prelude.{reverse}
use Rattle.std.specs.List.{list_all}
use Rattle.std.proofs.lemmas.Iterator.Search.{all_from_yields_List}
use Rattle.std.proofs.lemmas.Iterator.Adapters.{YieldsList-from_rev_slice}
use Rattle.layout.specs.Layout.{most_steps}
use Rattle.walk_places.proofs.SearchLaws.{none_have}
use Rattle.walk_places.proofs.none_search.Goals as goal

pub returns : goal.returns
returns c =
    let first = most_steps * c.args.k + c.args.from in
    let part = take (most_steps * c.args.k + c.args.n - first) (drop first c.args.pivots.now) in
    let e : c.all.result ≡ list_all (λ (x : ℕ). not (eqb x c.args.n)) (reverse part) =
    all_from_yields_List (λ (x : ℕ). not (eqb x c.args.n)) _ _ c.all.result c.all.ensures.ran (YieldsList-from_rev_slice part (search rules)) (λ x b q k. search (rules, tests)) in
    none_have _ _ _ _ _ e (search rules)
