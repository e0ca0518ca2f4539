-- What the phases leave gives the rows and the count.
use Rattle.std.proofs.Common.{refl, rules}
use Rattle.layout.specs.Layout.{most_steps}
use Rattle.walk_places.proofs.PlaceLaws.{tested_some, tested_beads, tested_steps}
use Rattle.results.proofs.JudgeLaws.{sized, unmarked_zeros, count_judged, result_judged, pattern_there, log_there}
use Rattle.results.proofs.judge_tested.Goals as goal

pub fill_arrays-requires-clause-unmarked : goal.fill_arrays-requires-clause-unmarked
fill_arrays-requires-clause-unmarked c = unmarked_zeros most_steps

pub bounds-pattern-1 : goal.bounds-pattern-1
bounds-pattern-1 c = pattern_there _ _ _ c.requires.tested

pub bounds-log-0 : goal.bounds-log-0
bounds-log-0 c = log_there _ _ _ c.requires.tested

pub invariant_of-found : goal.invariant_of-found
invariant_of-found c =
    let t = c.requires.tested in
    record {
      beads_bound = (tested_some _ _ _ t _ refl, tested_beads _ _ _ t _ refl);
      steps_bound = tested_steps _ _ _ t _ (search rules);
      long = (search rules, search rules);
    }

pub returns-clause-value : goal.returns-clause-value
returns-clause-value c = count_judged _ _ _ _ _ (sized _ _ _ c.requires.tested _ c.from.result refl (search rules)) _ c.fill_arrays.ensures.marks _ c.count_whole.ensures

pub returns-clause-res_after : goal.returns-clause-res_after
returns-clause-res_after c =
    result_judged _ _ _ _ _ (sized _ _ _ c.requires.tested _ c.from.result refl (search rules)) _ c.fill_arrays.ensures.marks _ c.args.res.now _ c.fill_arrays.ensures.walked_back c.write_result.ensures
