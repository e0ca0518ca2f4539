-- Each refusal, and the judging, in document 01's order.
use Rattle.judging.proofs.CallLaws.{part_kit, part_counts, call_answer, call_result, call_work}
use borrow.Author.Rules.{rules}
use Rattle.judging.proofs.judge.Goals as goal

pub slice_bounds-judge_fit-end : goal.slice_bounds-judge_fit-end
slice_bounds-judge_fit-end c = search (rules, part_counts)

pub slice_bounds-judge_fit-end-2 : goal.slice_bounds-judge_fit-end-2
slice_bounds-judge_fit-end-2 c = search (rules, part_counts)

pub slice_bounds-judge_fit-end-4 : goal.slice_bounds-judge_fit-end-4
slice_bounds-judge_fit-end-4 c = search (rules, part_counts)

pub judge_fit-requires : goal.judge_fit-requires
judge_fit-requires c = (search (rules, part_kit), search (rules, part_kit), search rules, search (rules, part_kit))

pub returns-clause-value : goal.returns-clause-value
returns-clause-value c = search (rules, call_answer)

pub returns-clause-res_after : goal.returns-clause-res_after
returns-clause-res_after c = search call_result

pub returns-clause-work_after : goal.returns-clause-work_after
returns-clause-work_after c = search call_work
