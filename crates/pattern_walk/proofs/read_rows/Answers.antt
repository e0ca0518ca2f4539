use borrow.Author.Rules.{rules}
use Rattle.text.proofs.FormatLaws.{end_in}
use Rattle.pattern_walk.proofs.LinesLaws.{rows_kit, rows_told, rows_broken, rows_refused}
use Rattle.pattern_walk.proofs.read_rows.Goals as goal

pub returns-in_err-n : goal.returns-in_err-n
returns-in_err-n c =
    rows_told _ c.in_err-n.field-0.0 (
    rows_broken _ _ _ _ _ _ c.loop-at.invariant c.whole_line.result c.whole_line.ensures c.in_line.result c.in_line.ensures c.loop-at-test.true
    c.in_err-n.field-0.0 c.in_err-n.was
    ) _ (search rules) _

pub slice_bounds-take_row-end : goal.slice_bounds-take_row-end
slice_bounds-take_row-end c =
    let h =
    end_in _ _ c.args.text.now c.loop-at.at c.loop-at.line c.whole_line.result c.whole_line.ensures c.in_line.result c.in_line.ensures c.in_ok-n.n c.in_ok-n.was in
    search (rules, h)

pub returns-in_err-values : goal.returns-in_err-values
returns-in_err-values c =
    rows_told _ c.in_err-values.field-0.0 (
    rows_refused _ _ _ _ _ _ c.loop-at.invariant c.whole_line.result c.whole_line.ensures c.in_line.result c.in_line.ensures c.in_ok-n.n c.in_ok-n.was
    c.take_row.result c.take_row.ensures.result_value c.in_line-in-loop-at.result c.in_line-in-loop-at.ensures c.in_err-values.field-0.0 c.in_err-values.was
    ) _ (search rules) _

pub returns : goal.returns
returns c = search (rules, rows_kit)
