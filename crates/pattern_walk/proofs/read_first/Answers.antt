use borrow.Author.Rules.{rules}
use Rattle.text.proofs.FormatLaws.{first_in}
use Rattle.pattern_walk.proofs.LinesLaws.{header_refused, header_read, first_told}
use Rattle.pattern_walk.proofs.read_first.Goals as goal

pub slice_bounds-read_header-end : goal.slice_bounds-read_header-end
slice_bounds-read_header-end c =
    let h =
    first_in _ _ c.args.text.now c.whole_line.result c.whole_line.ensures c.in_line-2.result c.in_line-2.ensures c.in_ok-n.n c.in_ok-n.was in
    search (rules, h)

pub returns-in_err-count : goal.returns-in_err-count
returns-in_err-count c =
    first_told _ c.in_err-count.field-0.0 (
    header_refused c.args.text.now _ c.has_bad_size.ensures c.if-has_bad_size.false c.whole_line.result c.whole_line.ensures c.in_line-2.result c.in_line-2.ensures
    c.in_ok-n.n c.in_ok-n.was c.read_header.result c.read_header.ensures.value c.in_line-3.result c.in_line-3.ensures c.in_err-count.field-0.0 c.in_err-count.was
    ) _ (search rules)

pub returns : goal.returns
returns c =
    record {
      told =
          header_read c.args.text.now _ c.has_bad_size.ensures c.if-has_bad_size.false c.whole_line.result c.whole_line.ensures c.in_line-2.result c.in_line-2.ensures
          c.in_ok-n.n c.in_ok-n.was c.read_header.result c.read_header.ensures.value c.in_line-3.result c.in_line-3.ensures c.in_ok-count.count c.in_ok-count.was;
    }
