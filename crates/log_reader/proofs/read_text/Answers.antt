-- The size, the first line, the others.
use Rattle.std.proofs.Common.{ap, ◌∙◌, Err}
use borrow.Author.Rules.{rules}
use Rattle.log_walk.specs.Filled.{answered}
use Rattle.log_reader.proofs.TextLaws.{broken_answered, broken_filled, header_answered, header_filled, steps_answered, steps_filled}
use Rattle.log_reader.proofs.read_text.Goals as goal

pub returns-in_err-n-clause-value : goal.returns-in_err-n-clause-value
returns-in_err-n-clause-value c =
    ap answered {y = Err c.in_err-n.field-0.0} (search rules)
    ∙ broken_answered c.args.labels c.args.text.now _ c.has_bad_size.ensures c.if-has_bad_size.false
    c.whole_line.result c.whole_line.ensures c.in_line.result c.in_line.ensures
    c.in_err-n.field-0.0 c.in_err-n.was

pub returns-in_err-n-clause-log_after : goal.returns-in_err-n-clause-log_after
returns-in_err-n-clause-log_after c =
    broken_filled c.args.labels c.args.text.now _ c.has_bad_size.ensures c.if-has_bad_size.false
    c.whole_line.result c.whole_line.ensures c.in_line.result c.in_line.ensures
    c.in_err-n.field-0.0 c.in_err-n.was c.args.log.now

pub returns-in_err-order-clause-value : goal.returns-in_err-order-clause-value
returns-in_err-order-clause-value c =
    ap answered {y = Err c.in_err-order.field-0.0} (search rules)
    ∙ header_answered c.args.labels c.args.text.now _ c.has_bad_size.ensures c.if-has_bad_size.false
    c.whole_line.result c.whole_line.ensures c.in_line.result c.in_line.ensures
    c.in_ok-n.n c.in_ok-n.was c.read_header.result c.read_header.ensures c.in_line-2.result c.in_line-2.ensures
    c.in_err-order.field-0.0 c.in_err-order.was

pub returns-in_err-order-clause-log_after : goal.returns-in_err-order-clause-log_after
returns-in_err-order-clause-log_after c =
    header_filled c.args.labels c.args.text.now _ c.has_bad_size.ensures c.if-has_bad_size.false
    c.whole_line.result c.whole_line.ensures c.in_line.result c.in_line.ensures
    c.in_ok-n.n c.in_ok-n.was c.read_header.result c.read_header.ensures c.in_line-2.result c.in_line-2.ensures
    c.in_err-order.field-0.0 c.in_err-order.was c.args.log.now

pub returns-clause-value : goal.returns-clause-value
returns-clause-value c =
    steps_answered c.args.labels c.args.text.now _ c.has_bad_size.ensures c.if-has_bad_size.false
    c.whole_line.result c.whole_line.ensures c.in_line.result c.in_line.ensures
    c.in_ok-n.n c.in_ok-n.was c.read_header.result c.read_header.ensures c.in_line-2.result c.in_line-2.ensures
    c.in_ok-order.order c.in_ok-order.was _ c.read_steps.ensures.value

pub returns-clause-log_after : goal.returns-clause-log_after
returns-clause-log_after c =
    steps_filled c.args.labels c.args.text.now _ c.has_bad_size.ensures c.if-has_bad_size.false
    c.whole_line.result c.whole_line.ensures c.in_line.result c.in_line.ensures
    c.in_ok-n.n c.in_ok-n.was c.read_header.result c.read_header.ensures c.in_line-2.result c.in_line-2.ensures
    c.in_ok-order.order c.in_ok-order.was c.args.log.now c.read_steps.new.log c.read_steps.ensures.log_after
