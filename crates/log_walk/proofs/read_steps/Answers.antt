use Rattle.std.proofs.Common.{ap, ◌∙◌, ◌+◌, Err}
use Rattle.log_walk.specs.Filled.{answered}
use Rattle.text.proofs.FormatLaws.{end_in, next_in}
use Rattle.log_walk.proofs.ReadLaws.{reading_kit, broken_answered, broken_filled, refused_answered, refused_filled, reading_more}
use borrow.Author.Rules.{rules}
use Rattle.log_walk.proofs.read_steps.Goals as goal

pub loop-at-init : goal.loop-at-init
loop-at-init c = search (rules, reading_kit)

pub slice_bounds-add_line-end : goal.slice_bounds-add_line-end
slice_bounds-add_line-end c =
    end_in _ _ c.args.text.now c.loop-at.at (c.loop-at.position.step + 2) c.whole_line.result c.whole_line.ensures c.in_line.result c.in_line.ensures c.in_ok-n.n c.in_ok-n.was

pub returns-in_err-n-clause-value : goal.returns-in_err-n-clause-value
returns-in_err-n-clause-value c =
    ap answered {y = Err c.in_err-n.field-0.0} (search rules)
    ∙ broken_answered c.args.text.now c.args.start c.args.labels c.args.order c.loop-at.at c.loop-at.position.step c.loop-at.position.links c.loop-at.buffer
    c.loop-at.invariant.5 c.whole_line.result c.whole_line.ensures c.in_line.result c.in_line.ensures
    c.loop-at-test.true c.in_err-n.field-0.0 c.in_err-n.was

pub returns-in_err-n-clause-log_after : goal.returns-in_err-n-clause-log_after
returns-in_err-n-clause-log_after c =
    broken_filled c.args.text.now c.args.start c.args.labels c.args.order c.loop-at.at c.loop-at.position.step c.loop-at.position.links c.loop-at.buffer
    c.loop-at.invariant.5 c.whole_line.result c.whole_line.ensures c.in_line.result c.in_line.ensures
    c.loop-at-test.true c.in_err-n.field-0.0 c.in_err-n.was c.args.log.now

pub returns-in_err-links-clause-value : goal.returns-in_err-links-clause-value
returns-in_err-links-clause-value c =
    ap answered {y = Err c.in_err-links.field-0.0} (search rules)
    ∙ refused_answered c.args.text.now c.args.start c.args.labels c.args.order c.loop-at.at c.loop-at.position.step c.loop-at.position.links c.loop-at.buffer
    c.loop-at.invariant.5 c.whole_line.result c.whole_line.ensures c.in_line.result c.in_line.ensures
    c.in_ok-n.n c.in_ok-n.was c.add_line-added.result c.add_line-added.new.buffer c.loop-at.position.labels c.loop-at.invariant.3
    c.add_line-added.ensures c.in_line-in-loop-at.result c.in_line-in-loop-at.ensures
    c.in_err-links.field-0.0 c.in_err-links.was

pub returns-in_err-links-clause-log_after : goal.returns-in_err-links-clause-log_after
returns-in_err-links-clause-log_after c =
    refused_filled c.args.text.now c.args.start c.args.labels c.args.order c.loop-at.at c.loop-at.position.step c.loop-at.position.links c.loop-at.buffer
    c.loop-at.invariant.5 c.whole_line.result c.whole_line.ensures c.in_line.result c.in_line.ensures
    c.in_ok-n.n c.in_ok-n.was c.add_line-added.result c.add_line-added.new.buffer c.loop-at.position.labels c.loop-at.invariant.3
    c.add_line-added.ensures c.in_line-in-loop-at.result c.in_line-in-loop-at.ensures
    c.in_err-links.field-0.0 c.in_err-links.was c.args.log.now

pub loop-at-preserved : goal.loop-at-preserved
loop-at-preserved c = (
  next_in _ _ c.args.text.now c.loop-at.at (c.loop-at.position.step + 2) c.whole_line.result c.whole_line.ensures c.in_line.result c.in_line.ensures c.in_ok-n.n c.in_ok-n.was,
  search (rules, reading_kit),
  search (rules, reading_kit),
  search (rules, reading_kit),
  search (rules, reading_kit),
  reading_more c.args.text.now c.args.start c.args.labels c.args.order c.loop-at.at c.loop-at.position.step c.loop-at.position.links c.loop-at.buffer
      c.loop-at.invariant.5 c.whole_line.result c.whole_line.ensures c.in_line.result c.in_line.ensures
      c.in_ok-n.n c.in_ok-n.was c.add_line-added.result c.add_line-added.new.buffer c.loop-at.position.labels c.loop-at.invariant.3
      c.add_line-added.ensures c.in_line-in-loop-at.result c.in_line-in-loop-at.ensures
      _ c.in_ok-links.was _ (search rules) _ (search rules),
)

pub returns-then-position-eq0-clause-value : goal.returns-then-position-eq0-clause-value
returns-then-position-eq0-clause-value c = search (rules, reading_kit)

pub returns-then-position-eq0-clause-log_after : goal.returns-then-position-eq0-clause-log_after
returns-then-position-eq0-clause-log_after c = search (rules, reading_kit)

pub copy_from_slice-requires : goal.copy_from_slice-requires
copy_from_slice-requires c = search (rules, reading_kit)

pub returns-clause-value : goal.returns-clause-value
returns-clause-value c = search (rules, reading_kit)

pub returns-clause-log_after : goal.returns-clause-log_after
returns-clause-log_after c = search (rules, reading_kit)
