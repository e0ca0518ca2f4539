use borrow.Author.Rules.{rules}
use Rattle.pattern.proofs.ReadingLaws.{text_concluded}
use Rattle.pattern.proofs.reading.read_body.Goals as goal

pub returns : goal.returns
returns c =
    text_concluded c.args.text.now c.read_rows.result c.read_rows.new.buffer c.read_rows.ensures c.in_ok-read_rows.field-0 (search rules) c.conclude.result
    c.conclude.ensures
