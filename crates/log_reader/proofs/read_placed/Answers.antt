use Rattle.log_line.specs.Format.{log_text}
use Rattle.log_reader.proofs.TextLaws.{placed_count}
use Rattle.log_reader.proofs.read_placed.Goals as goal

pub returns-in-Ok-clause-value : goal.returns-in-Ok-clause-value
returns-in-Ok-clause-value c =
    placed_count c.args.text.now (log_text c.args.labels c.args.text.now) c.read_text.result c.read_text.ensures.value c.in-Ok.count c.in-Ok.is _ c.accepted.ensures
