use borrow.Author.Rules.{rules}
use Rattle.pattern_writer.proofs.HeaderLaws.{header_kit}
use Rattle.pattern_writer.proofs.header_fits.Goals as goal

pub returns-then-header-n : goal.returns-then-header-n
returns-then-header-n c = search (rules, header_kit)
