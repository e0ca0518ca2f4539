use borrow.Author.Rules.{rules}
use Rattle.log_byte.proofs.ByteLaws.{byte_kit}
use Rattle.log_byte.proofs.byte_of.Goals as goal

pub overflow_cast-result : goal.overflow_cast-result
overflow_cast-result c = search (rules, byte_kit)
