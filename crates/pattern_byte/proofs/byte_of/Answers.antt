use borrow.Author.Rules.{rules}
use Rattle.pattern_byte.proofs.PlaceLaws.{byte_kit}
use Rattle.pattern_byte.proofs.byte_of.Goals as goal

pub overflow_cast-result : goal.overflow_cast-result
overflow_cast-result c = search (rules, byte_kit)
