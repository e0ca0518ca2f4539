use borrow.Author.Rules.{rules}
use Rattle.pattern.proofs.ReadingLaws.{pattern_kit, room_part, answer_refused}
use Rattle.pattern.proofs.read_pattern.Goals as goal

pub returns-in-Err-clause-pattern_after : goal.returns-in-Err-clause-pattern_after
returns-in-Err-clause-pattern_after c = search (rules, pattern_kit)

pub returns-in-Ok-clause-value : goal.returns-in-Ok-clause-value
returns-in-Ok-clause-value c = search (rules, pattern_kit)

pub returns-in-Ok-clause-pattern_after : goal.returns-in-Ok-clause-pattern_after
returns-in-Ok-clause-pattern_after c = search (rules, pattern_kit)

pub copy_from_slice-requires : goal.copy_from_slice-requires
copy_from_slice-requires c = room_part _ _ c.if-pattern-lt-PATTERN_LENGTH.false (search rules)

pub returns-in-Err-clause-value : goal.returns-in-Err-clause-value
returns-in-Err-clause-value c =
    answer_refused _ _ c.if-pattern-lt-PATTERN_LENGTH.false c.read_text.result c.read_text.new.buffer c.read_text.ensures c.in-Err.fault c.in-Err.is _ c.refuse.ensures
