-- Each field after it.
use Rattle.std.proofs.Common.{rules, ◌+◌}
use mathlib.Core.Path.{◌∙◌, refl}
use Rattle.std.proofs.lemmas.Iterator.Search.{any_from_yields_List}
use Rattle.std.proofs.lemmas.Iterator.{YieldsList-from_range}
use Rattle.fields.specs.Fields.{same_bytes}
use Rattle.pattern_line.specs.Line.{field_at}
use Rattle.pattern_header.proofs.HeaderLaws.{standing_again, none_again}
use Rattle.pattern_header.proofs.stands_again.Goals as goal

pub returns-then-index-len : goal.returns-then-index-len
returns-then-index-len c =
    any_from_yields_List (λ i. same_bytes (field_at c.args.fields.now.line.now c.args.index) (field_at c.args.fields.now.line.now i)) _ _ _ c.any.ensures.ran
    (YieldsList-from_range (c.args.index + 1) _ _ refl refl)
    (λ x b q k. search rules)
    ∙ standing_again _ _ _ _ _ c.len-then-index-len.ensures c.len.ensures c.if-index-len.true

pub returns-else-index-len : goal.returns-else-index-len
returns-else-index-len c = none_again _ _ _ _ c.len.ensures c.if-index-len.false
