-- The four tests in a row.
use Rattle.std.proofs.Common.{rules, get_or, []}
use mathlib.Core.Path.{◌∙◌, refl}
use Rattle.std.proofs.lemmas.Iterator.Search.{all_from_yields_List}
use Rattle.std.proofs.lemmas.Iterator.{YieldsList-from_range}
use Rattle.fields.specs.Fields.{same_bytes}
use Rattle.pattern_line.specs.Line.{field_at}
use Rattle.pattern_header.specs.Header.{columns}
use Rattle.pattern_header.proofs.HeaderLaws.{columns_by_field}
use Rattle.pattern_header.proofs.has_columns.Goals as goal

pub returns : goal.returns
returns c =
    all_from_yields_List (λ i. same_bytes (field_at c.args.fields.now.line.now i) (get_or columns i [])) _ _ _ c.all.ensures.ran (YieldsList-from_range 0 4 4 (cc) refl)
    (λ x b q k. search rules)
    ∙ columns_by_field _
