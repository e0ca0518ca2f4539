-- Each field from the fifth on.
use Rattle.std.proofs.Common.{rules, ◌-◌}
use mathlib.Core.Path.{◌∙◌, refl, ap}
use Rattle.std.proofs.lemmas.Iterator.Search.{all_from_yields_List}
use Rattle.std.proofs.lemmas.Iterator.{YieldsList-from_range}
use Rattle.pattern_line.specs.Line.{field_at}
use Rattle.pattern_header.specs.Header.{is_name}
use Rattle.pattern_header.proofs.HeaderLaws.{named}
use Rattle.pattern_header.proofs.are_names.Goals as goal

pub returns : goal.returns
returns c =
    all_from_yields_List (λ i. is_name (field_at c.args.fields.now.line.now i)) _ _ _ c.all.ensures.ran (YieldsList-from_range 4 _ _ refl refl)
    (λ x b q k. search rules)
    ∙ named _ 4 _ (ap (λ n. n - 4) c.len.ensures)
