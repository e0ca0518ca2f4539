-- Each field from the fifth on.
use Rattle.std.proofs.Common.{rules, not, ◌+◌, ◌-◌}
use mathlib.Core.Path.{◌∙◌, refl, ap}
use lib.ListN.{drop}
use Rattle.std.proofs.lemmas.Iterator.Search.{all_from_yields_List}
use Rattle.std.proofs.lemmas.Iterator.{YieldsList-from_range}
use Rattle.pattern_line.specs.Line.{fields_of, field_at}
use Rattle.pattern_header.specs.Header.{among}
use Rattle.pattern_header.proofs.HeaderLaws.{differing}
use Rattle.pattern_header.proofs.are_distinct.Goals as goal

pub returns : goal.returns
returns c =
    all_from_yields_List (λ i. not (among (field_at c.args.fields.now.line.now i) (drop (i + 1) (fields_of c.args.fields.now.line.now)))) _ _ _ c.all.ensures.ran
    (YieldsList-from_range 4 _ _ refl refl)
    (λ x b q k. search rules)
    ∙ differing _ 4 _ (ap (λ n. n - 4) c.len.ensures)
