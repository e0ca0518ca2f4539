-- Each label before it.
use Rattle.std.proofs.Common.{rules, get_or, []}
use mathlib.Core.Path.{◌∙◌, refl}
use Rattle.std.proofs.lemmas.Iterator.Search.{any_from_yields_List}
use Rattle.std.proofs.lemmas.Iterator.{YieldsList-from_range}
use Rattle.text.specs.Split.{split}
use Rattle.fields.specs.Fields.{same_bytes}
use Rattle.pattern_header.proofs.HeaderLaws.{standing_before}
use Rattle.pattern_places.proofs.header.stands_before.Goals as goal

pub returns : goal.returns
returns c =
    any_from_yields_List (λ i. same_bytes (get_or (split 32 c.args.fields.now.line.now) c.args.index []) (get_or (split 32 c.args.fields.now.line.now) i [])) _ _ _ c.any.ensures.ran
    (YieldsList-from_range 4 _ _ refl refl)
    (λ x b q k. search rules)
    ∙ standing_before _ _ _ c.requires
