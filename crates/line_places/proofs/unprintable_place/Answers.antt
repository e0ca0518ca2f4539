-- What `position` says of the bytes.
use Rattle.std.proofs.Common.{rules, not}
use borrow.Author.Tests.{tests}
use Rattle.std.proofs.lemmas.Iterator.{YieldsList-from_slice}
use Rattle.std.proofs.lemmas.Iterator.Search.{position_from_yields_List}
use Rattle.text.specs.Lines.{printable_byte}
use Rattle.line_places.proofs.PlaceLaws.{all_clean, bad_at}
use Rattle.line_places.proofs.unprintable_place.Goals as goal

pub returns-in_err-index : goal.returns-in_err-index
returns-in_err-index c =
    let p =
    position_from_yields_List (λ x. not (printable_byte x)) _ _ _ c.position.ensures.ran (YieldsList-from_slice c.args.bytes.now cc)
    (λ x b q k. search (rules, tests)) in
    search (rules, all_clean c.args.bytes.now _ p)

pub returns : goal.returns
returns c =
    let p =
    position_from_yields_List (λ x. not (printable_byte x)) _ _ _ c.position.ensures.ran (YieldsList-from_slice c.args.bytes.now cc)
    (λ x b q k. search (rules, tests)) in
    search (rules, bad_at c.args.bytes.now _ p)
