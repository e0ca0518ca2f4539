-- A row's line: it splits into the row's fields again, says the row, and how long it is.
use Prim.Native.Nat.{◌+◌, ◌^◌, ◌≤◌, ◌<◌}
use mathlib.Core.Path.{◌≡◌}
use mathlib.Core.Bool.{false}
use mathlib.Core.List.{◌∷◌, map}
use native.Mathlib.Omega.{arith}
use borrow.Author.Tests.{eq-eqb}
use lib.Dec.{T}
use lib.ListN.{length, length-map}
use Rattle.text.specs.Split.{joined}
use Rattle.numbers.specs.Numbers.{spell}
use Rattle.pattern_order.specs.StateLine.{StateLine}
use Rattle.pattern_row.specs.Fields.{row_of, malformed}
use Rattle.text.proofs.Spelled.{AllLack, AllPrintable, weight, length_joined}
use Rattle.numbers.proofs.SpelledNumbers.{spell_is_number, spell_value, spell_lacks, spell_printable, length_spell, Under, under_more, spells_lack, spells_printable, spells_numbers, spells_values, weight_spells}
use Rattle.pattern_texts.specs.Spelled.{fields_of, row_most}
use Rattle.rules.specs.Rules.{is_rule, word_of}
use Rattle.rules.proofs.RuleLaws.{word_again, word_printable, word_lacks, word_short}
use Rattle.layout.specs.Layout.{most_labels}

-- ---- a row's line

-- A row whose numbers are spelled shortly.
pub record Readable (r : StateLine) : Type 0 where
  pub bead : r.bead < 10
  pub rule : T (is_rule r.rule)
  pub state : r.state < 100
  pub accepting : r.accepting < 10
  pub next : Under 65536 r.next
  pub labels : length r.next ≤ most_labels

pub row_lacks : (r : StateLine) → AllLack 32 (fields_of r)
row_lacks r =
    let l : 32 < 48 = omega arith in (
      spell_lacks 32 r.bead l,
      (word_lacks 32 r.rule (omega arith), (spell_lacks 32 r.state l, (spell_lacks 32 r.accepting l, spells_lack 32 r.next l))),
    )

pub row_printable : (r : StateLine) → AllPrintable (fields_of r)
row_printable r = (
  spell_printable r.bead,
  (word_printable r.rule, (spell_printable r.state, (spell_printable r.accepting, spells_printable r.next))),
)

module _ (r : StateLine) (g : Readable r) where
  pub row_again : row_of (fields_of r) ≡ r
  row_again =
      rw (
        spell_value r.bead (let h = g.bead in omega arith),
        word_again r.rule g.rule,
        spell_value r.state (let h = g.state in omega arith),
        spell_value r.accepting (let h = g.accepting in omega arith),
        spells_values r.next g.next,
      )

  pub row_well : malformed (length r.next) (fields_of r) ≡ false
  row_well =
      let n = length-map r.next spell in
      simp (
        eq-eqb (length (fields_of r)) (4 + length r.next) (omega arith),
        spell_is_number r.bead (let h = g.bead in omega arith),
        spell_is_number r.state (let h = g.state in omega arith),
        spell_is_number r.accepting (let h = g.accepting in omega arith),
        spells_numbers r.next g.next,
      )

-- ---- how long a line is

-- A row's line without its newline.
pub length-row : (r : StateLine) → Readable r → length (joined 32 (fields_of r)) + 1 ≤ row_most
unfolding weight
length-row r g =
    let a = length_spell 0 r.bead (let h = g.bead in omega arith) in
    let b = word_short r.rule in
    let c = length_spell 1 r.state (let h = g.state in omega arith) in
    let d = length_spell 0 r.accepting (let h = g.accepting in omega arith) in
    let w = weight_spells 4 r.next (under_more 65536 (10 ^ 5) r.next (omega arith) g.next) in
    let l = g.labels in
    let e = length_joined 32 (spell r.bead) (word_of r.rule ∷ (spell r.state ∷ (spell r.accepting ∷ map spell r.next))) in
    omega arith
