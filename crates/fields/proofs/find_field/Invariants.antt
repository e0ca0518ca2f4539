-- The loop keeps: the field looked for is that of the fields from the place on, with what is left of the index.
use Rattle.fields.specs.Fields.{field_of}
use Rattle.text.specs.Split.{split}
use lib.ListN.{length, drop}
use mathlib.Core.Path.{◌≡◌}
use Prim.Native.Nat.{◌≤◌, ◌-◌}
use Rattle.fields.proofs.FieldLaws.{part_from}
use Rattle.fields.proofs.find_field.Given as goal

abbrev pub invariant-loop-i : goal.invariant-loop-i
invariant-loop-i l = (l.at ≤ length l.line) × (l._i ≤ l.index) × (field_of l.separator l.line l.index ≡ part_from l.at (split l.separator (drop l.at l.line)) (l.index - l._i))
