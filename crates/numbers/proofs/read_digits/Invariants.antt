-- The loop keeps: the answer is that of the bytes left, after so many digits of this value.
use mathlib.Core.Path.{◌≡◌}
use Prim.Native.Nat.{◌≤◌, ◌<◌}
use lib.ListN.{length, drop}
use Rattle.layout.specs.Layout.{most_number}
use Rattle.numbers.specs.Numbers.{first_read}
use Rattle.numbers.proofs.NumberLaws.{Leads, read_from}
use Rattle.numbers.proofs.read_digits.Given as goal

abbrev pub invariant-loop-i : goal.invariant-loop-i
invariant-loop-i l = (l.i ≤ length l.bytes) × (l.value ≤ most_number) × (l.separator < 48) × Leads l.bytes l.i l.value × (first_read l.separator l.bytes ≡ read_from most_number l.separator l.i l.value (drop l.i l.bytes))
