-- `union_over` gathers the sets, one after the other.
use mathlib.Core.Path.{◌≡◌}
use Rattle.sets.specs.Sets.{set_of}
use Rattle.layout.specs.Layout.{set_width}
use Rattle.entering.proofs.EnterLaws.{union_to}
use Rattle.entering.proofs.union_over.Given as goal

abbrev pub invariant-loop-i : goal.invariant-loop-i
invariant-loop-i l = l.all ≡ set_of set_width (union_to l.i l.set l.list l.from)
