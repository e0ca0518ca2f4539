use Rattle.std.proofs.Common.{◌+◌, ◌*◌, ◌≤◌, take}
use Rattle.writing.specs.Put.{Adds, listed}
use Rattle.writing.proofs.Output.put_listed.Given as goal

abbrev pub invariant-loop-n : goal.invariant-loop-n
invariant-loop-n l = (l.self.at ≤ l.initial.self.at + 6 * l.n-index) × Adds (listed l.separator (take l.n-index l.numbers)) l.initial.self l.self
