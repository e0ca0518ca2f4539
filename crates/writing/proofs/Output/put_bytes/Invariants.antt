use Rattle.std.proofs.Common.{take}
use Rattle.writing.specs.Put.{Adds}
use Rattle.writing.proofs.Output.put_bytes.Given as goal

abbrev pub invariant-loop-b : goal.invariant-loop-b
invariant-loop-b l = Adds (take l.b-index l.bytes) l.initial.self l.self
