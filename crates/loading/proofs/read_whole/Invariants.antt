use Rattle.std.proofs.Common.{◌≤◌, ◌-◌, length}
use Rattle.loading.proofs.read_whole.Given as goal

abbrev pub invariant-loop-bytes : goal.invariant-loop-bytes
invariant-loop-bytes g l = l.done ≤ length l.buf

abbrev pub decreases-loop-bytes : goal.decreases-loop-bytes
decreases-loop-bytes g l = length l.initial.buf - l.done
