-- After the last bead all are marked.
use borrow.Author.Rules.{rules}
use Rattle.prefix_phase.proofs.MarkLaws.{all_marked}
use Rattle.prefix_phase.proofs.Case.mark_prefixes.Goals as goal

pub returns : goal.returns
returns c = all_marked _ _ _ c.args.self.now.tested _ _ _ c.beads-place-end.ensures (search rules) c.loop-place.invariant
