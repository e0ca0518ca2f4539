-- What both tests give: links that lie in order, and each bead of the pattern.
use Rattle.prefix_phase.proofs.MarkLaws.{all_beads}
use Rattle.results.proofs.JudgeLaws.{tested_laid}
use Rattle.results.proofs.fill_arrays.Goals as goal

pub new-log-requires-clause-laid : goal.new-log-requires-clause-laid
new-log-requires-clause-laid c = tested_laid _ _ _ c.requires.tested

pub fill_hopes-requires-clause-all_beads : goal.fill_hopes-requires-clause-all_beads
fill_hopes-requires-clause-all_beads c = all_beads _ _ _ c.requires.tested
