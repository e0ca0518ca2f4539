-- `note` goes through the listed steps from the front.
use lib.ListN.{take}
use Rattle.log_links.specs.Links.{Noted}
use Rattle.log_links.proofs.note.Given as goal

abbrev pub invariant-loop-u : goal.invariant-loop-u
invariant-loop-u l = Noted (take l.u-index l.links) l.v l.initial.last l.last
