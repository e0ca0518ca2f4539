-- The text is as long over no places as in the room.
use Rattle.std.proofs.Common.{rules}
use Rattle.writing.proofs.PutLaws.{laid_some}
use Rattle.writing.proofs.lay.Goals as goal

pub returns : goal.returns
returns g c = λ text lays. laid_some _ _ _ _ _ (lays _ _ _ c.put-n.ensures) _ _ (lays _ _ _ c.put.ensures) (search rules)
