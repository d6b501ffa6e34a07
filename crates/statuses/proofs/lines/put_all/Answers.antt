use Rattle.statuses.proofs.Taking.{puts-line}
use Rattle.statuses.proofs.lines.put_all.Goals as goal

pub returns : goal.returns
returns g c = puts-line _ _ _ _ _ _ _ _ c.put_pieces-put.ensures
