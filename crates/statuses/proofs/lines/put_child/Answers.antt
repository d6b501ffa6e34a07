use Rattle.std.proofs.Common.{refl}
use Rattle.statuses.proofs.Taking.{put-line}
use Rattle.statuses.proofs.lines.put_child.Goals as goal

pub returns : goal.returns
returns g c = put-line _ _ _ _ _ _ _ _ (rw (c.format.ensures.text, c.format-2.ensures.text) refl) c.put_all.ensures
