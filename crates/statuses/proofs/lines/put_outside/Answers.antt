use Rattle.std.proofs.Common.{refl}
use Rattle.statuses.proofs.Taking.{put-line}
use Rattle.statuses.proofs.lines.put_outside.Goals as goal

pub returns-in-Files : goal.returns-in-Files
returns-in-Files g c = put-line _ _ _ _ _ _ _ _ (rw (c.in-Files.is) refl) c.put_one.ensures

pub returns-in-Out : goal.returns-in-Out
returns-in-Out g c = put-line _ _ _ _ _ _ _ _ (rw (c.in-Out.is) refl) c.put_one-in-Out.ensures

pub returns-in-Net : goal.returns-in-Net
returns-in-Net g c = put-line _ _ _ _ _ _ _ _ (rw (c.in-Net.is) refl) c.put_one-in-Net.ensures

pub returns-in-Link : goal.returns-in-Link
returns-in-Link g c = put-line _ _ _ _ _ _ _ _ (rw (c.in-Link.is) refl) c.put_two.ensures

pub returns-in-Spawner : goal.returns-in-Spawner
returns-in-Spawner g c = put-line _ _ _ _ _ _ _ _ (rw (c.in-Spawner.is) refl) c.put_one-in-Spawner.ensures
