use Rattle.statuses.proofs.Taking.{put-rest, put-stopped}
use Rattle.statuses.proofs.lines.put_packet.Goals as goal

pub returns-in-Ok : goal.returns-in-Ok
returns-in-Ok g c = put-rest _ _ _ _ _ _ _ _ _ g.met.E.Sink.sound_tells c.in-Ok.ensures c.put_malformed.ensures

pub returns-in-Err : goal.returns-in-Err
returns-in-Err g c = put-stopped _ _ _ _ _ _ _ _ _ c.in-Err.ensures
