use Rattle.std.proofs.Common.{refl}
use Rattle.statuses.specs.Lines.{cause_text}
use Rattle.statuses.proofs.Taking.{put-line, put-rest, put-stopped}
use Rattle.statuses.proofs.lines.put_malformed.Goals as goal

pub returns-in-Ok : goal.returns-in-Ok
returns-in-Ok g c = put-line _ _ _ _ _ _ _ _ (rw (c.format-start.ensures.text, c.format-place.ensures.text) refl) (put-rest _ _ _ _ _ _ _ _ _ g.met.E.Sink.sound_tells c.in-Ok.ensures c.put_cause.ensures)

pub returns-in-Err : goal.returns-in-Err
returns-in-Err g c = put-line _ _ _ _ _ _ _ _ (rw (c.format-start.ensures.text, c.format-place.ensures.text) refl) (put-stopped _ _ _ _ _ _ _ (cause_text c.args.fault.cause) _ c.in-Err.ensures)
