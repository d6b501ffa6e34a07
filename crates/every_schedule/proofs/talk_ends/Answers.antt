use Rattle.every_schedule.proofs.Talks.{talks_end}
use Rattle.every_schedule.proofs.talk_ends.Goals as goal

pub returns : goal.returns
returns g c plan m ports said telling = talks_end g.M.System.master g.M.System.device g.M.System.codec plan ports g.met.M.System.codec_laws m said telling
