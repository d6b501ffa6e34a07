use Rattle.every_schedule.proofs.Bounded.{bounded}
use Rattle.every_schedule.proofs.Finished.{every_schedule}
use Rattle.every_schedule.proofs.OverLinks.{over_links}
use Rattle.every_schedule.proofs.Room.{has_room}
use Rattle.every_schedule.proofs.every_schedule.Goals as goal

pub returns-clause-schedules : goal.returns-clause-schedules
returns-clause-schedules g c plan m xs fit = every_schedule g.M.System.master g.M.System.device g.M.System.codec plan g.met.M.System.device_laws g.met.M.System.master_laws g.met.M.System.codec_laws m xs fit

pub returns-clause-room : goal.returns-clause-room
returns-clause-room g c plan m xs fit = has_room g.M.System.master g.M.System.device g.M.System.codec plan g.met.M.System.device_laws g.met.M.System.master_laws g.met.M.System.codec_laws m xs fit

pub returns-clause-bounded : goal.returns-clause-bounded
returns-clause-bounded g c plan m xs fit = bounded g.M.System.master g.M.System.device g.M.System.codec plan g.met.M.System.device_laws g.met.M.System.master_laws g.met.M.System.codec_laws m xs fit

pub returns-clause-over_links : goal.returns-clause-over_links
returns-clause-over_links g c plan m xs fit = over_links g.M.System.master g.M.System.device g.M.System.codec plan g.met.M.System.device_laws g.met.M.System.master_laws g.met.M.System.codec_laws m xs fit
