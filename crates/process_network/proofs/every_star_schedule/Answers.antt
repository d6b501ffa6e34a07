use Rattle.process_network.proofs.CalmRuns.{every_calm}
use Rattle.process_network.proofs.every_star_schedule.Goals as goal

pub returns : goal.returns
returns g c hub leaves moves rest = every_calm g.H.Hub.star g.met.H.Hub.monotone hub leaves moves rest
