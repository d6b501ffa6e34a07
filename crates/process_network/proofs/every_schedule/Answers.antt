use Rattle.process_network.proofs.OneResult.{every_schedule}
use Rattle.process_network.proofs.every_schedule.Goals as goal

pub returns : goal.returns
returns g c script nodes quiescent small = every_schedule g.S.Node.net g.met.S.Node.monotone script nodes quiescent small
