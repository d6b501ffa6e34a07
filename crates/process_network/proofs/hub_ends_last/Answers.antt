use Rattle.process_network.proofs.CalmRuns.{halted_calm}
use Rattle.process_network.proofs.hub_ends_last.Goals as goal

pub returns : goal.returns
returns g c hub leaves moves rest cursors hub_last steps halted = halted_calm g.H.Hub.star g.met.H.Hub.monotone hub leaves moves rest cursors hub_last steps halted
