use Rattle.process_network.proofs.StarTalk.{driven}
use Rattle.process_network.proofs.hub_over_honest_links.Goals as goal

pub returns : goal.returns
returns g c hub leaves moves rest said honest x turns h sent below hub_received run stop = driven g.H.Hub.star g.met.H.Hub.monotone hub leaves moves rest said honest x turns h sent below hub_received run stop
