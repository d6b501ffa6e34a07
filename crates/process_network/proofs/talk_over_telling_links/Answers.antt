use Rattle.process_network.proofs.HubTalk.{hub_talk_ends}
use Rattle.process_network.proofs.talk_over_telling_links.Goals as goal

pub returns : goal.returns
returns g c ports hub said telling ends bounded = hub_talk_ends g.H.Hub.star ports hub g.met.H.Hub.monotone said telling ends bounded
