use Rattle.process_network.proofs.StarTalk.{talk_ends}
use Rattle.process_network.proofs.talk_over_honest_links.Goals as goal

pub returns : goal.returns
returns g c hub leaves moves rest said honest k x talk turns h sent run stop fixed =
    talk_ends g.H.Hub.star g.met.H.Hub.monotone hub leaves moves rest said honest k x talk turns h sent run stop fixed
