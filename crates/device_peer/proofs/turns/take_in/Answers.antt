use Rattle.device_peer.specs.SpeakLaws.{takes-in}
use Rattle.device_peer.proofs.turns.take_in.Goals as goal

pub returns-in-Ok-take_turns : goal.returns-in-Ok-take_turns
returns-in-Ok-take_turns g c =
    takes-in g.D.Device.model c.args.end.now c.feed.new.self c.take_turns.new.end c.args.bytes.now c.args.heard.now.bytes
    c.push_all.new.self.bytes c.args.said.now.bytes c.take_turns.new.said.bytes c.in-Ok.ensures.ok c.in-Ok-feed.ensures.runs
    c.take_turns.ensures.runs c.in-Ok-take_turns.ensures.all
