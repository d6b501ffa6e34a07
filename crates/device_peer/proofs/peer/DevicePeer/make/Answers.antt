use Rattle.device_peer.specs.SpeakLaws.{said-first}
use Rattle.device_peer.proofs.peer.DevicePeer.make.Goals as goal

pub invariant_of-result : goal.invariant_of-result
invariant_of-result g c =
    said-first g.D.Device.model c.args.end c.take_turns.new.end c.of-first.result.value c.make.result.bytes
    c.make-said.result.bytes c.take_turns.new.said.bytes c.of-first.ensures c.requires c.make.ensures.bytes
    c.make-said.ensures.bytes c.take_turns.ensures.runs c.in-Ok.ensures.all
