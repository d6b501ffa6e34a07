use Rattle.std.proofs.Common.{[], ap, ◌∙◌}
use Rattle.cos_memory.specs.MemLinks.{wire_of}
use Rattle.device_peer.specs.SpeakLaws.{honest-is}
use Rattle.device_turns.specs.Ends.{core_of}
use Rattle.device_peer.specs.Speaking.{spoken_by}
use Rattle.device_peer.proofs.peer.DevicePeer.link.Goals as goal

pub returns-in-Ok-clause-honest : goal.returns-in-Ok-clause-honest
returns-in-Ok-clause-honest g c =
    honest-is g.D.Device.model (core_of c.args.end)
    (wire_of (spoken_by g.D.Device.model c.make-in-Ok.result.peer) c.make-in-Ok.result.received.bytes)
    (c.make-in-Ok.ensures.told ∙ ap (λ o. wire_of o []) c.in-Ok.ensures.told)
