use Rattle.std.proofs.Common.{sym, ◌∙◌}
use Rattle.rp_packet.specs.Values.{value_of}
use Rattle.device_core.proofs.Settling.{hears-by}
use Rattle.device_core.proofs.device.DeviceCore.hear.Goals as goal

pub returns-clause-hears : goal.returns-clause-hears
returns-clause-hears g c =
    hears-by g.D.Device.model c.args.self.now.end (value_of c.args.packet.now) c.in-Ok.event c.take.new.self c.act.new.self
    c.settle.new.self c.args.out.now.bytes c.act.new.out.bytes c.settle.new.out.bytes
    c.take.ensures.end (sym c.in-Ok.is ∙ c.take.ensures.event) c.in-Ok-act.ensures.ok c.settle.ensures
