use Rattle.device_core.proofs.Wants.{want-sized}
use Rattle.device_core.proofs.device.DeviceCore.ask.Goals as goal

pub put_want-requires-clause-size : goal.put_want-requires-clause-size
put_want-requires-clause-size g c =
    let device = c.args.self.now.end.device in
    want-sized (g.D.Device.model.needs device) c.args.want
    (g.met.D.Device.lawful.want_is device c.args.want c.requires.wanted)
