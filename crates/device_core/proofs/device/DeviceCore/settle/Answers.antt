use Rattle.std.proofs.Common.{refl}
use Rattle.device_core.proofs.Settling.{settles-first, settles-on, settles-last}
use Rattle.device_core.proofs.device.DeviceCore.settle.Goals as goal

pub wants-init : goal.wants-init
wants-init g c = settles-first g.D.Device.model g.met.D.Device.lawful _ _ _ c.requires.greeted c.requires.calls c.requires.room

pub wants-preserved : goal.wants-preserved
wants-preserved g c =
    settles-on g.D.Device.model c.args.self.now.end c.args.out.now.bytes c.wants.self c.settle_one.new.self
    c.wants.out.bytes c.settle_one.new.out.bytes c.wants.out.spare c.settle_one.new.out.spare
    c.wants-test.ensures.settles c.wants.invariant (c.wants-test.ensures.left refl)
    (c.wants-test.ensures.calls refl) (c.wants-test.ensures.room refl) c.settle_one.ensures.greeted

pub returns : goal.returns
returns g c =
    settles-last g.D.Device.model c.args.self.now.end c.args.out.now.bytes c.wants.self c.settle_one.new.self
    c.wants.out.bytes c.settle_one.new.out.bytes c.wants.out.spare c.wants-test.ensures.settles c.wants.invariant
