use Rattle.std.proofs.Common.{ap}
use Rattle.cos_parts.specs.declared.any_device.AnyDevice.{AnyDevice}
use Rattle.cos_parts.specs.declared.any_master.AnyMaster.{AnyMaster}
use Rattle.world.specs.Worlds.{Start}
use Rattle.cosim_local.proofs.Closing.{closed-each}
use Rattle.cosim_local.proofs.finished.run.Goals as goal

pub returns-in-Ok-clause-ports : goal.returns-in-Ok-clause-ports
returns-in-Ok-clause-ports c =
    closed-each c.close.result c.in-Ok.world c.args.planned.parts.config.ports _
    c.args.planned.parts.machine.devices.items c.close.ensures.closed
    (ap (λ (s : Start AnyMaster AnyDevice). s.ports) c.in-Ok.ensures.start) c.as_slice-ports.ensures c.requires.each
