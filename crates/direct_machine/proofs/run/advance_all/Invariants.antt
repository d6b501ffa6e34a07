use Rattle.std.proofs.Common.{◌≡◌}
use Rattle.direct_machine.proofs.Lists.{changed}
use Rattle.direct_machine.proofs.run.advance_all.Given as goal

abbrev pub invariant-devices : goal.invariant-devices
invariant-devices g l = l.devices ≡ changed (λ s. g.D.Device.model.advance s l.tick) l.device-index l.fn.devices
