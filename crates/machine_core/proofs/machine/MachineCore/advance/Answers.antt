use Rattle.std.proofs.Common.{refl}
use Rattle.machine_core.proofs.machine.MachineCore.advance.Goals as goal

pub returns-in_default : goal.returns-in_default
returns-in_default g c = record {
  advances = record { mid = c.args.self.now; worked = refl; acts = c.act.ensures.acts };
  clear = c.act.ensures.clear;
  few = c.act.ensures.few;
}
