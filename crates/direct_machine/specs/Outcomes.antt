-- What a run gives, and when it may begin.
use Rattle.std.specs.Prelude.{◌≡◌, ◌^◌, ◌<◌, ◌≤◌, List, length, All, None}
use Rattle.cosim_model.specs.declared.values.Plan.{Plan}
use Rattle.cosim_model.specs.Parts.{DeviceModel, MasterModel}
use Rattle.cosim_model.specs.Direct as model
use Rattle.direct_machine.specs.declared.outcome.Direct.{Direct}

-- A run gives what the direct machine of the definition holds at its end.
pub record Gives {M S : Type 0} (machine : model.Direct M S) (result : Direct M S) : Type 0 where
  pub master : result.master ≡ machine.master
  pub devices : result.devices ≡ machine.devices
  pub calls : result.calls.calls ≡ machine.calls
  pub ticks : result.ticks ≡ machine.tick

-- A master and devices that a run may begin with: at most 16 devices at tick 0, all that the master names, and nothing
-- issued.
pub record IsFresh {M S : Type 0} (k : MasterModel M) (d : DeviceModel S) (master : M) (devices : List S) : Type 0 where
  pub ports : length devices ≤ 16
  pub seen : All (λ (s : S). d.seen s ≡ 0) devices
  pub reach : k.reach master ≤ length devices
  pub issued : k.issued master ≡ None

-- A plan that a run may have.
pub record IsPlan (plan : Plan) : Type 0 where
  pub quantum : 0 < plan.quantum
  pub units : plan.units < 2 ^ 32
