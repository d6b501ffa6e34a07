use Rattle.std.proofs.Common.{subst}
use Rattle.world.specs.Worlds.{IsReached}
use Rattle.world.proofs.Reaching.{reached-way}
use Rattle.world.proofs.world.World.is_on_its_way.Goals as goal

pub returns-clause-way : goal.returns-clause-way
returns-clause-way g c =
    let k = g.M.Master.model in
    let d = g.D.Device.model in
    reached-way k d g.met.D.Device.lawful g.met.M.Master.lawful _ (subst (IsReached k d) c.self.view_is c.self.invariant)
