use Rattle.world.proofs.Reaching.{reached-sound, stepped-by}
use Rattle.world.proofs.world.World.step.Goals as goal

pub step-requires : goal.step-requires
step-requires g c =
    reached-sound g.M.Master.model g.D.Device.model g.met.D.Device.lawful g.met.M.Master.lawful _ c.self.invariant

pub invariant_of-self-2 : goal.invariant_of-self-2
invariant_of-self-2 g c =
    stepped-by g.M.Master.model g.D.Device.model _ _ _ _ _ _ _ c.in-Ok.ensures.ok c.count_if-self-inside.ensures c.self.invariant
