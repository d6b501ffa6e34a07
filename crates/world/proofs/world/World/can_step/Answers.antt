use Rattle.std.proofs.Common.{◌∙◌, ap}
use Rattle.process_network.specs.Star.{star_effective}
use Rattle.cos_schedules.specs.Stars.{star_step}
use Rattle.world.specs.Stars.{star}
use Rattle.world.specs.Worlds.{WorldValue}
use Rattle.world.proofs.Reaching.{reached-answer}
use Rattle.world.proofs.world.World.can_step.Goals as goal

pub can_step-requires : goal.can_step-requires
can_step-requires g c =
    reached-answer g.M.Master.model g.D.Device.model g.met.D.Device.lawful g.met.M.Master.lawful _ c.self.invariant

pub returns : goal.returns
returns g c =
    c.can_step.ensures
    ∙ ap (λ (w : WorldValue g.row.M.Denot g.row.D.Denot). star_effective (star g.M.Master.model g.D.Device.model) w.now
    (star_step c.args.step)) c.self.view_is
