use Rattle.std.proofs.Common.{◌<◌, length, sym, ap, ◌∙◌, subst}
use Rattle.world.specs.Worlds.{WorldValue}
use Rattle.world.proofs.Reaching.{ports-there}
use Rattle.world.proofs.world.World.device.Goals as goal

pub device-requires : goal.device-requires
device-requires g c =
    subst (λ n. c.args.port < n)
    (sym ((ports-there g.M.Master.model g.D.Device.model _ c.self.invariant).0
    ∙ ap (λ (w : WorldValue _ _). length w.start.ports) c.self.view_is)) c.requires
