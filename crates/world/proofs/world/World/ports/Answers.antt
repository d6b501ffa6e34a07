use Rattle.std.proofs.Common.{◌≡◌, length, sym, ap, ◌∙◌, arith}
use Rattle.world.specs.Worlds.{WorldValue}
use Rattle.world.proofs.Reaching.{ports-there}
use Rattle.world.proofs.world.World.ports.Goals as goal

pub overflow_cast-result : goal.overflow_cast-result
overflow_cast-result g c =
    let long = ports-there g.M.Master.model g.D.Device.model _ c.self.invariant in
    let few = c.self.invariant.fit.ports in
    let is = c.ports.ensures in
    omega (arith, long.0, few, is)

pub returns : goal.returns
returns g c =
    c.ports.ensures ∙ (ports-there g.M.Master.model g.D.Device.model _ c.self.invariant).0
    ∙ ap (λ (w : WorldValue _ _). length w.start.ports) c.self.view_is
