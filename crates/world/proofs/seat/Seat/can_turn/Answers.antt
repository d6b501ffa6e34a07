use Rattle.std.proofs.Common.{◌∙◌}
use Rattle.world.proofs.Ready.{seat-ready}
use Rattle.world.proofs.seat.Seat.can_turn.Goals as goal

pub returns : goal.returns
returns g c =
    c.ready.ensures ∙ seat-ready g.D.Device.model c.self.inside.end _ _ c.self.invariant _ c.self.view_is
