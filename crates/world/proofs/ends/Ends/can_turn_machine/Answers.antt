use Rattle.std.proofs.Common.{◌≡◌, ◌∙◌, true, false, sym}
use Rattle.world.proofs.Ready.{hub-done, hub-ready}
use Rattle.world.proofs.ends.Ends.can_turn_machine.Goals as goal

pub returns-then-is_done : goal.returns-then-is_done
returns-then-is_done g c =
    hub-done g.M.Master.model g.D.Device.model c.self.inside.machine c.self.inside.seats.items c.self.invariant _
    c.self.view_is (c.is_done.ensures.0 c.if-is_done.true)

pub returns : goal.returns
returns g c =
    c.ready.ensures
    ∙ hub-ready g.M.Master.model g.D.Device.model c.self.inside.machine c.self.inside.seats.items c.self.invariant _
    c.self.view_is c.requires (λ done. let both : true ≡ false = sym (c.is_done.ensures.1 done) ∙ c.if-is_done.false in cc (both))
