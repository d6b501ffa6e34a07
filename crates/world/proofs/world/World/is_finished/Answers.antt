use Rattle.std.proofs.Common.{sym, ap, ◌∙◌, subst}
use Rattle.world.specs.Stars.{Hub}
use Rattle.world.specs.Worlds.{IsReached, WorldValue}
use Rattle.world.proofs.Reaching.{reached-over}
use Rattle.world.proofs.world.World.is_finished.Goals as goal

pub returns-clause-over : goal.returns-clause-over
returns-clause-over g c done =
    let k = g.M.Master.model in
    let d = g.D.Device.model in
    reached-over k d g.met.D.Device.lawful g.met.M.Master.lawful _ (subst (IsReached k d) c.self.view_is c.self.invariant)
    (ap (λ (w : WorldValue _ _). w.now.hub.core.phase) (sym c.self.view_is)
    ∙ ap (λ (h : Hub _). h.core.phase) c.machine.ensures ∙ c.is_done.ensures.0 done)
