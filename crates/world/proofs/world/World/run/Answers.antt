use Rattle.std.proofs.Common.{sym, subst, Ok}
use Rattle.world.specs.Worlds.{IsRun, TakesOf}
use Rattle.world.proofs.Taking.{list-and-rounds}
use Rattle.world.proofs.world.World.run.Goals as goal

pub returns-in-Ok-clause-runs : goal.returns-in-Ok-clause-runs
returns-in-Ok-clause-runs g c =
    let k = g.M.Master.model in
    let d = g.D.Device.model in
    subst (λ s. IsRun k d s c.args.self.now c.run_rounds-in-Ok.new.self) (sym c.in-Listed.is)
    (list-and-rounds k d c.in-Listed.steps c.args.self.now c.run_list.new.self c.run_rounds-in-Ok.new.self
    (subst (λ l. TakesOf k d l c.args.self.now c.run_list.new.self (Ok tt)) c.as_slice.ensures c.in-Ok.ensures)
    c.run_rounds-in-Ok.ensures.runs)
