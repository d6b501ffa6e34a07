use Rattle.std.proofs.Common.{false}
use Rattle.world.proofs.Quiet.{stays-next, step-next}
use Rattle.world.proofs.world.World.take_next.Goals as goal

pub returns-then-matches-clause-takes : goal.returns-then-matches-clause-takes
returns-then-matches-clause-takes g c =
    step-next g.M.Master.model g.D.Device.model c.args.rounds.now c.next-step.new.self c.args.self.now c.step.new.self
    c.next-step.result c.in-Ok.field-0 c.is_quiet.result c.requires c.next-step.ensures c.in-Ok.ensures.ok

pub returns-else-matches-clause-takes : goal.returns-else-matches-clause-takes
returns-else-matches-clause-takes g c =
    step-next g.M.Master.model g.D.Device.model c.args.rounds.now c.next-step.new.self c.args.self.now c.step.new.self
    c.next-step.result c.in-Ok.field-0 false c.requires c.next-step.ensures c.in-Ok.ensures.ok

pub returns-in-Err-clause-takes : goal.returns-in-Err-clause-takes
returns-in-Err-clause-takes g c =
    let k = g.M.Master.model in
    let d = g.D.Device.model in
    stays-next k d c.args.rounds.now c.next-step.new.self c.args.self.now c.step.new.self c.in-Err.field-0
    c.is_on_its_way.ensures.reached c.in-Err.ensures.err
