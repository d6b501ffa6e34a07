use Rattle.std.proofs.Common.{OnOk, sym, subst}
use Rattle.direct_machine.specs.Runs.{Leads}
use Rattle.direct_machine.specs.Orders.{boundary_in}
use Rattle.direct_machine.proofs.run.Run.boundary.Goals as goal

pub returns-in-ByDue-clause-leads : goal.returns-in-ByDue-clause-leads
returns-in-ByDue-clause-leads g c = subst (λ order. OnOk c.boundary_by_due.result (Leads (boundary_in g.M.Master.model g.D.Device.model order) c.args.self.now c.boundary_by_due.new.self)) (sym c.in-ByDue.is) c.boundary_by_due.ensures.leads

pub returns-in-ByPort-clause-leads : goal.returns-in-ByPort-clause-leads
returns-in-ByPort-clause-leads g c = subst (λ order. OnOk c.boundary_by_port.result (Leads (boundary_in g.M.Master.model g.D.Device.model order) c.args.self.now c.boundary_by_port.new.self)) (sym c.in-ByPort.is) c.boundary_by_port.ensures.leads
