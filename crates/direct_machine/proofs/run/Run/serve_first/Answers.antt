use Rattle.std.proofs.Common.{sym, ap, ◌∙◌}
use Rattle.direct_machine.specs.Wants.{first_port}
use Rattle.direct_machine.proofs.Serving.{serves-first, first-there}
use Rattle.direct_machine.proofs.run.Run.serve_first.Goals as goal

pub serve-requires-clause-there : goal.serve-requires-clause-there
serve-requires-clause-there g c = first-there g.M.Master.model g.D.Device.model g.met.D.Device.lawful g.met.M.Master.lawful c.in-Some.port c.args.self.now.devices.items (ap (first_port g.D.Device.model) (sym c.as_slice.ensures.value) ∙ sym c.first_wanting.ensures ∙ c.in-Some.is)

pub returns-in-Some-clause-serves : goal.returns-in-Some-clause-serves
returns-in-Some-clause-serves g c = serves-first g.M.Master.model g.D.Device.model g.met.D.Device.lawful g.met.M.Master.lawful c.in-Some.port c.args.self.now _ _ (ap (first_port g.D.Device.model) (sym c.as_slice.ensures.value) ∙ sym c.first_wanting.ensures ∙ c.in-Some.is) c.serve.ensures.serves
