use Rattle.direct_machine.proofs.Running.{run-gives}
use Rattle.direct_machine.proofs.machine.run_in.Goals as goal

pub returns : goal.returns
returns g c = run-gives g.M.Master.model g.D.Device.model c.args.plan c.args.order c.args.master c.args.devices c.make.result c.to_end.new.run _ c.make.ensures.calls c.in_ok-to_end.ensures c.from_vec.ensures
