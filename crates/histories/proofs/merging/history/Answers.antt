use Rattle.cosim_model.specs.Direct.{direct, direct_by_port}
use Rattle.histories.proofs.Loops.{merge-is-history}
use Rattle.histories.proofs.Runs.{due-history, port-history}
use Rattle.histories.proofs.merging.history.Goals as goal

pub returns-clause-by_due : goal.returns-clause-by_due
returns-clause-by_due g c = λ master devices fresh.
    merge-is-history (direct g.M.Master.model g.D.Device.model c.args.plan master devices) c.args.plan c.args.run.now.calls.calls c.args.run.now.ticks c.merged.result
    (due-history g.M.Master.model g.D.Device.model c.args.plan g.met.M.Master.lawful master devices fresh) c.merged.ensures

pub returns-clause-by_port : goal.returns-clause-by_port
returns-clause-by_port g c = λ master devices fresh.
    merge-is-history (direct_by_port g.M.Master.model g.D.Device.model c.args.plan master devices) c.args.plan c.args.run.now.calls.calls c.args.run.now.ticks c.merged.result
    (port-history g.M.Master.model g.D.Device.model c.args.plan g.met.M.Master.lawful master devices fresh) c.merged.ensures
