use Rattle.machine_core.proofs.Few.{few-greet, few-run, few-sync}
use Rattle.machine_core.proofs.machine.MachineCore.act.Goals as goal

pub returns-in-Greet-clause-few : goal.returns-in-Greet-clause-few
returns-in-Greet-clause-few g c =
    few-greet g.M.Master.model c.args.self.now c.greet.new.self c.args.out.now.bytes c.greet.new.out.bytes c.in-Greet.port
    c.greet.result c.greet.ensures

pub returns-in-Run-clause-few : goal.returns-in-Run-clause-few
returns-in-Run-clause-few g c =
    few-run g.M.Master.model c.args.self.now c.run-turn.new.self c.args.out.now.bytes c.run-turn.new.out.bytes
    g.met.M.Master.lawful _ c.run-turn.result c.run-turn.ensures

pub returns-in-SyncTo-clause-few : goal.returns-in-SyncTo-clause-few
returns-in-SyncTo-clause-few g c =
    few-sync g.M.Master.model c.args.self.now c.sync.new.self c.args.out.now.bytes c.sync.new.out.bytes c.in-SyncTo.port
    c.sync.result c.sync.ensures
