use Rattle.std.proofs.Common.{◌<◌, ◌≤◌, length, arith}
use Rattle.direct_machine.proofs.Ports.{ports-begin, ports-more, ports-end}
use Rattle.direct_machine.proofs.run.Run.boundary_by_port.Goals as goal

pub ports-init : goal.ports-init
ports-init g c = ports-begin g.M.Master.model g.D.Device.model c.args.self.now c.requires.ready

pub ports-preserved : goal.ports-preserved
ports-preserved g c =
    let within : c.ports.port < length c.args.self.now.devices.items = omega (arith, c.args.self.now.devices.ok.0) in
    ports-more g.M.Master.model g.D.Device.model c.ports.port _ c.ports.self c.settle.new.self within c.in_ok-settle.ensures.leads c.in_ok-settle.ensures.ready c.in_ok-settle.ensures.tick c.in_ok-settle.ensures.stopped c.in_ok-settle.ensures.ports c.ports.invariant

pub returns-clause-leads : goal.returns-clause-leads
returns-clause-leads g c =
    let all : length c.args.self.now.devices.items ≤ c.ports.port = omega (arith, c.args.self.now.devices.ok.0) in
    ports-end g.M.Master.model g.D.Device.model c.ports.port c.args.self.now c.ports.self all c.ports.invariant
