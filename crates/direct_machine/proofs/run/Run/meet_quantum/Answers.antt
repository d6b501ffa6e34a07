use Rattle.direct_machine.proofs.Running.{meets-none, meets-one}
use Rattle.direct_machine.proofs.run.Run.meet_quantum.Goals as goal

pub returns-then-self-next : goal.returns-then-self-next
returns-then-self-next g c = meets-none g.M.Master.model g.D.Device.model c.args.order c.args.quantum c.args.self.now c.args.next c.if-self-next.true c.requires.ready c.requires.next

pub returns-in-Ok : goal.returns-in-Ok
returns-in-Ok g c = meets-one g.M.Master.model g.D.Device.model c.args.order c.args.quantum c.args.self.now c.boundary.new.self c.args.next c.if-self-next.false c.in-Ok.ensures.leads c.in-Ok.ensures.ready c.in-Ok.ensures.tick c.in-Ok.ensures.stopped c.requires.next
