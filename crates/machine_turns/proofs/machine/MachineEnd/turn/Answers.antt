use Rattle.machine_turns.specs.EndLaws.{call-all, call-runs}
use Rattle.machine_turns.proofs.Fronts.{waits-there}
use Rattle.machine_turns.proofs.machine.MachineEnd.turn.Goals as goal

pub returns-in-Some-awaits-clause-turns : goal.returns-in-Some-awaits-clause-turns
returns-in-Some-awaits-clause-turns g c = c.hear_front.ensures.turns c.args.out.now.bytes

pub returns-in-Some-awaits-clause-runs : goal.returns-in-Some-awaits-clause-runs
returns-in-Some-awaits-clause-runs g c =
    call-runs g.M.Master.model c.args.self.now c.hear_front.new.self c.args.out.now.bytes c.args.out.now.bytes
    c.hear_front.result (c.hear_front.ensures.turns c.args.out.now.bytes) (λ kept. c.hear_front.ensures.front)

pub returns-in-Some-awaits-clause-all : goal.returns-in-Some-awaits-clause-all
returns-in-Some-awaits-clause-all g c =
    let i = c.self.inside in
    call-all g.M.Master.model c.args.self.now c.hear_front.new.self c.args.out.now.bytes c.args.out.now.bytes
    c.hear_front.result (c.hear_front.ensures.turns c.args.out.now.bytes)
    (waits-there g.M.Master.model i.core.end i.fault i.framers.items c.args.self.now c.self.view_is c.self.invariant.1
    c.self.invariant.2 c.awaits.ensures.there)

pub returns-in-None-clause-runs : goal.returns-in-None-clause-runs
returns-in-None-clause-runs g c =
    call-runs g.M.Master.model c.args.self.now c.act.new.self c.args.out.now.bytes c.act.new.out.bytes c.act.result
    c.act.ensures.turns (λ kept. c.act.ensures.front)

pub returns-in-None-clause-all : goal.returns-in-None-clause-all
returns-in-None-clause-all g c =
    let i = c.self.inside in
    call-all g.M.Master.model c.args.self.now c.act.new.self c.args.out.now.bytes c.act.new.out.bytes c.act.result
    c.act.ensures.turns
    (waits-there g.M.Master.model i.core.end i.fault i.framers.items c.args.self.now c.self.view_is c.self.invariant.1
    c.self.invariant.2 c.awaits.ensures.there)
