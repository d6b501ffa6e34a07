use Rattle.std.proofs.Common.{ap, sym, ◌∙◌}
use Rattle.machine_turns.specs.EndLaws.{call-all, call-runs}
use Rattle.machine_turns.proofs.Advancing.{advance-all, advance-runs, kept-turns, no-units}
use Rattle.machine_turns.proofs.Fronts.{waits-there}
use Rattle.machine_turns.proofs.machine.MachineEnd.advance.Goals as goal

pub returns-in-Some-clause-advances : goal.returns-in-Some-clause-advances
returns-in-Some-clause-advances g c =
    no-units g.M.Master.model c.args.self.now c.args.self.now c.args.out.now.bytes c.args.out.now.bytes _
    (kept-turns g.M.Master.model c.args.self.now c.in-Some.kept c.args.out.now.bytes
    (sym (ap (λ e. e.kept) c.self.view_is) ∙ c.in-Some.is))

pub returns-in-Some-awaits-clause-advances : goal.returns-in-Some-awaits-clause-advances
returns-in-Some-awaits-clause-advances g c =
    no-units g.M.Master.model c.args.self.now c.hear_front.new.self c.args.out.now.bytes c.args.out.now.bytes
    c.hear_front.result (c.hear_front.ensures.turns c.args.out.now.bytes)

pub returns-in-Some-awaits-clause-runs : goal.returns-in-Some-awaits-clause-runs
returns-in-Some-awaits-clause-runs g c =
    call-runs g.M.Master.model c.args.self.now c.hear_front.new.self c.args.out.now.bytes c.args.out.now.bytes
    c.hear_front.result (c.hear_front.ensures.turns c.args.out.now.bytes) (λ kept. c.hear_front.ensures.front)

pub returns-in-Some-awaits-clause-all : goal.returns-in-Some-awaits-clause-all
returns-in-Some-awaits-clause-all g c =
    let i = c.self.inside in
    call-all g.M.Master.model c.args.self.now c.hear_front.new.self c.args.out.now.bytes c.args.out.now.bytes
    c.hear_front.result (c.hear_front.ensures.turns c.args.out.now.bytes)
    (waits-there g.M.Master.model i.core.end i.fault i.framers.items c.args.self.now c.self.view_is c.self.invariant.1
    c.self.invariant.2 c.awaits.ensures.there)

pub returns-in-None-clause-runs : goal.returns-in-None-clause-runs
returns-in-None-clause-runs g c =
    advance-runs g.M.Master.model c.act_on.new.units c.args.self.now c.act_on.new.self c.args.out.now.bytes c.act_on.new.out.bytes
    c.act_on.result c.act_on.ensures.advances c.act_on.ensures.front

pub returns-in-None-clause-all : goal.returns-in-None-clause-all
returns-in-None-clause-all g c =
    advance-all g.M.Master.model c.act_on.new.units c.args.self.now c.act_on.new.self c.args.out.now.bytes c.act_on.new.out.bytes
    c.act_on.result c.act_on.ensures.advances c.act_on.ensures.front
