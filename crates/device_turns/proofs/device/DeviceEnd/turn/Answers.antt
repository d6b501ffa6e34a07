use Rattle.std.proofs.Common.{sym, ap, ◌∙◌}
use Rattle.device_turns.specs.EndLaws.{call-runs, call-all, still-all}
use Rattle.device_turns.proofs.device.DeviceEnd.turn.Goals as goal

pub returns-in-Some-clause-all : goal.returns-in-Some-clause-all
returns-in-Some-clause-all g c = still-all g.D.Device.model c.args.self.now c.in-Some.fault
    (sym (ap (λ e. e.kept) c.self.view_is) ∙ c.in-Some.is)

pub returns-then-not-has_greeted-clause-runs : goal.returns-then-not-has_greeted-clause-runs
returns-then-not-has_greeted-clause-runs g c =
    call-runs g.D.Device.model c.args.self.now c.greet.new.self c.args.out.now.bytes c.greet.new.out.bytes c.greet.result
    c.greet.ensures

pub returns-then-not-has_greeted-clause-all : goal.returns-then-not-has_greeted-clause-all
returns-then-not-has_greeted-clause-all g c =
    call-all g.D.Device.model c.args.self.now c.greet.new.self c.args.out.now.bytes c.greet.new.out.bytes c.greet.result
    c.greet.ensures

pub returns-clause-runs : goal.returns-clause-runs
returns-clause-runs g c =
    call-runs g.D.Device.model c.args.self.now c.hear_front.new.self c.args.out.now.bytes c.hear_front.new.out.bytes
    c.hear_front.result c.hear_front.ensures

pub returns-clause-all : goal.returns-clause-all
returns-clause-all g c =
    call-all g.D.Device.model c.args.self.now c.hear_front.new.self c.args.out.now.bytes c.hear_front.new.out.bytes
    c.hear_front.result c.hear_front.ensures
