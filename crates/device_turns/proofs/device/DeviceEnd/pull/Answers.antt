use Rattle.std.proofs.Common.{sym, ap, subst}
use Rattle.device_turns.specs.Ends.{Pulls}
use Rattle.device_turns.proofs.Pulling.{pulls-end, waits-unready}
use Rattle.device_turns.proofs.device.DeviceEnd.pull.Goals as goal

pub pull-requires : goal.pull-requires
pull-requires g c =
    waits-unready g.D.Device.model c.args.self.now c.self.inside.framer c.self.invariant.0
    (ap (λ e. e.held) (sym c.self.view_is)) c.requires

pub returns-clause-pulls : goal.returns-clause-pulls
returns-clause-pulls g c =
    let i = c.self.inside in
    subst (λ e. Pulls (g.L.Link.told c.args.link.now) (g.L.Link.told c.pull.new.link) e (record {
      clear = i.core.end;
      kept = i.fault;
      taken = c.pull.new.framer.taken;
      held = c.pull.new.framer.held;
    }) c.pull.result) c.self.view_is
    (pulls-end (g.L.Link.told c.args.link.now) (g.L.Link.told c.pull.new.link)
    (record { clear = i.core.end; kept = i.fault; taken = i.framer.taken; held = i.framer.held })
    i.framer c.pull.new.framer c.pull.result c.self.invariant.0 c.pull.ensures.pulls)
