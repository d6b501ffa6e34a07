use Rattle.std.proofs.Common.{sym, ap, ◌∙◌, subst}
use Rattle.std.specs.Prelude.{None}
use Rattle.rp_packet.specs.Values.{value_of}
use Rattle.device_core.specs.Cores.{IsCore}
use Rattle.device_core.proofs.Taking.{take-keeps, taken-if}
use Rattle.device_core.proofs.Keeping.{taken-core}
use Rattle.device_core.proofs.device.DeviceCore.take.Goals as goal

pub invariant_of-self : goal.invariant_of-self
invariant_of-self g c =
    let i = c.self.inside in
    let p = value_of c.args.packet.now in (
      c.self.invariant.0,
      subst (λ s. IsCore g.D.Device.model (record {
        device = i.device;
        answered_lines = i.answered_lines;
        session = s;
        open_sync = i.open_sync;
        own = i.own;
        calls = i.calls.calls;
        fault = None;
      })) (sym c.take.ensures.session) (taken-core g.D.Device.model g.met.D.Device.lawful _ p c.self.invariant.1),
    )

pub returns-clause-taken : goal.returns-clause-taken
returns-clause-taken g c =
    taken-if c.self.inside.session (value_of c.args.packet.now) _ _ c.take.ensures.session c.take.ensures.event

pub returns-clause-greeted : goal.returns-clause-greeted
returns-clause-greeted g c =
    ap (λ s. s.hello_went) c.take.ensures.session
    ∙ (take-keeps c.self.inside.session (value_of c.args.packet.now)).greeted
    ∙ ap (λ e. e.end.session.hello_went) c.self.view_is
