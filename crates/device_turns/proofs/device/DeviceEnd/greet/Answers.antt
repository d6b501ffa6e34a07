use Rattle.std.proofs.Common.{refl, ap, ◌∙◌, arith}
use Rattle.device_turns.proofs.Turning.{greeted-turn, of-same}
use Rattle.device_turns.proofs.device.DeviceEnd.greet.Goals as goal

pub returns : goal.returns
returns g c =
    let i = c.self.inside in
    let d = g.D.Device.model in
    let most = c.self.invariant.1 in
    let kept = ap (λ e. e.kept) c.self.view_is ∙ c.requires.kept in
    of-same d _ _ _ _ _ _ c.self.view_is
    (greeted-turn d (record { clear = i.core.end; kept = i.fault; taken = i.framer.taken; held = i.framer.held })
    (record { clear = c.greet.new.self.end; kept = i.fault; taken = i.framer.taken; held = i.framer.held })
    c.args.out.now.bytes c.greet.new.out.bytes kept c.self.invariant.2
    (ap (λ e. e.clear.session.hello_went) c.self.view_is ∙ c.requires.greeted) c.in-Ok.ensures.end kept refl
    (omega (arith, most)) c.in-Ok.ensures.bytes)
