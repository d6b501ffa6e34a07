use Rattle.std.proofs.Common.{ap, ◌∙◌, ◌++◌}
use Rattle.cosim_model.specs.Packets.Decoded.{Valid}
use Rattle.ends_model.specs.DeviceTurn.{device_takes}
use Rattle.rp_packet.specs.Refusals.{first}
use Rattle.rp_packet.specs.Values.{value_of}
use Rattle.device_core.specs.Cores.{spelled}
use Rattle.device_turns.proofs.Turning.{took-turn, of-same}
use Rattle.device_turns.proofs.device.DeviceEnd.hear.Goals as goal

pub returns-in-Ok-hear : goal.returns-in-Ok-hear
returns-in-Ok-hear g c =
    let i = c.self.inside in
    let d = g.D.Device.model in
    let p = value_of c.args.packet.now in
    let out = c.args.out.now.bytes in
    let kept = ap (λ e. e.kept) c.self.view_is ∙ c.requires.kept in
    let hears = c.in-Ok-hear.ensures.hears in
    let room = c.reserve_calls.ensures.end in
    of-same d _ _ _ _ _ _ c.self.view_is
    (took-turn d (record { clear = i.core.end; kept = i.fault; taken = i.framer.taken; held = i.framer.held })
    (record { clear = c.hear.new.self.end; kept = i.fault; taken = c.skip.new.self.taken; held = c.skip.new.self.held })
    p c.args.size out c.hear.new.out.bytes kept c.self.invariant.2
    (ap (λ e. e.clear.session.hello_went) c.self.view_is ∙ c.requires.greeted)
    (ap (λ e. first e.held) c.self.view_is ∙ c.requires.front)
    (hears.0 ∙ ap (λ e. (device_takes d e (Valid p)).0) room) c.hear.ensures.clear kept
    (ap (λ f. f.held) c.skip.ensures) (ap (λ f. f.taken) c.skip.ensures)
    (hears.1 ∙ ap (λ b. b ++ spelled (device_takes d c.reserve_calls.new.self.end (Valid p)).1) c.reserve.ensures.bytes
    ∙ ap (λ e. out ++ spelled (device_takes d e (Valid p)).1) room))
