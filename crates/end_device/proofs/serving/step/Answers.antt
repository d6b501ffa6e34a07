use Rattle.std.proofs.Common.{◌∙◌, sym, ap, drop, length, List, ℕ}
use Rattle.end_device.proofs.StepLaws.{turn-progress}
use Rattle.end_device.proofs.ServingLaws.{going-sent, going-part, part-link, part-memory, turn-fault}
use Rattle.end_device.proofs.serving.step.Goals as goal

pub returns-in-Err-clause-goes : goal.returns-in-Err-clause-goes
returns-in-Err-clause-goes g c = λ start w count going.
    turn-fault g.D.Device.model start w count c.args.end.now c.turn.new.self (g.L.Link.told c.args.link.now)
    c.clear.new.self.bytes c.turn.new.out.bytes c.in-Err.fault c.requires c.in-Err.ensures.turns going

pub returns-in-Ok-send-clause-progress : goal.returns-in-Ok-send-clause-progress
returns-in-Ok-send-clause-progress g c =
    turn-progress g.D.Device.model c.in-Ok.turn c.args.end.now c.turn.new.self c.clear.new.self.bytes c.turn.new.out.bytes
    c.in-Ok.ensures.turns

pub returns-in-Ok-send-clause-goes : goal.returns-in-Ok-send-clause-goes
returns-in-Ok-send-clause-goes g c = λ start w count going.
    let out = c.turn.new.out.bytes in
    going-sent g.D.Device.model start w count c.args.end.now c.turn.new.self (g.L.Link.told c.args.link.now)
    (g.L.Link.told c.send.new.link) c.clear.new.self.bytes out c.as_slice.result.now c.in-Ok.ensures.runs
    (c.as_slice.ensures ∙ sym (ap (λ (b : List ℕ). drop (length b) out) c.clear.ensures.bytes)) c.in-Ok-send.ensures.tells going

pub returns-in-Err-Link-clause-goes : goal.returns-in-Err-Link-clause-goes
returns-in-Err-Link-clause-goes g c = λ start w count going.
    let out = c.turn.new.out.bytes in
    part-link g.D.Device.model start w c.turn.new.self.clear _ (g.L.Link.told c.send.new.link)
    (going-part g.D.Device.model start w count c.args.end.now c.turn.new.self (g.L.Link.told c.args.link.now)
    (g.L.Link.told c.send.new.link) c.clear.new.self.bytes out c.as_slice.result.now c.in-Err-Link.field-0 c.in-Ok.ensures.runs
    (c.as_slice.ensures ∙ sym (ap (λ (b : List ℕ). drop (length b) out) c.clear.ensures.bytes)) c.in-Err-Link.ensures.tells going)

pub returns-in-Err-NoMemory-clause-goes : goal.returns-in-Err-NoMemory-clause-goes
returns-in-Err-NoMemory-clause-goes g c = λ start w count going.
    let out = c.turn.new.out.bytes in
    part-memory g.D.Device.model start w c.turn.new.self.clear (g.L.Link.told c.send.new.link)
    (going-part g.D.Device.model start w count c.args.end.now c.turn.new.self (g.L.Link.told c.args.link.now)
    (g.L.Link.told c.send.new.link) c.clear.new.self.bytes out c.as_slice.result.now c.in-Err-NoMemory.field-0 c.in-Ok.ensures.runs
    (c.as_slice.ensures ∙ sym (ap (λ (b : List ℕ). drop (length b) out) c.clear.ensures.bytes)) c.in-Err-NoMemory.ensures.tells going)
