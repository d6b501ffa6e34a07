use Rattle.std.proofs.Common.{◌∙◌, ap, drop, length, List, sym, ℕ}
use Rattle.std.specs.Prelude.{map}
use Rattle.std.proofs.lemmas.List.{length-map}
use Rattle.end_machine.proofs.GoingLaws.{turn-fails, turn-part, turn-quiet, turn-sent}
use Rattle.end_machine.proofs.Standing.{goes-run}
use Rattle.end_machine.proofs.StepLaws.{step-kept}
use Rattle.end_machine.proofs.driving.step.Goals as goal

pub returns-in-Err-clause-kept : goal.returns-in-Err-clause-kept
returns-in-Err-clause-kept g c =
    step-kept g.M.Master.model c.advance.new.units c.args.end.now c.advance.new.self c.clear.new.self.bytes c.advance.new.out.bytes
    c.in-Err.fault c.in-Err.ensures.advances c.requires.kept (c.in-Err.ensures.front c.requires.kept)

pub returns-in-Err-clause-goes : goal.returns-in-Err-clause-goes
returns-in-Err-clause-goes g c = λ m plan said going.
    turn-fails g.M.Master.model _ said c.advance.new.units c.args.end.now c.advance.new.self c.clear.new.self.bytes c.advance.new.out.bytes _
    c.in-Err.fault
    c.requires.kept c.in-Err.ensures.advances c.in-Err.ensures.runs c.in-Err.ensures.all c.in-Err.ensures.front going

pub returns-in-Ok-send_on-clause-goes : goal.returns-in-Ok-send_on-clause-goes
returns-in-Ok-send_on-clause-goes g c = λ m plan said going.
    turn-sent g.M.Master.model _ said c.args.end.now c.advance.new.self c.clear.new.self.bytes c.advance.new.out.bytes
    c.as_slice.result.now
    (map g.L.Link.told c.args.links.now) (map g.L.Link.told c.send_on.new.links) c.in-Ok.turn c.in-Some.port
    (sym c.sent_port.ensures ∙ c.in-Some.is)
    (length-map c.args.links.now g.L.Link.told ∙ c.requires.ports) (c.in-Ok.ensures.front c.requires.kept)
    c.in-Ok.ensures.runs (c.as_slice.ensures ∙ sym (ap (λ (b : List ℕ). drop (length b) c.advance.new.out.bytes)
    c.clear.ensures.bytes))
    c.in-Ok-send_on.ensures.sends going

pub returns-in-Err-send_on-clause-goes : goal.returns-in-Err-send_on-clause-goes
returns-in-Err-send_on-clause-goes g c = λ m plan said going.
    turn-part g.M.Master.model _ said c.args.end.now c.advance.new.self c.clear.new.self.bytes c.advance.new.out.bytes
    c.as_slice.result.now
    (map g.L.Link.told c.args.links.now) (map g.L.Link.told c.send_on.new.links) c.in-Ok.turn c.in-Some.port
    c.in-Err-send_on.fault
    (sym c.sent_port.ensures ∙ c.in-Some.is) c.in-Ok.ensures.runs
    (c.as_slice.ensures ∙ sym (ap (λ (b : List ℕ). drop (length b) c.advance.new.out.bytes) c.clear.ensures.bytes))
    c.in-Err-send_on.ensures.sends c.in-Err-send_on.ensures.blames going

pub returns-in-None-clause-goes : goal.returns-in-None-clause-goes
returns-in-None-clause-goes g c = λ m plan said going.
    turn-quiet g.M.Master.model _ said c.args.end.now c.advance.new.self c.clear.new.self.bytes c.advance.new.out.bytes _
    c.in-Ok.turn
    (sym c.sent_port.ensures ∙ c.in-None.is) c.in-Ok.ensures.runs going

pub returns-in-Ok-send_on-clause-runs : goal.returns-in-Ok-send_on-clause-runs
returns-in-Ok-send_on-clause-runs g c =
    goes-run g.M.Master.model c.args.end.now c.advance.new.self c.clear.new.self.bytes c.advance.new.out.bytes
    c.in-Ok.turn c.in-Ok.ensures.runs

pub returns-in-None-clause-runs : goal.returns-in-None-clause-runs
returns-in-None-clause-runs g c =
    goes-run g.M.Master.model c.args.end.now c.advance.new.self c.clear.new.self.bytes c.advance.new.out.bytes
    c.in-Ok.turn c.in-Ok.ensures.runs
