use Rattle.std.proofs.Common.{◌≡◌, ◌-◌, ap, arith, subst, length, length-append, Ok, Err}
use Rattle.device_turns.specs.Ends.{Pulls}
use Rattle.end_device.proofs.ServingLaws.{going-read, going-partly, part-link, part-memory}
use Rattle.end_device.proofs.serving.read_more.Goals as goal

pub returns-in-Ok-More-clause-goes : goal.returns-in-Ok-More-clause-goes
returns-in-Ok-More-clause-goes g c = λ start w count going.
    let old = c.args.end.now in
    let new = c.pull.new.self in
    let was = g.L.Link.told c.args.link.now in
    let now = g.L.Link.told c.pull.new.link in
    let pulls = subst (λ p. Pulls was now old new (Ok p)) c.in-Ok-More.field-0-is c.in-Ok-More.ensures.pulls in
    let piece = pulls.0 in
    let held = ap (λ e. length e.held) pulls.4 in
    let both = length-append old.held piece in
    let more : c.held.result - c.held-before.result ≡ length piece =
    omega (arith, c.held.ensures, c.held-before.ensures, held, both) in
    going-read g.D.Device.model start w count (c.held.result - c.held-before.result) old new was now piece c.requires.waits
    pulls.4 more (g.met.L.Link.is_wire c.pull.new.link) pulls.3 going

pub returns-in-Err-Link-clause-goes : goal.returns-in-Err-Link-clause-goes
returns-in-Err-Link-clause-goes g c = λ start w count going.
    let old = c.args.end.now in
    let new = c.pull.new.self in
    let was = g.L.Link.told c.args.link.now in
    let now = g.L.Link.told c.pull.new.link in
    let pulls = subst (λ p. Pulls was now old new (Err p)) c.in-Err-Link.field-0-is c.in-Err-Link.ensures.pulls in
    part-link g.D.Device.model start w new.clear _ now (going-partly g.D.Device.model start w count old was now pulls.0 going)

pub returns-in-Err-NoMemory-clause-goes : goal.returns-in-Err-NoMemory-clause-goes
returns-in-Err-NoMemory-clause-goes g c = λ start w count going.
    let old = c.args.end.now in
    let new = c.pull.new.self in
    let was = g.L.Link.told c.args.link.now in
    let now = g.L.Link.told c.pull.new.link in
    let pulls = subst (λ p. Pulls was now old new (Err p)) c.in-Err-NoMemory.field-0-is c.in-Err-NoMemory.ensures.pulls in
    part-memory g.D.Device.model start w new.clear now (going-partly g.D.Device.model start w count old was now pulls.0 going)
