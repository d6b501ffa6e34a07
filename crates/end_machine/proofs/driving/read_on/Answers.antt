use Rattle.std.proofs.Common.{◌<◌, length, subst, sym}
use Rattle.machine_turns.specs.EndLaws.{waits-clear}
use Rattle.end_machine.proofs.GoingLaws.{link-fails, link-reads}
use Rattle.end_machine.proofs.LinkLaws.{counts-rise, counts-same, read-rise, read-same}
use Rattle.end_machine.proofs.driving.read_on.Goals as goal

pub returns-in-Ok-clause-counts : goal.returns-in-Ok-clause-counts
returns-in-Ok-clause-counts g c =
    counts-same g.L.Link.count c.args.links.now c.args.port c.index-links-port.result c.pull.new.link
    (subst (λ n. c.args.port < n) (sym c.requires.ports) c.requires.there) c.in-Ok.ensures.counts

pub returns-in-Ok-clause-goes : goal.returns-in-Ok-clause-goes
returns-in-Ok-clause-goes g c = λ m plan said going.
    link-reads g.M.Master.model plan m said g.L.Link.told c.args.links.now c.args.port c.index-links-port.result
    c.pull.new.link
    (subst (λ n. c.args.port < n) (sym c.requires.ports) c.requires.there) c.args.end.now c.pull.new.self going
    c.in-Ok.pulled
    (g.met.L.Link.is_wire c.pull.new.link) (waits-clear g.M.Master.model c.args.port c.args.end.now c.requires.waits)
    c.in-Ok.ensures.pulls

pub returns-in-Err-Link-clause-counts : goal.returns-in-Err-Link-clause-counts
returns-in-Err-Link-clause-counts g c =
    counts-rise g.L.Link.count c.args.links.now c.args.port c.index-links-port.result c.pull.new.link
    (subst (λ n. c.args.port < n) (sym c.requires.ports) c.requires.there) c.in-Err-Link.count
    (read-rise _ _ _ c.in-Err-Link.field-0 c.in-Err-Link.field-0-is c.in-Err-Link.ensures.counts)

pub returns-in-Err-Link-clause-goes : goal.returns-in-Err-Link-clause-goes
returns-in-Err-Link-clause-goes g c = λ m plan said going.
    link-fails g.M.Master.model plan m said g.L.Link.told c.args.links.now c.args.port c.index-links-port.result
    c.pull.new.link
    (subst (λ n. c.args.port < n) (sym c.requires.ports) c.requires.there) c.args.end.now c.pull.new.self going
    c.in-Err-Link.field-0 c.in-Err-Link.ensures.pulls

pub returns-in-Err-NoMemory-clause-counts : goal.returns-in-Err-NoMemory-clause-counts
returns-in-Err-NoMemory-clause-counts g c =
    counts-same g.L.Link.count c.args.links.now c.args.port c.index-links-port.result c.pull.new.link
    (subst (λ n. c.args.port < n) (sym c.requires.ports) c.requires.there)
    (read-same _ _ c.in-Err-NoMemory.field-0 c.in-Err-NoMemory.field-0-is c.in-Err-NoMemory.ensures.counts)

pub returns-in-Err-NoMemory-clause-goes : goal.returns-in-Err-NoMemory-clause-goes
returns-in-Err-NoMemory-clause-goes g c = λ m plan said going.
    link-fails g.M.Master.model plan m said g.L.Link.told c.args.links.now c.args.port c.index-links-port.result
    c.pull.new.link
    (subst (λ n. c.args.port < n) (sym c.requires.ports) c.requires.there) c.args.end.now c.pull.new.self going
    c.in-Err-NoMemory.field-0 c.in-Err-NoMemory.ensures.pulls
