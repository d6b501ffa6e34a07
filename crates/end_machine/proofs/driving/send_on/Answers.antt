use Rattle.std.proofs.Common.{Err, ap, subst}
use Rattle.rp_framing.specs.Sending.{SendCounts}
use Rattle.end_machine.proofs.LinkLaws.{counts-rise, counts-same, sends-all, sends-part}
use Rattle.end_machine.proofs.driving.send_on.Goals as goal

pub returns-in-Ok-clause-counts : goal.returns-in-Ok-clause-counts
returns-in-Ok-clause-counts g c =
    counts-same g.L.Link.count c.args.links.now c.args.port c.index-links-port.result c.send.new.link c.requires.there
    c.in-Ok.ensures.counts

pub returns-in-Ok-clause-sends : goal.returns-in-Ok-clause-sends
returns-in-Ok-clause-sends g c =
    sends-all g.L.Link.told c.args.links.now c.args.port c.index-links-port.result c.send.new.link c.requires.there
    c.args.bytes.now c.in-Ok.ensures.tells

pub returns-in-Err-Link-clause-counts : goal.returns-in-Err-Link-clause-counts
returns-in-Err-Link-clause-counts g c =
    counts-rise g.L.Link.count c.args.links.now c.args.port c.index-links-port.result c.send.new.link c.requires.there
    c.in-Err-Link.count
    (subst (SendCounts _ _) (ap (λ f. Err f) c.in-Err-Link.field-0-is) c.in-Err-Link.ensures.counts)

pub returns-in-Err-Link-clause-sends : goal.returns-in-Err-Link-clause-sends
returns-in-Err-Link-clause-sends g c =
    sends-part g.L.Link.told c.args.links.now c.args.port c.index-links-port.result c.send.new.link c.requires.there
    c.args.bytes.now c.in-Err-Link.field-0 c.in-Err-Link.ensures.tells

pub returns-in-Err-NoMemory-clause-counts : goal.returns-in-Err-NoMemory-clause-counts
returns-in-Err-NoMemory-clause-counts g c =
    counts-same g.L.Link.count c.args.links.now c.args.port c.index-links-port.result c.send.new.link c.requires.there
    (subst (SendCounts _ _) (ap (λ f. Err f) c.in-Err-NoMemory.field-0-is) c.in-Err-NoMemory.ensures.counts)

pub returns-in-Err-NoMemory-clause-sends : goal.returns-in-Err-NoMemory-clause-sends
returns-in-Err-NoMemory-clause-sends g c =
    sends-part g.L.Link.told c.args.links.now c.args.port c.index-links-port.result c.send.new.link c.requires.there
    c.args.bytes.now c.in-Err-NoMemory.field-0 c.in-Err-NoMemory.ensures.tells
