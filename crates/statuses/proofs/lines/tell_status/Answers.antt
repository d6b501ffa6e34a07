use Rattle.std.proofs.Common.{sym, subst}
use Rattle.outcomes.specs.Seen.{seen}
use Rattle.statuses.specs.Lines.{TellsStatus, line_of}
use Rattle.statuses.specs.Takes.{TakesAll}
use Rattle.statuses.proofs.lines.tell_status.Goals as goal

pub returns-in-Peer-clause-line : goal.returns-in-Peer-clause-line
returns-in-Peer-clause-line g c =
    subst (λ s. TellsStatus (seen g.E.Sink.count g.E.Sink.told c.args.err.now c.put_peer.new.err) s)
    (sym c.in-Peer.is) c.put_peer.ensures.put

pub returns-in-Peer-clause-takes : goal.returns-in-Peer-clause-takes
returns-in-Peer-clause-takes g c =
    subst (λ s. TakesAll (g.E.Sink.sound c.args.err.now) (g.E.Sink.room c.args.err.now) (seen g.E.Sink.count g.E.Sink.told c.args.err.now c.put_peer.new.err) (line_of s))
    (sym c.in-Peer.is) c.put_peer.ensures.takes

pub returns-in-Outside-clause-line : goal.returns-in-Outside-clause-line
returns-in-Outside-clause-line g c =
    subst (λ s. TellsStatus (seen g.E.Sink.count g.E.Sink.told c.args.err.now c.put_outside.new.err) s)
    (sym c.in-Outside.is) c.put_outside.ensures.put

pub returns-in-Outside-clause-takes : goal.returns-in-Outside-clause-takes
returns-in-Outside-clause-takes g c =
    subst (λ s. TakesAll (g.E.Sink.sound c.args.err.now) (g.E.Sink.room c.args.err.now) (seen g.E.Sink.count g.E.Sink.told c.args.err.now c.put_outside.new.err) (line_of s))
    (sym c.in-Outside.is) c.put_outside.ensures.takes

pub returns-in-Child-clause-line : goal.returns-in-Child-clause-line
returns-in-Child-clause-line g c =
    subst (λ s. TellsStatus (seen g.E.Sink.count g.E.Sink.told c.args.err.now c.put_child.new.err) s)
    (sym c.in-Child.is) c.put_child.ensures.put

pub returns-in-Child-clause-takes : goal.returns-in-Child-clause-takes
returns-in-Child-clause-takes g c =
    subst (λ s. TakesAll (g.E.Sink.sound c.args.err.now) (g.E.Sink.room c.args.err.now) (seen g.E.Sink.count g.E.Sink.told c.args.err.now c.put_child.new.err) (line_of s))
    (sym c.in-Child.is) c.put_child.ensures.takes
