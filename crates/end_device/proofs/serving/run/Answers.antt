use Rattle.std.proofs.Common.{[], refl, sym, ap, subst, arith, Ok}
use Rattle.device_turns.specs.Ends.{HasRun, IsWaiting, core_of}
use Rattle.device_turns.specs.EndLaws.{run-fresh}
use Rattle.end_device.specs.Going.{ReadsOn}
use Rattle.end_device.proofs.ServingLaws.{going-fresh, much-leaves, end-leaves, fault-serves}
use Rattle.end_device.proofs.serving.run.Goals as goal

pub reads-init : goal.reads-init
reads-init g c =
    let d = g.D.Device.model in
    let end = c.args.end.now in
    record {
      kept = ap (λ e. e.kept) c.requires.fresh;
      few = omega arith;
      counts = refl;
      is_sound = λ s. s;
      goes = going-fresh d (core_of end) (g.L.Link.told c.args.link.now) end
          (subst (λ e. HasRun d (core_of e) [] [] e) (sym c.requires.fresh) (run-fresh d end.clear)) c.requires.unused;
    }

pub returns-then-received-ge-MOST-clause-leaves : goal.returns-then-received-ge-MOST-clause-leaves
returns-then-received-ge-MOST-clause-leaves g c =
    let d = g.D.Device.model in
    let start = core_of c.args.end.now in
    let w = g.L.Link.told c.args.link.now in
    let now = g.L.Link.told c.settle.new.link in
    let settled = c.in_ok-settle.ensures in
    fault-serves d start w c.settle.new.end.clear _ now
    (much-leaves d start w c.reads.received c.settle.new.end now settled.waits c.if-received-ge-MOST.true
    (settled.goes start w c.reads.received c.reads.invariant.goes))

pub returns-in-Ok-None-clause-leaves : goal.returns-in-Ok-None-clause-leaves
returns-in-Ok-None-clause-leaves g c =
    let d = g.D.Device.model in
    let start = core_of c.args.end.now in
    let w = g.L.Link.told c.args.link.now in
    let now = g.L.Link.told c.read_more.new.link in
    let settled = c.in_ok-settle.ensures in
    let e = c.read_more.new.end in
    let read = c.in-Ok-None.ensures in
    let is = c.in-Ok-None.field-0-is in
    let at = subst (λ more. ReadsOn d start w c.reads.received e now (Ok more)) is
    (read.goes start w c.reads.received (settled.goes start w c.reads.received c.reads.invariant.goes)) in
    end-leaves d start w c.reads.received e now c.finish.result
    (subst (λ x. IsWaiting d x) (sym (read.same is)) settled.waits) c.if-received-ge-MOST.false c.finish.ensures at
