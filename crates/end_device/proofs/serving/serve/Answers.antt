use Rattle.std.proofs.Common.{sym, subst, Err}
use Rattle.device_turns.specs.Ends.{core_of}
use Rattle.end_device.specs.Talk.{IsByTalk}
use Rattle.end_device.proofs.TalkLaws.{serves-talk}
use Rattle.end_device.proofs.serving.serve.Goals as goal

pub returns-in-Ok-clause-talk : goal.returns-in-Ok-clause-talk
returns-in-Ok-clause-talk g c =
    serves-talk g.D.Device.model _ _ _ _ _ (g.met.L.Link.is_wire c.args.link.now) c.in-Ok.ensures.leaves

pub returns-clause-talk : goal.returns-clause-talk
returns-clause-talk g c =
    let start = core_of c.args.end.now in
    let w = g.L.Link.told c.args.link.now in
    subst (λ e. IsByTalk g.D.Device.model start w e.clear (Err c.in-Err.fault)) (sym c.keep.ensures)
    (serves-talk g.D.Device.model start w _ _ _ (g.met.L.Link.is_wire c.args.link.now) c.in-Err.ensures.leaves)
