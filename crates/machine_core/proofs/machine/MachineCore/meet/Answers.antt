use Rattle.std.proofs.Common.{length, arith, ◌<◌, ◌+◌}
use Rattle.machine_core.proofs.Frames.{there}
use Rattle.machine_core.proofs.Hearing.{meet-more, meet-last, meets-more}
use Rattle.machine_core.proofs.machine.MachineCore.meet.Goals as goal

pub invariant_of-self : goal.invariant_of-self
invariant_of-self g c =
    let p = c.in-Meet.port in
    let more : p + 1 < length c.self.inside.ports.items = omega (arith, c.self.inside.ports.ok.0) in (
      c.self.invariant.0,
      meet-more g.M.Master.model _ p c.in-Meet.is _ _ more (there _ _ _ more c.index_mut.ensures.value) c.begin_wait.ensures
          c.self.invariant.1,
    )

pub invariant_of-self-else-next-len : goal.invariant_of-self-else-next-len
invariant_of-self-else-next-len g c =
    (c.self.invariant.0, meet-last g.M.Master.model _ c.in-Meet.port c.in-Meet.is c.self.invariant.1)

pub returns-then-next-len : goal.returns-then-next-len
returns-then-next-len g c =
    let p = c.in-Meet.port in
    let more : p + 1 < length c.self.inside.ports.items = omega (arith, c.self.inside.ports.ok.0) in
    meets-more g.M.Master.model _ p c.in-Meet.is _ _ c.self.view_is _ _ more (there _ _ _ more c.index_mut.ensures.value)
    c.begin_wait.ensures
