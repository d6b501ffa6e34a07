use Rattle.std.proofs.Common.{ap, ◌∙◌, sym, length, set, arith, ◌<◌}
use Rattle.std.specs.Prelude.{slice_get}
use Rattle.std.proofs.lemmas.List.{length-set}
use Rattle.machine_core.proofs.Frames.{there, in-phase, ports-in}
use Rattle.machine_core.proofs.Working.{send-machine, await-machine, posted-none, sends-posted, sends-awaited}
use Rattle.machine_core.proofs.machine.MachineCore.send.Goals as goal

pub ask-requires-clause-greeted : goal.ask-requires-clause-greeted
ask-requires-clause-greeted g c =
    let phase = ap (λ e. e.end.phase) c.self.view_is ∙ c.requires.phase in
    let within = (in-phase g.M.Master.model _ _ phase c.self.invariant.1).0 in
    (ports-in g.M.Master.model _ _ phase c.self.invariant.1 _ _ (there _ _ _ within c.index_mut.ensures.value)).greeted

pub ask-requires-clause-free : goal.ask-requires-clause-free
ask-requires-clause-free g c =
    let phase = ap (λ e. e.end.phase) c.self.view_is ∙ c.requires.phase in
    let within = (in-phase g.M.Master.model _ _ phase c.self.invariant.1).0 in
    c.requires.free _ (ap (λ e. slice_get e.end.ports c.args.port) (sym c.self.view_is) ∙ there _ _ _ within c.index_mut.ensures.value)

pub invariant_of-self : goal.invariant_of-self
invariant_of-self g c =
    let phase = ap (λ e. e.end.phase) c.self.view_is ∙ c.requires.phase in
    let within = (in-phase g.M.Master.model _ _ phase c.self.invariant.1).0 in
    let at = there _ _ _ within c.index_mut.ensures.value in
    let free = c.requires.free _ (ap (λ e. slice_get e.end.ports c.args.port) (sym c.self.view_is) ∙ at) in
    let room = c.self.invariant.0 in
    let grows = c.ask.ensures.place in (
      omega (arith, room, grows),
      send-machine g.M.Master.model _ _ _ _ _ phase at free c.ask.ensures.port c.self.invariant.1,
    )

pub finish-requires-clause-free : goal.finish-requires-clause-free
finish-requires-clause-free g c =
    let phase = ap (λ e. e.end.phase) c.self.view_is ∙ c.requires.phase in
    let within = (in-phase g.M.Master.model _ _ phase c.self.invariant.1).0 in
    let at = there _ _ _ within c.index_mut.ensures.value in
    let free = c.requires.free _ (ap (λ e. slice_get e.end.ports c.args.port) (sym c.self.view_is) ∙ at) in
    posted-none g.M.Master.model _ _ _ _ _ phase at free c.ask.ensures.port c.self.invariant.1 c.requires.access c.if-access.true

pub invariant_of-self-else-access : goal.invariant_of-self-else-access
invariant_of-self-else-access g c =
    let phase = ap (λ e. e.end.phase) c.self.view_is ∙ c.requires.phase in
    let within = (in-phase g.M.Master.model _ _ phase c.self.invariant.1).0 in
    let at = there _ _ _ within c.index_mut.ensures.value in
    let free = c.requires.free _ (ap (λ e. slice_get e.end.ports c.args.port) (sym c.self.view_is) ∙ at) in
    let size = length-set c.self.inside.ports.items c.args.port c.ask.new.self in
    let some : c.args.port < length (set c.self.inside.ports.items c.args.port c.ask.new.self) = omega (arith, within, size) in
    let room = c.self.invariant.0 in
    let grows = c.ask.ensures.place in (
      omega (arith, room, grows),
      await-machine g.M.Master.model _ _ _ _ _ phase at free c.ask.ensures.port c.self.invariant.1 _ _
          (there _ _ _ some c.index_mut-else-access.ensures.value) c.begin_wait.ensures,
    )

pub returns-then-access : goal.returns-then-access
returns-then-access g c =
    let phase = ap (λ e. e.end.phase) c.self.view_is ∙ c.requires.phase in
    let within = (in-phase g.M.Master.model _ _ phase c.self.invariant.1).0 in
    let at = there _ _ _ within c.index_mut.ensures.value in
    let free = c.requires.free _ (ap (λ e. slice_get e.end.ports c.args.port) (sym c.self.view_is) ∙ at) in
    sends-posted g.M.Master.model _ _ _ _ _ phase at free c.ask.ensures.port c.self.invariant.1 _ _ c.self.view_is _ _ _
    c.ask.ensures.bytes c.plain.result c.if-access.true c.plain.ensures _ c.finish.ensures

pub returns-else-access : goal.returns-else-access
returns-else-access g c =
    let phase = ap (λ e. e.end.phase) c.self.view_is ∙ c.requires.phase in
    let within = (in-phase g.M.Master.model _ _ phase c.self.invariant.1).0 in
    let at = there _ _ _ within c.index_mut.ensures.value in
    let free = c.requires.free _ (ap (λ e. slice_get e.end.ports c.args.port) (sym c.self.view_is) ∙ at) in
    let size = length-set c.self.inside.ports.items c.args.port c.ask.new.self in
    let some : c.args.port < length (set c.self.inside.ports.items c.args.port c.ask.new.self) = omega (arith, within, size) in
    sends-awaited g.M.Master.model _ _ _ _ _ phase at free c.ask.ensures.port c.self.invariant.1 _ _ c.self.view_is _ _ _
    c.ask.ensures.bytes _ _ c.if-access.false (there _ _ _ some c.index_mut-else-access.ensures.value) c.begin_wait.ensures
