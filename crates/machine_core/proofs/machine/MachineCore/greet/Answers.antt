use Rattle.std.proofs.Common.{ap, ◌∙◌, length, set, arith, ◌≤◌, ◌<◌, ◌+◌}
use Rattle.std.proofs.lemmas.List.{length-set}
use Rattle.machine_core.proofs.Frames.{there, in-phase}
use Rattle.machine_core.proofs.Greeting.{not-greeted, greet-more, greet-last, greets-more, greets-last}
use Rattle.machine_core.proofs.machine.MachineCore.greet.Goals as goal

pub greet-requires-clause-fresh : goal.greet-requires-clause-fresh
greet-requires-clause-fresh g c =
    let phase = ap (λ e. e.end.phase) c.self.view_is ∙ c.requires.phase in
    let within = (in-phase g.M.Master.model _ _ phase c.self.invariant.1).0 in
    not-greeted g.M.Master.model _ _ _ phase (there _ _ _ within c.index_mut.ensures.value) c.self.invariant.1

pub invariant_of-self-then-at-len : goal.invariant_of-self-then-at-len
invariant_of-self-then-at-len g c =
    let phase = ap (λ e. e.end.phase) c.self.view_is ∙ c.requires.phase in
    let within = (in-phase g.M.Master.model _ _ phase c.self.invariant.1).0 in
    let more : c.args.port + 1 < length c.self.inside.ports.items = omega (arith, c.self.inside.ports.ok.0) in (
      c.self.invariant.0,
      greet-more g.M.Master.model _ _ _ _ phase (there _ _ _ within c.index_mut.ensures.value) c.in_ok-greet.ensures.port
          c.self.invariant.1 more,
    )

pub invariant_of-self-else-at-len : goal.invariant_of-self-else-at-len
invariant_of-self-else-at-len g c =
    let phase = ap (λ e. e.end.phase) c.self.view_is ∙ c.requires.phase in
    let within = (in-phase g.M.Master.model _ _ phase c.self.invariant.1).0 in
    let last : length c.self.inside.ports.items ≤ c.args.port + 1 = omega (arith, c.self.inside.ports.ok.0) in
    let size = length-set c.self.inside.ports.items c.args.port c.greet.new.self in
    let some : 0 < length (set c.self.inside.ports.items c.args.port c.greet.new.self) = omega (arith, within, size) in (
      c.self.invariant.0,
      greet-last g.M.Master.model _ _ _ _ phase (there _ _ _ within c.index_mut.ensures.value) c.in_ok-greet.ensures.port
          c.self.invariant.1 _ _ last
          (there _ _ _ some c.index_mut-else-at-len.ensures.value) c.begin_wait.ensures,
    )

pub returns-then-at-len : goal.returns-then-at-len
returns-then-at-len g c =
    let phase = ap (λ e. e.end.phase) c.self.view_is ∙ c.requires.phase in
    let within = (in-phase g.M.Master.model _ _ phase c.self.invariant.1).0 in
    let more : c.args.port + 1 < length c.self.inside.ports.items = omega (arith, c.self.inside.ports.ok.0) in
    greets-more g.M.Master.model _ _ _ _ (there _ _ _ within c.index_mut.ensures.value) c.in_ok-greet.ensures.port _ _
    c.self.view_is _ _ _ c.in_ok-greet.ensures.bytes more

pub returns-else-at-len : goal.returns-else-at-len
returns-else-at-len g c =
    let phase = ap (λ e. e.end.phase) c.self.view_is ∙ c.requires.phase in
    let within = (in-phase g.M.Master.model _ _ phase c.self.invariant.1).0 in
    let last : length c.self.inside.ports.items ≤ c.args.port + 1 = omega (arith, c.self.inside.ports.ok.0) in
    let size = length-set c.self.inside.ports.items c.args.port c.greet.new.self in
    let some : 0 < length (set c.self.inside.ports.items c.args.port c.greet.new.self) = omega (arith, within, size) in
    greets-last g.M.Master.model _ _ _ _ (there _ _ _ within c.index_mut.ensures.value) c.in_ok-greet.ensures.port _ _
    c.self.view_is _ _ _ c.in_ok-greet.ensures.bytes _ _ last
    (there _ _ _ some c.index_mut-else-at-len.ensures.value) c.begin_wait.ensures
