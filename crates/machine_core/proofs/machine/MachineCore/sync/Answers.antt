use Rattle.std.proofs.Common.{ap, ◌∙◌, length, arith, ◌≤◌, ◌<◌, ◌+◌}
use Rattle.std.specs.Vec.{with_item}
use Rattle.ends_model.specs.MachineTurn.{with_wait}
use Rattle.machine_core.proofs.Scanning.{all-changed}
use Rattle.machine_core.proofs.Frames.{there, in-phase}
use Rattle.machine_core.proofs.Syncing.{sync-greeted, sync-free, sync-more, sync-last, syncs-more, syncs-last}
use Rattle.machine_core.proofs.machine.MachineCore.sync.Goals as goal

pub sync-requires-clause-greeted : goal.sync-requires-clause-greeted
sync-requires-clause-greeted g c =
    let phase = ap (λ e. e.end.phase) c.self.view_is ∙ c.requires.phase in
    let within = (in-phase g.M.Master.model _ _ phase c.self.invariant.1).0 in
    sync-greeted g.M.Master.model _ _ _ phase (there _ _ _ within c.index_mut.ensures.value) c.self.invariant.1

pub sync-requires-clause-free : goal.sync-requires-clause-free
sync-requires-clause-free g c =
    let phase = ap (λ e. e.end.phase) c.self.view_is ∙ c.requires.phase in
    let within = (in-phase g.M.Master.model _ _ phase c.self.invariant.1).0 in
    sync-free g.M.Master.model _ _ _ phase (there _ _ _ within c.index_mut.ensures.value) c.self.invariant.1

pub invariant_of-self : goal.invariant_of-self
invariant_of-self g c =
    let phase = ap (λ e. e.end.phase) c.self.view_is ∙ c.requires.phase in
    let within = (in-phase g.M.Master.model _ _ phase c.self.invariant.1).0 in
    let more : c.args.port + 1 < length c.self.inside.ports.items = omega (arith, c.self.inside.ports.ok.0) in (
      c.self.invariant.0,
      sync-more g.M.Master.model _ _ _ phase (there _ _ _ within c.index_mut.ensures.value) c.self.invariant.1 _
          c.sync.ensures.port more,
    )

pub invariant_of-self-else-at-len : goal.invariant_of-self-else-at-len
invariant_of-self-else-at-len g c =
    let phase = ap (λ e. e.end.phase) c.self.view_is ∙ c.requires.phase in
    let within = (in-phase g.M.Master.model _ _ phase c.self.invariant.1).0 in
    let last : length c.self.inside.ports.items ≤ c.args.port + 1 = omega (arith, c.self.inside.ports.ok.0) in
    let waits = all-changed with_wait (with_item c.self.inside.ports c.args.port c.sync.new.self) c.begin_waits.new.ports
    c.deref_mut.result.now c.begin_waits.ensures c.deref_mut.ensures.value in (
      c.self.invariant.0,
      sync-last g.M.Master.model _ _ _ phase (there _ _ _ within c.index_mut.ensures.value) c.self.invariant.1 _
          c.sync.ensures.port _ waits last,
    )

pub returns-then-at-len : goal.returns-then-at-len
returns-then-at-len g c =
    let phase = ap (λ e. e.end.phase) c.self.view_is ∙ c.requires.phase in
    let within = (in-phase g.M.Master.model _ _ phase c.self.invariant.1).0 in
    let more : c.args.port + 1 < length c.self.inside.ports.items = omega (arith, c.self.inside.ports.ok.0) in
    syncs-more g.M.Master.model _ _ _ _ (there _ _ _ within c.index_mut.ensures.value) c.sync.ensures.port _ _ c.self.view_is _
    _ _ c.sync.ensures.bytes more

pub returns-else-at-len : goal.returns-else-at-len
returns-else-at-len g c =
    let phase = ap (λ e. e.end.phase) c.self.view_is ∙ c.requires.phase in
    let within = (in-phase g.M.Master.model _ _ phase c.self.invariant.1).0 in
    let last : length c.self.inside.ports.items ≤ c.args.port + 1 = omega (arith, c.self.inside.ports.ok.0) in
    let waits = all-changed with_wait (with_item c.self.inside.ports c.args.port c.sync.new.self) c.begin_waits.new.ports
    c.deref_mut.result.now c.begin_waits.ensures c.deref_mut.ensures.value in
    syncs-last g.M.Master.model _ _ _ _ (there _ _ _ within c.index_mut.ensures.value) c.sync.ensures.port _ _ c.self.view_is _
    _ _ c.sync.ensures.bytes _ waits last
