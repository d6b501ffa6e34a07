use Rattle.std.proofs.Common.{refl, sym, ap, ◌∙◌, arith}
use Rattle.std.specs.Prelude.{map}
use Rattle.cosim_model.specs.Values.{all_on}
use Rattle.ends_model.specs.MachineTurn.{is_clear}
use Rattle.rp_packet.specs.Values.{value_of}
use Rattle.machine_core.proofs.Awaiting.{awaiting-seen, awaiting-there}
use Rattle.machine_core.proofs.Frames.{there}
use Rattle.machine_core.proofs.Taken.{answered-machine, over-machine, sync-gone, sync-kept, taken-machine, took, took-over}
use Rattle.machine_core.proofs.machine.MachineCore.take.Goals as goal

pub index_mut-requires : goal.index_mut-requires
index_mut-requires g c =
    let k = g.M.Master.model in
    let qs = c.self.inside.ports.items in
    let p = c.args.port in
    let machine = c.self.invariant.1 in
    let awaits = awaiting-seen k _ p _ _ c.self.view_is refl c.requires.awaited in
    let within = awaiting-there k _ p machine awaits in
    omega (arith, within, c.self.inside.ports.ok.0)

pub invariant_of-self : goal.invariant_of-self
invariant_of-self g c =
    let k = g.M.Master.model in
    let qs = c.self.inside.ports.items in
    let p = c.args.port in
    let machine = c.self.invariant.1 in
    let awaits = awaiting-seen k _ p _ _ c.self.view_is refl c.requires.awaited in
    let within = awaiting-there k _ p machine awaits in
    let at = there qs p _ within c.index_mut.ensures.value in
    let m = value_of c.args.packet.now in
    let is = c.take-result.ensures.port in
    let keeps = c.take-result.ensures.keeps in
    let held = ap (λ x. x.held) is in
    let more = sym c.if-not-ends_sync.ensures in (
      c.self.invariant.0,
      taken-machine k _ p _ _ at keeps held machine awaits (sync-kept c.index_mut.result.now.session c.take-result.new.self.session m _ c.take-result.ensures.taken more),
    )

pub returns-then-not-ends_sync-clause-took : goal.returns-then-not-ends_sync-clause-took
returns-then-not-ends_sync-clause-took g c =
    let k = g.M.Master.model in
    let qs = c.self.inside.ports.items in
    let p = c.args.port in
    let machine = c.self.invariant.1 in
    let awaits = awaiting-seen k _ p _ _ c.self.view_is refl c.requires.awaited in
    let within = awaiting-there k _ p machine awaits in
    let at = there qs p _ within c.index_mut.ensures.value in
    let m = value_of c.args.packet.now in
    let is = c.take-result.ensures.port in
    let keeps = c.take-result.ensures.keeps in
    let more = sym c.if-not-ends_sync.ensures in
    took k _ p m _ _ at is keeps machine awaits _ _ c.self.view_is _ c.take-result.ensures.event c.take-result.ensures.taken
    (λ ends phase. absurd (cc (ends, more)))

pub invariant_of-self-then-not-is_over : goal.invariant_of-self-then-not-is_over
invariant_of-self-then-not-is_over g c =
    let k = g.M.Master.model in
    let qs = c.self.inside.ports.items in
    let p = c.args.port in
    let machine = c.self.invariant.1 in
    let awaits = awaiting-seen k _ p _ _ c.self.view_is refl c.requires.awaited in
    let within = awaiting-there k _ p machine awaits in
    let at = there qs p _ within c.index_mut.ensures.value in
    let m = value_of c.args.packet.now in
    let is = c.take-result.ensures.port in
    let keeps = c.take-result.ensures.keeps in
    let held = ap (λ x. x.held) is in
    let ends = sym c.if-not-ends_sync.ensures in (
      c.self.invariant.0,
      answered-machine k _ p _ _ at keeps held machine awaits (sync-gone c.index_mut.result.now.session c.take-result.new.self.session m _ c.take-result.ensures.taken ends)
          (λ phase. ap (λ ps. all_on (map is_clear ps)) (sym c.as_slice.ensures.value)
          ∙ c.is_over.ensures.no c.if-not-is_over.true phase),
    )

pub returns-then-not-is_over-clause-took : goal.returns-then-not-is_over-clause-took
returns-then-not-is_over-clause-took g c =
    let k = g.M.Master.model in
    let qs = c.self.inside.ports.items in
    let p = c.args.port in
    let machine = c.self.invariant.1 in
    let awaits = awaiting-seen k _ p _ _ c.self.view_is refl c.requires.awaited in
    let within = awaiting-there k _ p machine awaits in
    let at = there qs p _ within c.index_mut.ensures.value in
    let m = value_of c.args.packet.now in
    let is = c.take-result.ensures.port in
    let keeps = c.take-result.ensures.keeps in
    took k _ p m _ _ at is keeps machine awaits _ _ c.self.view_is _ c.take-result.ensures.event c.take-result.ensures.taken
    (λ ends phase. ap (λ ps. all_on (map is_clear ps)) (sym c.as_slice.ensures.value)
    ∙ c.is_over.ensures.no c.if-not-is_over.true phase)

pub invariant_of-self-2 : goal.invariant_of-self-2
invariant_of-self-2 g c =
    let k = g.M.Master.model in
    let qs = c.self.inside.ports.items in
    let p = c.args.port in
    let machine = c.self.invariant.1 in
    let awaits = awaiting-seen k _ p _ _ c.self.view_is refl c.requires.awaited in
    let within = awaiting-there k _ p machine awaits in
    let at = there qs p _ within c.index_mut.ensures.value in
    let m = value_of c.args.packet.now in
    let is = c.take-result.ensures.port in
    let keeps = c.take-result.ensures.keeps in
    let held = ap (λ x. x.held) is in
    let over = c.is_over.ensures.yes c.if-not-is_over.false in
    let all = ap (λ ps. all_on (map is_clear ps)) (sym c.as_slice.ensures.value) ∙ over.1 in (
      c.self.invariant.0,
      over-machine k _ p _ _ _ at keeps held machine awaits over.0 all c.phase_after-self-inside.ensures,
    )

pub returns-clause-took : goal.returns-clause-took
returns-clause-took g c =
    let k = g.M.Master.model in
    let qs = c.self.inside.ports.items in
    let p = c.args.port in
    let machine = c.self.invariant.1 in
    let awaits = awaiting-seen k _ p _ _ c.self.view_is refl c.requires.awaited in
    let within = awaiting-there k _ p machine awaits in
    let at = there qs p _ within c.index_mut.ensures.value in
    let m = value_of c.args.packet.now in
    let is = c.take-result.ensures.port in
    let keeps = c.take-result.ensures.keeps in
    let ends = sym c.if-not-ends_sync.ensures in
    let over = c.is_over.ensures.yes c.if-not-is_over.false in
    let all = ap (λ ps. all_on (map is_clear ps)) (sym c.as_slice.ensures.value) ∙ over.1 in
    took-over k _ p m _ _ at is keeps machine awaits _ _ c.self.view_is _ c.take-result.ensures.event ends over.0 all _
    c.phase_after-self-inside.ensures
