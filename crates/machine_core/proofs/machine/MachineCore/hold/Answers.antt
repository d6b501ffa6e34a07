use Rattle.std.proofs.Common.{sym, ap, ◌∙◌}
use Rattle.std.specs.Prelude.{is_some, slice_get}
use Rattle.std.proofs.lemmas.Option.{slice_get_within}
use Rattle.rp_packet.specs.Values.{value_of}
use Rattle.machine_core.proofs.Frames.{only, there}
use Rattle.machine_core.proofs.Keeping.{hold-machine, hold-seen}
use Rattle.machine_core.proofs.machine.MachineCore.hold.Goals as goal

pub invariant_of-self : goal.invariant_of-self
invariant_of-self g c =
    let qs = c.self.inside.ports.items in
    let p = c.args.port in
    let may = c.requires.1 in
    let one = ap (λ e. slice_get e.end.ports p) c.self.view_is ∙ may.there in
    let at = there qs p _ (slice_get_within qs p _ one) c.index_mut.ensures.value in
    let same = only qs p _ _ one at in (
      c.self.invariant.0,
      hold-machine g.M.Master.model _ p _ (value_of c.args.packet) at _ _ c.hold.ensures.ok c.hold.ensures.err c.self.invariant.1
          (λ phase. ap (λ x. is_some x.session.own_sync) (sym same)
          ∙ may.synced (ap (λ e. e.end.phase) (sym c.self.view_is) ∙ phase)),
    )

pub returns : goal.returns
returns g c q here =
    let qs = c.self.inside.ports.items in
    let p = c.args.port in
    let one = ap (λ e. slice_get e.end.ports p) c.self.view_is ∙ here in
    let at = there qs p _ (slice_get_within qs p _ one) c.index_mut.ensures.value in
    hold-seen g.M.Master.model _ p _ (value_of c.args.packet) at _ _ c.hold.ensures.ok c.hold.ensures.err _ _ c.self.view_is q
    here
