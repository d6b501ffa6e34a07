use Rattle.std.proofs.Common.{ap, ◌∙◌, arith}
use Rattle.std.specs.Prelude.{slice_get}
use Rattle.std.proofs.lemmas.Option.{slice_get_within}
use Rattle.machine_core.proofs.Frames.{there}
use Rattle.machine_core.proofs.Gathering.{held-same, some-of, serve-machine, serve-does}
use Rattle.machine_core.proofs.machine.MachineCore.serve.Goals as goal

pub serve-requires-clause-held : goal.serve-requires-clause-held
serve-requires-clause-held g c =
    let qs = c.self.inside.ports.items in
    let p = c.args.port in
    let one = ap (λ e. slice_get e.end.ports c.args.port) c.self.view_is ∙ c.requires.held.1 in
    let within = slice_get_within qs p _ one in
    held-same qs p _ _ one (there qs p _ within c.index_mut.ensures.value) c.requires.held.2

pub invariant_of-self-2 : goal.invariant_of-self-2
invariant_of-self-2 g c =
    let qs = c.self.inside.ports.items in
    let p = c.args.port in
    let phase = ap (λ e. e.end.phase) c.self.view_is ∙ c.requires.phase in
    let one = ap (λ e. slice_get e.end.ports c.args.port) c.self.view_is ∙ c.requires.held.1 in
    let at = there qs p _ (slice_get_within qs p _ one) c.index_mut.ensures.value in
    let held = some-of _ (held-same qs p _ _ one at c.requires.held.2) in
    let room = c.self.invariant.0 in
    let grows = c.serve.ensures.place in (
      omega (arith, room, grows),
      serve-machine g.M.Master.model _ _ _ _ _ _ _ _ _ _ at held.1 (c.in_ok-answered.ensures.served held.0 held.1)
          g.met.M.Master.lawful phase c.self.invariant.1,
    )

pub returns-clause-acts : goal.returns-clause-acts
returns-clause-acts g c =
    let qs = c.self.inside.ports.items in
    let p = c.args.port in
    let one = ap (λ e. slice_get e.end.ports c.args.port) c.self.view_is ∙ c.requires.held.1 in
    let at = there qs p _ (slice_get_within qs p _ one) c.index_mut.ensures.value in
    let held = some-of _ (held-same qs p _ _ one at c.requires.held.2) in
    serve-does g.M.Master.model _ _ _ _ _ _ _ _ _ _ at held.1 (c.in_ok-answered.ensures.served held.0 held.1) _ _ _
    c.self.view_is _ c.service_turn.ensures
