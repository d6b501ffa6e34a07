use Rattle.std.proofs.Common.{ap, ◌∙◌, sym, arith}
use Rattle.std.specs.Prelude.{map, option_map, slice_get}
use Rattle.std.proofs.lemmas.Option.{slice_get_within}
use Rattle.cosim_model.specs.Order.{least}
use Rattle.ends_model.specs.MachineTurn.{first_true, held_time, is_unknown}
use Rattle.machine_core.proofs.Gathering.{first-there, first-held, never-idle}
use Rattle.machine_core.proofs.machine.MachineCore.gather.Goals as goal

pub overflow_cast-result : goal.overflow_cast-result
overflow_cast-result g c =
    let found = ap (λ qs. first_true (map is_unknown qs)) (sym c.as_slice.ensures.value) ∙ sym c.first_unknown.ensures ∙ c.in-Some.is in
    let here = first-there is_unknown c.self.inside.ports.items c.in-Some.port found in
    let within = slice_get_within c.self.inside.ports.items c.in-Some.port _ here.1 in
    let few = c.self.invariant.1.few in
    omega (arith, within, few)

pub overflow_cast-port : goal.overflow_cast-port
overflow_cast-port g c =
    let port = c.in-Some-first_held.port in
    let found = c.in-Some-first_held.ensures ∙ ap (λ qs. option_map (λ r. r.0) (least (map held_time qs))) c.as_slice-2.ensures.value in
    let here = (first-held c.self.inside.ports.items port found).2 in
    let within = slice_get_within c.self.inside.ports.items port _ here.1 in
    let few = c.self.invariant.1.few in
    omega (arith, within, few)

pub serve-requires-clause-held : goal.serve-requires-clause-held
serve-requires-clause-held g c =
    let port = c.in-Some-first_held.port in
    let found = c.in-Some-first_held.ensures ∙ ap (λ qs. option_map (λ r. r.0) (least (map held_time qs))) c.as_slice-2.ensures.value in
    let here = (first-held c.self.inside.ports.items port found).2 in
    (here.0, ap (λ e. slice_get e.end.ports port) (sym c.self.view_is) ∙ here.1, here.2)

pub unreachable-requires : goal.unreachable-requires
unreachable-requires g c =
    let phase = ap (λ e. e.end.phase) c.self.view_is ∙ c.requires.phase in
    let known = ap (λ qs. first_true (map is_unknown qs)) (sym c.as_slice.ensures.value) ∙ sym c.in_default.ensures in
    let none = c.in-None.ensures ∙ ap (λ qs. option_map (λ r. r.0) (least (map held_time qs))) c.as_slice-2.ensures.value in
    never-idle g.M.Master.model _ phase known none c.self.invariant.1
