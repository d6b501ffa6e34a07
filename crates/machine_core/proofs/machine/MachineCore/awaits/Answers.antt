use Rattle.std.proofs.Common.{ap, ◌∙◌, sym, arith}
use Rattle.std.specs.Prelude.{map}
use Rattle.std.proofs.lemmas.Option.{slice_get_within}
use Rattle.ends_model.specs.MachineTurn.{first_true, is_unknown}
use Rattle.machine_core.proofs.Gathering.{first-there}
use Rattle.machine_core.proofs.machine.MachineCore.awaits.Goals as goal

pub overflow_cast-result : goal.overflow_cast-result
overflow_cast-result g c =
    let found = ap (λ qs. first_true (map is_unknown qs)) (sym c.as_slice.ensures.value) ∙ sym c.first_unknown.ensures ∙ c.in-Some.is in
    let here = first-there is_unknown c.self.inside.ports.items c.in-Some.port found in
    let within = slice_get_within c.self.inside.ports.items c.in-Some.port _ here.1 in
    let few = c.self.invariant.1.few in
    omega (arith, within, few)
