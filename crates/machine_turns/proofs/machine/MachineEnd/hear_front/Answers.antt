use Rattle.std.proofs.Common.{refl, sym, ap, ◌∙◌, ◌≡◌, ◌<◌, ◌≤◌, arith, length, subst, Ok}
use Rattle.std.specs.Prelude.{None, Some}
use Rattle.std.proofs.lemmas.List.{length-map}
use Rattle.std.proofs.lemmas.Option.{slice_get_read}
use Rattle.cosim_model.specs.declared.session.EndFault.TheVariants as fault
use Rattle.ends_model.specs.declared.ends.Turn.TheVariants as turn
use Rattle.ends_model.specs.MachineTurn.{machine_acts}
use Rattle.rp_packet.specs.Reading.{fault_at}
use Rattle.rp_packet.specs.Refusals.{first}
use Rattle.machine_core.specs.Machines.{awaited}
use Rattle.machine_turns.specs.Ends.{IsTurn, held_at, held_of, received, taken_at, taken_in}
use Rattle.machine_turns.proofs.Turning.{held-there, made, malformed, of-same, unready}
use Rattle.machine_turns.proofs.machine.MachineEnd.hear_front.Goals as goal

pub hear-requires-clause-front : goal.hear-requires-clause-front
hear-requires-clause-front g c =
    let fs = c.self.inside.framers.items in
    let p = c.args.port in
    let size = ap (λ e. length e.ports) c.self.view_is in
    let same = length-map fs received in
    let there = c.requires.there in
    let within : p < length fs = omega (arith, size, same, there) in
    let at = slice_get_read fs (length fs) p c.index.result.now refl within c.index.ensures in
    let front = rw c.in-Ok-Some.field-0-is at c.in-Ok-Some.ensures.front in
    ap (λ e. first (held_at e p)) (sym c.self.view_is) ∙ ap (λ o. first (held_of o)) (held-there fs p _ at) ∙ front.0

pub hear-requires-clause-within : goal.hear-requires-clause-within
hear-requires-clause-within g c =
    let fs = c.self.inside.framers.items in
    let p = c.args.port in
    let size = ap (λ e. length e.ports) c.self.view_is in
    let same = length-map fs received in
    let there = c.requires.there in
    let within : p < length fs = omega (arith, size, same, there) in
    let at = slice_get_read fs (length fs) p c.index.result.now refl within c.index.ensures in
    let held : length (held_at c.args.self.now p) ≡ length c.index.result.now.held =
    ap (λ e. length (held_at e p)) (sym c.self.view_is) ∙ ap (λ o. length (held_of o)) (held-there fs p _ at) in
    let few : c.in-Ok-Some.size ≤ length c.index.result.now.held =
    rw c.in-Ok-Some.field-0-is at c.in-Ok-Some.ensures.within in
    omega (arith, held, few)

pub returns-in-Ok-None-clause-turns : goal.returns-in-Ok-None-clause-turns
returns-in-Ok-None-clause-turns g c sent =
    let i = c.self.inside in
    let k = g.M.Master.model in
    let fs = i.framers.items in
    let p = c.args.port in
    let size = ap (λ e. length e.ports) c.self.view_is in
    let same = length-map fs received in
    let there = c.requires.there in
    let within : p < length fs = omega (arith, size, same, there) in
    let at = slice_get_read fs (length fs) p c.index.result.now refl within c.index.ensures in
    let front = rw c.in-Ok-None.field-0-is at c.in-Ok-None.ensures.front in
    subst (λ x. IsTurn k x x sent sent (Ok (turn.NotYet p)) None) c.self.view_is
    (unready k (made i.core.end i.fault fs) p sent (ap (λ e. e.kept) c.self.view_is ∙ c.requires.kept) c.self.invariant.1
    (ap (λ e. awaited (machine_acts k e.clear)) c.self.view_is ∙ c.requires.awaited)
    (ap (λ o. first (held_of o)) (held-there fs p _ at) ∙ front))

pub returns-in-Err-Malformed-clause-turns : goal.returns-in-Err-Malformed-clause-turns
returns-in-Err-Malformed-clause-turns g c sent =
    let i = c.self.inside in
    let k = g.M.Master.model in
    let fs = i.framers.items in
    let p = c.args.port in
    let size = ap (λ e. length e.ports) c.self.view_is in
    let same = length-map fs received in
    let there = c.requires.there in
    let within : p < length fs = omega (arith, size, same, there) in
    let ports = c.self.invariant.2 in
    let core_there : p < length i.core.end.ports = omega (arith, within, ports) in
    let at = slice_get_read fs (length fs) p c.index.result.now refl within c.index.ensures in
    let front = rw c.in-Err-Malformed.field-0-is at c.in-Err-Malformed.ensures.front in
    of-same k _ _ _ _ _ _ _ c.self.view_is
    (malformed k (made i.core.end i.fault fs)
    (made i.core.end (Some (record { port = p; fault = fault.Malformed c.in-Err-Malformed.fault })) fs) p front.1
    c.in-Err-Malformed.fault sent (ap (λ e. e.kept) c.self.view_is ∙ c.requires.kept) c.self.invariant.1
    (ap (λ e. awaited (machine_acts k e.clear)) c.self.view_is ∙ c.requires.awaited)
    (ap (λ o. first (held_of o)) (held-there fs p _ at) ∙ front.2) core_there refl refl refl)

pub returns-in-Err-Malformed-clause-front : goal.returns-in-Err-Malformed-clause-front
returns-in-Err-Malformed-clause-front g c =
    let fs = c.self.inside.framers.items in
    let p = c.args.port in
    let size = ap (λ e. length e.ports) c.self.view_is in
    let same = length-map fs received in
    let there = c.requires.there in
    let within : p < length fs = omega (arith, size, same, there) in
    let at = held-there fs p _ (slice_get_read fs (length fs) p c.index.result.now refl within c.index.ensures) in
    let front = rw c.in-Err-Malformed.field-0-is at c.in-Err-Malformed.ensures.front in (
      front.1,
      ap (λ e. first (held_at e p)) (sym c.self.view_is) ∙ ap (λ o. first (held_of o)) at ∙ front.2,
      front.0 ∙ ap (λ n. fault_at n c.in-Err-Malformed.fault.cause)
          (sym (ap (λ e. taken_at e p) (sym c.self.view_is) ∙ ap taken_in at)),
    )
