use Rattle.std.proofs.Common.{refl, sym, ap, ◌∙◌, ◌<◌, arith, length, map, set, subst, Err}
use Rattle.std.proofs.lemmas.List.{length-map, length-set, map-set}
use Rattle.std.proofs.lemmas.List.Elements.{All-set}
use Rattle.std.proofs.lemmas.Option.{slice_get_read}
use Rattle.cosim_model.specs.Packets.Decoded.{Valid}
use Rattle.ends_model.specs.MachineTurn.{machine_acts, machine_takes}
use Rattle.rp_packet.specs.Refusals.{first}
use Rattle.rp_packet.specs.Values.{value_of}
use Rattle.machine_core.specs.Machines.{Becomes, awaited}
use Rattle.machine_turns.specs.Ends.{IsOpen, held_at, received, taken_at}
use Rattle.machine_turns.proofs.Fronts.{heard-blamed}
use Rattle.machine_turns.proofs.Ports.{hears-size}
use Rattle.machine_turns.proofs.Turning.{all-counted, held-there, made, of-same, open-skipped, refused-as, took}
use Rattle.machine_turns.proofs.machine.MachineEnd.hear.Goals as goal

pub invariant_of-self-in-Ok-hear : goal.invariant_of-self-in-Ok-hear
invariant_of-self-in-Ok-hear g c =
    let fs = c.self.inside.framers.items in
    let p = c.args.port in (
      All-set IsOpen fs p c.skip.new.self (open-skipped c.index_mut.result.now c.skip.new.self c.args.size c.skip.ensures) c.self.invariant.0,
      c.hear.ensures.clear,
      length-set fs p c.skip.new.self ∙ c.self.invariant.2 ∙ ap (λ h. length h.ports) (sym c.reserve_calls.ensures.end)
          ∙ sym (hears-size g.M.Master.model c.reserve_calls.new.self c.hear.new.self p _ _ c.hear.ensures.hears),
    )

pub returns-in-Ok-hear-clause-turns : goal.returns-in-Ok-hear-clause-turns
returns-in-Ok-hear-clause-turns g c sent =
    let i = c.self.inside in
    let k = g.M.Master.model in
    let fs = i.framers.items in
    let p = c.args.port in
    let m = value_of c.args.packet in
    let f = c.index_mut.result.now in
    let kept = ap (λ e. e.kept) c.self.view_is ∙ c.requires.kept in
    let size = ap (λ e. length e.ports) c.self.view_is in
    let same = length-map fs received in
    let there = c.requires.there in
    let within : p < length fs = omega (arith, size, same, there) in
    let at = slice_get_read fs (length fs) p f refl within c.index_mut.ensures.value in
    of-same k _ _ _ _ _ _ _ c.self.view_is
    (took k (made i.core.end i.fault fs)
    (made c.hear.new.self.end i.fault (set fs p c.skip.new.self)) p c.args.size m
    (received f) sent kept c.self.invariant.1
    (ap (λ e. awaited (machine_acts k e.clear)) c.self.view_is ∙ c.requires.awaited)
    (ap (λ e. first (held_at e p)) c.self.view_is ∙ c.requires.front) (all-counted fs c.self.invariant.0)
    (held-there fs p f at)
    (map-set received fs p c.skip.new.self ∙ ap (λ x. set (map received fs) p (received x)) c.skip.ensures) kept
    (c.in-Ok-hear.ensures.hears ∙ ap (λ h. machine_takes k h p (Valid m)) c.reserve_calls.ensures.end)
    c.hear.ensures.clear)

pub invariant_of-self-in-Err-hear : goal.invariant_of-self-in-Err-hear
invariant_of-self-in-Err-hear g c = (
  c.self.invariant.0,
  c.hear.ensures.clear,
  c.self.invariant.2 ∙ ap (λ h. length h.ports) (sym c.reserve_calls.ensures.end)
      ∙ sym (hears-size g.M.Master.model c.reserve_calls.new.self c.hear.new.self c.args.port _ _ c.hear.ensures.hears),
)

pub returns-in-Err-hear-clause-turns : goal.returns-in-Err-hear-clause-turns
returns-in-Err-hear-clause-turns g c sent =
    let i = c.self.inside in
    let k = g.M.Master.model in
    let fs = i.framers.items in
    let p = c.args.port in
    let m = value_of c.args.packet in
    let kept = ap (λ e. e.kept) c.self.view_is ∙ c.requires.kept in
    of-same k _ _ _ _ _ _ _ c.self.view_is
    (refused-as k (made i.core.end i.fault fs) c.hear.new.self.end fs p c.args.size m c.in-Err-hear.fault c.end_fault.result
    sent kept c.self.invariant.1
    (ap (λ e. awaited (machine_acts k e.clear)) c.self.view_is ∙ c.requires.awaited)
    (ap (λ e. first (held_at e p)) c.self.view_is ∙ c.requires.front) c.end_fault.ensures refl
    (subst (λ h. Becomes (machine_takes k h p (Valid m)) c.hear.new.self.end p (Err c.in-Err-hear.fault))
    c.reserve_calls.ensures.end c.in-Err-hear.ensures.hears))

pub returns-in-Ok-hear-clause-front : goal.returns-in-Ok-hear-clause-front
returns-in-Ok-hear-clause-front g c = (value_of c.args.packet, c.args.size, c.requires.front)

pub returns-in-Err-hear-clause-front : goal.returns-in-Err-hear-clause-front
returns-in-Err-hear-clause-front g c =
    heard-blamed (taken_at c.args.self.now c.args.port) (held_at c.args.self.now c.args.port) c.in-Err-hear.fault
    c.end_fault.result c.end_fault.ensures
