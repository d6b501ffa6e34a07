-- The loop of drive, by the laws of what each turn and each read keep.
use Rattle.std.proofs.Common.{◌<◌, ◌≡◌, ◌∙◌, ap, arith, length, map, refl, subst, sym, List, Ok, Err}
use Rattle.std.proofs.lemmas.List.{length-map}
use Rattle.cos_base.specs.Links.{Wire}
use Rattle.ends_model.specs.declared.ends.Turn.{Turn}
use Rattle.ends_model.specs.World.{machine_start}
use Rattle.rp_packet.specs.declared.fault.Cause.{Cause}
use Rattle.machine_turns.specs.declared.fault.TurnFault.TheVariants as turn_fault
use Rattle.end_machine.specs.Driving.{HasFinished, Leaves}
use Rattle.end_machine.specs.Going.{ReadsOn}
use Rattle.end_machine.specs.Wires.{said_on}
use Rattle.end_machine.proofs.RunLaws.{counts-stay, ends-leaves, fresh-holds, fresh-size, going-fresh, read-holds}
use Rattle.end_machine.proofs.RunLaws.{read-on-goes, size-stays, step-goes, step-there, stops-leaves, wires-at}
use Rattle.end_machine.proofs.Standing.{done-run, fresh-run, read-run}
use Rattle.end_machine.proofs.StepLaws.{step-moves, step-waits}
use Rattle.end_machine.proofs.driving.run.Goals as goal

pub turns-init : goal.turns-init
turns-init g c = record {
  kept = ap (λ e. e.kept) c.requires.fresh;
  ports = fresh-size g.M.Master.model c.args.end.now.clear.plan c.args.end.now.clear.master (length c.args.links.now)
      c.args.end.now c.requires.fresh;
  size = refl;
  holds = fresh-holds g.M.Master.model c.args.end.now.clear.plan c.args.end.now.clear.master (length
      c.args.links.now) c.args.end.now c.requires.fresh;
  counts = refl;
  is_sound = λ s. s;
  runs = fresh-run g.M.Master.model c.args.end.now.clear.master (length c.args.links.now)
      c.args.end.now.clear.plan c.args.end.now c.requires.fresh;
  goes = λ ws tell. going-fresh g.M.Master.model c.args.end.now.clear.plan c.args.end.now.clear.master (length
      c.args.links.now) c.args.end.now (map g.L.Link.told c.args.links.now) ws
      c.requires.fresh (sym (length-map c.args.links.now g.L.Link.told)) c.requires.unused
      (λ p w here. wires-at g.L.Link.told g.met.L.Link.is_wire c.args.links.now p w here) tell;
}

pub turns-smaller-in-Turn : goal.turns-smaller-in-Turn
turns-smaller-in-Turn g c =
    (step-moves g.M.Master.model c.args.end.now.clear.plan (length c.args.links.now) c.turns.end c.step.new.end
    c.in-Ok.turn (sym c.need_after.ensures ∙ c.in-Turn.is) c.in-Ok.ensures.turned c.turns.invariant.holds).1

pub turns-preserved-in-Turn : goal.turns-preserved-in-Turn
turns-preserved-in-Turn g c = record {
  kept = c.in-Ok.ensures.kept;
  ports = c.in-Ok.ensures.ports;
  size = size-stays g.L.Link.count c.turns.links c.step.new.links c.in-Ok.turn c.in-Ok.ensures.counts
      ∙ c.turns.invariant.size;
  holds = (step-moves g.M.Master.model c.args.end.now.clear.plan (length c.args.links.now) c.turns.end c.step.new.end
      c.in-Ok.turn (sym c.need_after.ensures ∙ c.in-Turn.is) c.in-Ok.ensures.turned c.turns.invariant.holds).0;
  counts = counts-stay (map g.L.Link.count c.turns.links) (map g.L.Link.count c.step.new.links) c.in-Ok.turn
      c.in-Ok.ensures.counts ∙ c.turns.invariant.counts;
  is_sound = λ s. (c.in-Ok.ensures.is_sound (c.turns.invariant.is_sound s)).0;
  runs = c.in-Ok.ensures.runs _ _ c.turns.invariant.runs;
  goes = λ ws tell.
      step-goes g.M.Master.model c.args.end.now.clear.plan c.args.end.now.clear.master (length c.args.links.now)
      (length c.turns.links) (said_on ws) c.turns.end c.step.new.end
      (map g.L.Link.told c.turns.links) (map g.L.Link.told c.step.new.links) (Ok c.in-Ok.turn) c.turns.invariant.size
      c.in-Ok.ensures.goes (c.turns.invariant.goes ws tell);
}

pub read_on-requires-clause-there : goal.read_on-requires-clause-there
read_on-requires-clause-there g c =
    let there = step-there g.M.Master.model c.args.end.now.clear.plan c.args.end.now.clear.master (length
    c.args.links.now) c.in-Bytes.port c.turns.end c.step.new.end c.in-Ok.turn (sym c.need_after.ensures
    ∙ c.in-Bytes.is) c.in-Ok.ensures.turned c.turns.invariant.holds in
    let size : length c.step.new.end.ports ≡ length c.args.links.now = (sym c.in-Ok.ensures.ports
    ∙ size-stays g.L.Link.count c.turns.links c.step.new.links c.in-Ok.turn c.in-Ok.ensures.counts
    ∙ c.turns.invariant.size) in
    omega (arith, there, size)

pub read_on-requires-clause-waits : goal.read_on-requires-clause-waits
read_on-requires-clause-waits g c =
    (step-waits g.M.Master.model c.in-Bytes.port c.turns.end c.step.new.end c.in-Ok.turn (sym c.need_after.ensures
    ∙ c.in-Bytes.is) c.in-Ok.ensures.turned).0

pub turns-smaller : goal.turns-smaller
turns-smaller g c =
    (read-holds g.M.Master.model c.args.end.now.clear.plan c.args.end.now.clear.master (length c.args.links.now)
    c.in-Bytes.port c.turns.end c.step.new.end c.read_on.new.end c.in-Ok.turn c.in-Ok-More.field-0
    c.in-Ok-More.field-0-is (sym c.need_after.ensures ∙ c.in-Bytes.is) c.in-Ok.ensures.turned c.turns.invariant.holds
    (sym c.in-Ok.ensures.ports ∙ size-stays g.L.Link.count c.turns.links c.step.new.links c.in-Ok.turn
    c.in-Ok.ensures.counts ∙ c.turns.invariant.size) c.in-Ok-More.ensures.fed).1

pub turns-preserved : goal.turns-preserved
turns-preserved g c = record {
  kept = c.in-Ok-More.ensures.kept;
  ports = c.in-Ok-More.ensures.ports;
  size = size-stays g.L.Link.count c.step.new.links c.read_on.new.links c.in-Ok-More.field-0
      c.in-Ok-More.ensures.counts ∙ size-stays g.L.Link.count c.turns.links c.step.new.links c.in-Ok.turn
      c.in-Ok.ensures.counts ∙ c.turns.invariant.size;
  holds = (read-holds g.M.Master.model c.args.end.now.clear.plan c.args.end.now.clear.master (length
      c.args.links.now) c.in-Bytes.port c.turns.end c.step.new.end c.read_on.new.end c.in-Ok.turn c.in-Ok-More.field-0
      c.in-Ok-More.field-0-is (sym c.need_after.ensures ∙ c.in-Bytes.is) c.in-Ok.ensures.turned c.turns.invariant.holds
      (sym c.in-Ok.ensures.ports ∙ size-stays g.L.Link.count c.turns.links c.step.new.links c.in-Ok.turn
      c.in-Ok.ensures.counts ∙ c.turns.invariant.size) c.in-Ok-More.ensures.fed).0;
  counts = counts-stay (map g.L.Link.count c.step.new.links) (map g.L.Link.count c.read_on.new.links)
      c.in-Ok-More.field-0 c.in-Ok-More.ensures.counts
      ∙ counts-stay (map g.L.Link.count c.turns.links) (map g.L.Link.count c.step.new.links) c.in-Ok.turn
      c.in-Ok.ensures.counts ∙ c.turns.invariant.counts;
  is_sound = λ s. (c.in-Ok-More.ensures.is_sound (c.in-Ok.ensures.is_sound (c.turns.invariant.is_sound s)).0).0;
  runs = read-run g.M.Master.model c.in-Bytes.port c.step.new.end c.read_on.new.end c.in-Ok-More.field-0
      c.in-Ok-More.field-0-is c.in-Ok.ensures.kept c.in-Ok-More.ensures.fed _ _
      (c.in-Ok.ensures.runs _ _ c.turns.invariant.runs);
  goes = λ ws tell.
      subst (λ r. ReadsOn g.M.Master.model (machine_start Cause c.args.end.now.clear.master (length c.args.links.now)
      c.args.end.now.clear.plan) (said_on ws) c.in-Bytes.port
      c.read_on.new.end (map g.L.Link.told c.read_on.new.links) (Ok r)) c.in-Ok-More.field-0-is
      (read-on-goes g.M.Master.model c.args.end.now.clear.plan c.args.end.now.clear.master (length c.args.links.now)
      (length c.step.new.links) c.in-Bytes.port (said_on ws) c.step.new.end c.read_on.new.end
      (map g.L.Link.told c.step.new.links) (map g.L.Link.told c.read_on.new.links) (Ok c.in-Ok-More.field-0)
      (size-stays g.L.Link.count c.turns.links c.step.new.links c.in-Ok.turn c.in-Ok.ensures.counts
      ∙ c.turns.invariant.size) c.in-Ok-More.ensures.goes
      (step-goes g.M.Master.model c.args.end.now.clear.plan c.args.end.now.clear.master (length c.args.links.now)
      (length c.turns.links) (said_on ws) c.turns.end c.step.new.end
      (map g.L.Link.told c.turns.links) (map g.L.Link.told c.step.new.links) (Ok c.in-Ok.turn) c.turns.invariant.size
      c.in-Ok.ensures.goes (c.turns.invariant.goes ws tell)));
}

pub returns-in-Ok-End-clause-leaves : goal.returns-in-Ok-End-clause-leaves
returns-in-Ok-End-clause-leaves g c = λ ws tell.
    subst (λ s. Leaves g.M.Master.model s (said_on ws) c.read_on.new.end.clear (Err (turn_fault.Port (record {
      port =
          c.in-Bytes.port;
      fault = c.finish-fault.result;
    }))) (map g.L.Link.told c.read_on.new.links))
    (sym (ap (λ e. e.clear) c.requires.fresh))
    (ends-leaves g.M.Master.model c.args.end.now.clear.plan c.args.end.now.clear.master (length c.args.links.now)
    (said_on ws) c.in-Bytes.port c.turns.end c.step.new.end c.read_on.new.end c.in-Ok.turn
    c.in-Ok-End.field-0 c.finish-fault.result (map g.L.Link.told c.read_on.new.links) c.in-Ok-End.field-0-is (sym
    c.need_after.ensures ∙ c.in-Bytes.is) c.in-Ok.ensures.turned
    c.turns.invariant.holds (sym c.in-Ok.ensures.ports ∙ size-stays g.L.Link.count c.turns.links c.step.new.links
    c.in-Ok.turn c.in-Ok.ensures.counts ∙ c.turns.invariant.size) c.in-Ok.ensures.kept c.in-Ok.ensures.rests
    c.in-Ok-End.ensures.fed c.finish-fault.ensures
    (read-on-goes g.M.Master.model c.args.end.now.clear.plan c.args.end.now.clear.master (length c.args.links.now)
    (length c.step.new.links) c.in-Bytes.port (said_on ws) c.step.new.end c.read_on.new.end
    (map g.L.Link.told c.step.new.links) (map g.L.Link.told c.read_on.new.links) (Ok c.in-Ok-End.field-0)
    (size-stays g.L.Link.count c.turns.links c.step.new.links c.in-Ok.turn c.in-Ok.ensures.counts
    ∙ c.turns.invariant.size) c.in-Ok-End.ensures.goes
    (step-goes g.M.Master.model c.args.end.now.clear.plan c.args.end.now.clear.master (length c.args.links.now)
    (length c.turns.links) (said_on ws) c.turns.end c.step.new.end
    (map g.L.Link.told c.turns.links) (map g.L.Link.told c.step.new.links) (Ok c.in-Ok.turn) c.turns.invariant.size
    c.in-Ok.ensures.goes (c.turns.invariant.goes ws tell))))

pub returns-in-Err-read_on-clause-leaves : goal.returns-in-Err-read_on-clause-leaves
returns-in-Err-read_on-clause-leaves g c = λ ws tell.
    subst (λ s. Leaves g.M.Master.model s (said_on ws) c.read_on.new.end.clear (Err c.in-Err-read_on.fault) (map
    g.L.Link.told c.read_on.new.links))
    (sym (ap (λ e. e.clear) c.requires.fresh))
    (read-on-goes g.M.Master.model c.args.end.now.clear.plan c.args.end.now.clear.master (length c.args.links.now)
    (length c.step.new.links) c.in-Bytes.port (said_on ws) c.step.new.end c.read_on.new.end
    (map g.L.Link.told c.step.new.links) (map g.L.Link.told c.read_on.new.links) (Err c.in-Err-read_on.fault)
    (size-stays g.L.Link.count c.turns.links c.step.new.links c.in-Ok.turn c.in-Ok.ensures.counts
    ∙ c.turns.invariant.size) c.in-Err-read_on.ensures.goes
    (step-goes g.M.Master.model c.args.end.now.clear.plan c.args.end.now.clear.master (length c.args.links.now)
    (length c.turns.links) (said_on ws) c.turns.end c.step.new.end
    (map g.L.Link.told c.turns.links) (map g.L.Link.told c.step.new.links) (Ok c.in-Ok.turn) c.turns.invariant.size
    c.in-Ok.ensures.goes (c.turns.invariant.goes ws tell)))

pub returns-in-Nothing-clause-leaves : goal.returns-in-Nothing-clause-leaves
returns-in-Nothing-clause-leaves g c = λ ws tell.
    subst (λ s. Leaves g.M.Master.model s (said_on ws) c.step.new.end.clear (Ok tt) (map g.L.Link.told
    c.step.new.links))
    (sym (ap (λ e. e.clear) c.requires.fresh))
    (stops-leaves g.M.Master.model c.args.end.now.clear.plan c.args.end.now.clear.master (length c.args.links.now)
    (said_on ws) c.turns.end c.step.new.end c.in-Ok.turn (map g.L.Link.told c.step.new.links) (sym
    c.need_after.ensures ∙ c.in-Nothing.is)
    c.in-Ok.ensures.turned c.in-Ok.ensures.kept c.in-Ok.ensures.rests
    (step-goes g.M.Master.model c.args.end.now.clear.plan c.args.end.now.clear.master (length c.args.links.now)
    (length c.turns.links) (said_on ws) c.turns.end c.step.new.end
    (map g.L.Link.told c.turns.links) (map g.L.Link.told c.step.new.links) (Ok c.in-Ok.turn) c.turns.invariant.size
    c.in-Ok.ensures.goes (c.turns.invariant.goes ws tell)))

pub returns-in-Nothing-clause-ran : goal.returns-in-Nothing-clause-ran
returns-in-Nothing-clause-ran g c =
    subst (λ s. HasFinished g.M.Master.model s (length c.args.links.now) c.step.new.end.clear)
    (sym (ap (λ e. e.clear) c.requires.fresh))
    (done-run g.M.Master.model _ (length c.args.links.now) c.turns.end c.step.new.end c.in-Ok.turn
    (sym c.need_after.ensures ∙ c.in-Nothing.is) c.in-Ok.ensures.turned
    (c.in-Ok.ensures.runs _ _ c.turns.invariant.runs))

pub returns-in-Err-clause-leaves : goal.returns-in-Err-clause-leaves
returns-in-Err-clause-leaves g c = λ ws tell.
    subst (λ s. Leaves g.M.Master.model s (said_on ws) c.step.new.end.clear (Err c.in-Err.fault) (map g.L.Link.told
    c.step.new.links))
    (sym (ap (λ e. e.clear) c.requires.fresh))
    (step-goes g.M.Master.model c.args.end.now.clear.plan c.args.end.now.clear.master (length c.args.links.now) {A =
    Turn} (length c.turns.links) (said_on ws) c.turns.end c.step.new.end
    (map g.L.Link.told c.turns.links) (map g.L.Link.told c.step.new.links) (Err c.in-Err.fault)
    c.turns.invariant.size c.in-Err.ensures.goes (c.turns.invariant.goes ws tell))
