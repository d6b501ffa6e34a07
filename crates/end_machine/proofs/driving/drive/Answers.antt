use Rattle.std.proofs.Common.{Err, Ok, ap, length, map, subst, sym, ◌∙◌, ◌≡◌}
use Rattle.std.proofs.lemmas.List.{length-map}
use Rattle.machine_turns.specs.declared.fault.TurnFault.TheVariants as turn_fault
use Rattle.end_machine.specs.Driving.{Leaves}
use Rattle.end_machine.specs.Talk.{ByTalk}
use Rattle.end_machine.specs.Wires.{said_on}
use Rattle.end_machine.proofs.HonestLaws.{drives-directly, drives-talk}
use Rattle.end_machine.proofs.driving.drive.Goals as goal

pub returns-in-Ok-clause-talk : goal.returns-in-Ok-clause-talk
returns-in-Ok-clause-talk g c = λ ws tell.
    drives-talk g.M.Master.model c.args.end.now.clear.plan c.args.end.now.clear.master g.L.Link.told
    g.met.L.Link.is_wire c.args.links.now c.run.new.links
    (sym (length-map c.run.new.links g.L.Link.count) ∙ c.in-Ok.ensures.counts.0
    ∙ length-map c.args.links.now g.L.Link.count)
    c.args.end.now.clear ws tell (ap (λ e. e.clear) c.requires.fresh) c.run.new.end.clear (Ok tt)
    (c.in-Ok.ensures.leaves ws tell)

pub returns-in-Ok-clause-honest : goal.returns-in-Ok-clause-honest
returns-in-Ok-clause-honest g c = λ ws tell xs fits fit honest.
    drives-directly g.M.Master.model c.args.end.now.clear.plan c.args.end.now.clear.master g.L.Link.told
    g.met.L.Link.is_wire c.args.links.now c.run.new.links
    (sym (length-map c.run.new.links g.L.Link.count) ∙ c.in-Ok.ensures.counts.0
    ∙ length-map c.args.links.now g.L.Link.count)
    c.args.end.now.clear ws tell (ap (λ e. e.clear) c.requires.fresh) g.D.Device.model xs c.run.new.end.clear (Ok tt)
    (c.in-Ok.ensures.leaves ws tell) fits g.met.D.Device.lawful g.met.M.Master.lawful fit honest

pub returns-in-Err-Port-clause-talk : goal.returns-in-Err-Port-clause-talk
returns-in-Err-Port-clause-talk g c = λ ws tell.
    subst (λ e. ByTalk g.M.Master.model c.args.end.now.clear (length ws) (said_on ws) e (Err (turn_fault.Port
    c.in-Err-Port.fault)))
    (sym (ap (λ e. e.clear) c.keep.ensures))
    (drives-talk g.M.Master.model c.args.end.now.clear.plan c.args.end.now.clear.master g.L.Link.told
    g.met.L.Link.is_wire c.args.links.now c.run.new.links
    (sym (length-map c.run.new.links g.L.Link.count) ∙ c.in-Err-Port.ensures.counts.0
    ∙ length-map c.args.links.now g.L.Link.count)
    c.args.end.now.clear ws tell (ap (λ e. e.clear) c.requires.fresh) c.run.new.end.clear (Err (turn_fault.Port
    c.in-Err-Port.fault))
    (subst (λ f. Leaves g.M.Master.model c.args.end.now.clear (said_on ws) c.run.new.end.clear (Err f)
    (map g.L.Link.told c.run.new.links)) c.in-Err-Port.field-0-is (c.in-Err-Port.ensures.leaves ws tell)))

pub returns-in-Err-Port-clause-honest : goal.returns-in-Err-Port-clause-honest
returns-in-Err-Port-clause-honest g c = λ ws tell xs fits fit honest.
    drives-directly g.M.Master.model c.args.end.now.clear.plan c.args.end.now.clear.master g.L.Link.told
    g.met.L.Link.is_wire c.args.links.now c.run.new.links
    (sym (length-map c.run.new.links g.L.Link.count) ∙ c.in-Err-Port.ensures.counts.0
    ∙ length-map c.args.links.now g.L.Link.count)
    c.args.end.now.clear ws tell (ap (λ e. e.clear) c.requires.fresh) g.D.Device.model xs c.run.new.end.clear (Err
    (turn_fault.Port c.in-Err-Port.fault))
    (subst (λ f. Leaves g.M.Master.model c.args.end.now.clear (said_on ws) c.run.new.end.clear (Err f)
    (map g.L.Link.told c.run.new.links)) c.in-Err-Port.field-0-is (c.in-Err-Port.ensures.leaves ws tell)) fits
    g.met.D.Device.lawful g.met.M.Master.lawful fit honest
