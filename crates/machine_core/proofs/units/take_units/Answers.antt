use Rattle.std.proofs.Common.{◌≡◌, ap, ◌∙◌, sym, arith, None}
use Rattle.machine_core.proofs.Locals.{none-is, takes-one}
use Rattle.machine_core.proofs.units.take_units.Goals as goal

pub units-preserved : goal.units-preserved
units-preserved g c =
    let k = g.M.Master.model in
    let runs : k.stopped c.units.master ≡ None = sym c.stopped.ensures ∙ none-is c.stopped.result c.if-is_none.ensures in
    let is = c.in-Ok-None.ensures.ok ∙ ap (λ b. (c.issue.new.self, b)) c.in-Ok-None.field-0-is in
    let left = c.units-test.true in
    record {
      free = ap (λ r. k.issued r.0) (sym is) ∙ g.met.M.Master.lawful.issue_local c.units.master (ap (λ r. r.1) is);
      taken = takes-one k c.args.left.now c.units.left _ c.args.master.now c.units.master c.issue.new.self runs is
          (omega (arith, left)) c.units.invariant.taken;
    }
