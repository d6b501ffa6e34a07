use Rattle.std.proofs.Common.{◌≡◌, ◌≤◌, ◌⊎◌, true, is_some, inl, inr}
use Rattle.std.proofs.lemmas.Result.{on_ok_weaker}
use Rattle.direct_machine.proofs.Nexts.{first-next}
use Rattle.direct_machine.proofs.Running.{runs-begin, runs-more, runs-end, none-of, some-of}
use Rattle.direct_machine.proofs.machine.to_end.Goals as goal
use Rattle.direct_machine.proofs.machine.to_end.Goals.{then-units-test+else-is_none, else-units-test}

pub units-init : goal.units-init
units-init g c = runs-begin g.M.Master.model g.D.Device.model c.args.order c.args.plan c.args.run.now _ c.requires.ready c.requires.tick (first-next c.args.plan.quantum c.requires.plan.quantum)

pub units-preserved : goal.units-preserved
units-preserved g c =
    let goes_on = none-of _ _ _ c.is_none.ensures c.stopped.ensures c.if-is_none.true in
    runs-more g.M.Master.model g.D.Device.model c.args.order c.args.plan c.args.run.now c.units.run _ _ _ _ c.units-test.true goes_on c.in_ok-next.ensures c.in_ok-unit.ensures.leads c.in_ok-unit.ensures.ready c.in_ok-unit.ensures.tick c.units.invariant

pub returns : goal.returns
returns g c =
    let over : (c.args.plan.units ≤ c.units.run.tick) ⊎ (is_some (g.M.Master.model.stopped c.units.run.master) ≡ true) =
    elim c.units-test.branch [ then-units-test+else-is_none w ↦ inr (some-of _ _ _ w.is_none.ensures w.stopped.ensures w.if-is_none.false) | else-units-test w ↦ inl w.units-test.false ] in
    on_ok_weaker c.boundary.result (λ leads. runs-end g.M.Master.model g.D.Device.model c.args.order c.args.plan c.args.run.now c.units.run c.boundary.new.self _ over leads c.units.invariant) c.boundary.ensures.leads
