use Rattle.std.proofs.Common.{◌≤◌, get_or, sym, ap, ◌∙◌, subst}
use Rattle.direct_machine.proofs.Lists.{changed-next, changed-step, changed-end}
use Rattle.direct_machine.proofs.run.advance_all.Goals as goal

pub advance-requires : goal.advance-requires
advance-requires g c =
    let next = changed-next (λ s. g.D.Device.model.advance s c.args.tick) c.devices.device-index c.args.devices.now c.device-item.result (c.device-item.is ∙ ap (λ ss. get_or ss c.devices.device-index c.device-item.result) c.devices.invariant) in
    subst (λ s. g.D.Device.model.seen s ≤ c.args.tick) (sym next ∙ c.device-item.is) (c.requires c.devices.device-index c.device-item.result c.devices-test.true)

pub devices-preserved : goal.devices-preserved
devices-preserved g c = changed-step (λ s. g.D.Device.model.advance s c.args.tick) c.devices.device-index c.args.devices.now c.devices.devices _ _ c.devices-test.true c.devices.invariant c.device-item.is c.advance.ensures

pub returns : goal.returns
returns g c = changed-end (λ s. g.D.Device.model.advance s c.args.tick) c.devices.device-index c.args.devices.now _ c.devices.invariant c.devices-test.false c.devices.auto.device-index-end
