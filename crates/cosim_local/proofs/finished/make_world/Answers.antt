use Rattle.std.proofs.Common.{◌≡◌, IfOk, sym, subst}
use Rattle.cos_parts.specs.AnyDevices as any_devices
use Rattle.cos_parts.specs.AnyMasters as any_masters
use Rattle.cosim_ends.specs.Sides.{sides_of}
use Rattle.ends_model.specs.World.{Fit}
use Rattle.world.specs.Worlds.{fresh_world}
use Rattle.cosim_local.proofs.Starting.{ends-start, ends-sides}
use Rattle.cosim_local.proofs.finished.make_world.Goals as goal

pub make-requires-clause-starts : goal.make-requires-clause-starts
make-requires-clause-starts c =
    ends-start c.in_ok-ends.ends.items (sides_of c.args.ports.now c.args.machine.devices.items) c.in_ok-ends.ensures

pub make-requires-clause-fit : goal.make-requires-clause-fit
make-requires-clause-fit c =
    let same = ends-sides c.in_ok-ends.ends.items (sides_of c.args.ports.now c.args.machine.devices.items)
    c.in_ok-ends.ensures in
    subst (λ xs. Fit any_masters.any_model any_devices.any_model c.args.plan c.args.machine.master xs) (sym same)
    c.requires.fit

pub returns : goal.returns
returns c =
    let same = ends-sides c.in_ok-ends.ends.items (sides_of c.args.ports.now c.args.machine.devices.items)
    c.in_ok-ends.ensures in
    subst (λ xs. IfOk c.make.result (λ w. w ≡ fresh_world any_masters.any_model any_devices.any_model
    (record { plan = c.args.plan; master = c.args.machine.master; ports = xs }))) same c.make.ensures
