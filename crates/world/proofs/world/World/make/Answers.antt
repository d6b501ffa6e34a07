use Rattle.std.proofs.Common.{◌≡◌, length, map, sym, ap, subst, arith}
use Rattle.ends_model.specs.World.{machine_start}
use Rattle.rp_packet.specs.declared.fault.Cause.{Cause}
use Rattle.machine_turns.specs.Ends.{fresh as fresh_machine}
use Rattle.world.specs.Worlds.{IsReached, side_of}
use Rattle.world.proofs.Reaching.{all-fresh, fresh-reached, made-world}
use Rattle.world.proofs.world.World.make.Goals as goal

pub make-requires-2-clause-devices : goal.make-requires-2-clause-devices
make-requires-2-clause-devices g c = all-fresh g.M.Master.model g.D.Device.model c.args.devices.items c.requires.starts

pub invariant_of-result : goal.invariant_of-result
invariant_of-result g c =
    let k = g.M.Master.model in
    let d = g.D.Device.model in
    let es = c.args.devices.items in
    let first = c.len-ports.ensures in
    let then = c.args.devices.ok.0 in
    let long : c.len-ports.result ≡ length es = omega (arith, first, then) in
    let made : c.in-Ok.machine ≡ fresh_machine (machine_start Cause c.args.master (length es) c.args.plan) (length es) =
    subst (λ n. c.in-Ok.machine ≡ fresh_machine (machine_start Cause c.args.master n c.args.plan) n) long
    c.in-Ok.ensures in
    subst (IsReached k d)
    (sym (made-world k d c.args.plan c.args.master es c.requires.starts c.in-Ok.machine c.of-first_machine.result.value
    c.of-first_devices.result.value.items c.in-Ok-make.ends made c.of-first_machine.ensures (ap (λ v. v.items) c.of-first_devices.ensures) c.in-Ok-make.ensures.unsent))
    (fresh-reached k d (record { plan = c.args.plan; master = c.args.master; ports = map side_of es }) c.requires.fit)

pub returns : goal.returns
returns g c =
    let k = g.M.Master.model in
    let d = g.D.Device.model in
    let es = c.args.devices.items in
    let first = c.len-ports.ensures in
    let then = c.args.devices.ok.0 in
    let long : c.len-ports.result ≡ length es = omega (arith, first, then) in
    let made : c.in-Ok.machine ≡ fresh_machine (machine_start Cause c.args.master (length es) c.args.plan) (length es) =
    subst (λ n. c.in-Ok.machine ≡ fresh_machine (machine_start Cause c.args.master n c.args.plan) n) long
    c.in-Ok.ensures in
    made-world k d c.args.plan c.args.master es c.requires.starts c.in-Ok.machine c.of-first_machine.result.value
    c.of-first_devices.result.value.items c.in-Ok-make.ends made c.of-first_machine.ensures (ap (λ v. v.items) c.of-first_devices.ensures) c.in-Ok-make.ensures.unsent
