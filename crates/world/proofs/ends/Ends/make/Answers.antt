use Rattle.world.proofs.Making.{made-as, made-hub}
use Rattle.world.proofs.ends.Ends.make.Goals as goal

pub invariant_of-result : goal.invariant_of-result
invariant_of-result g c =
    made-hub c.args.machine c.in-Ok.seats.items c.args.devices.items c.requires.machine c.in-Ok.ensures.ends
    c.in-Ok.ensures.links

pub returns : goal.returns
returns g c = record {
  unsent = made-as c.args.machine c.in-Ok.seats.items c.args.devices.items c.requires.machine c.in-Ok.ensures.ends
      c.in-Ok.ensures.links c.requires.devices;
}
