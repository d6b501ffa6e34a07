use Rattle.std.proofs.Common.{refl, sym, ap, ◌∙◌}
use Rattle.world.specs.Stars.{hub_of}
use Rattle.world.proofs.Advancing.{advanced-ends, advanced-hub, has-room-on, never-faulty-on, stopped-ends, stopped-hub}
use Rattle.world.proofs.ends.Ends.advance.Goals as goal

pub returns-in-Err : goal.returns-in-Err
returns-in-Err g c = record {
  mid = c.args.self.now;
  worked = refl;
  turns = (λ i. record {
    hub = hub_of c.self.inside.machine;
    leaves = c.make_room.ensures.leaves i;
    links = c.make_room.ensures.links i;
  })
      ∙ c.self.view_is;
}

pub invariant_of-self-in-Err-NoMemory : goal.invariant_of-self-in-Err-NoMemory
invariant_of-self-in-Err-NoMemory g c =
    let call = rw c.in-Err-NoMemory.field-0-is at c.in-Err-NoMemory.ensures.advances in
    stopped-hub g.M.Master.model g.D.Device.model c.self.inside.machine c.advance.new.self c.self.inside.seats.items
    c.make_room.new.seats.items c.make_room.new.seats.items c.self.invariant c.clear.new.self.bytes c.advance.new.out.bytes
    c.advance.new.out.bytes c.clear.ensures.bytes refl c.make_room.ensures.leaves c.make_room.ensures.links _ c.self.view_is
    c.advance.new.units call

pub returns-in-Err-NoMemory : goal.returns-in-Err-NoMemory
returns-in-Err-NoMemory g c =
    let call = rw c.in-Err-NoMemory.field-0-is at c.in-Err-NoMemory.ensures.advances in
    stopped-ends g.M.Master.model g.D.Device.model c.self.inside.machine c.advance.new.self c.self.inside.seats.items
    c.make_room.new.seats.items c.make_room.new.seats.items c.self.invariant c.clear.new.self.bytes c.advance.new.out.bytes
    c.advance.new.out.bytes c.clear.ensures.bytes refl c.make_room.ensures.leaves c.make_room.ensures.links _ c.self.view_is
    c.advance.new.units call _

pub unreachable-requires : goal.unreachable-requires
unreachable-requires g c =
    let call = rw c.in-Err-Port.field-0-is at c.in-Err-Port.ensures.advances in
    never-faulty-on g.M.Master.model g.D.Device.model c.self.inside.machine c.advance.new.self c.self.inside.seats.items
    c.make_room.new.seats.items c.make_room.new.seats.items c.self.invariant c.clear.new.self.bytes c.advance.new.out.bytes
    c.advance.new.out.bytes c.clear.ensures.bytes refl c.make_room.ensures.leaves c.make_room.ensures.links _ c.self.view_is
    c.advance.new.units
    c.in-Err-Port.field-0-0 call c.requires

pub send-requires-clause-fits : goal.send-requires-clause-fits
send-requires-clause-fits g c =
    has-room-on g.M.Master.model g.D.Device.model c.self.inside.machine c.advance.new.self c.self.inside.seats.items
    c.make_room.new.seats.items c.make_room.new.seats.items c.self.invariant c.clear.new.self.bytes c.advance.new.out.bytes
    c.as_slice.result.now c.clear.ensures.bytes c.as_slice.ensures c.make_room.ensures.leaves c.make_room.ensures.links _ c.self.view_is
    c.advance.new.units
    c.in-Ok-advance.turn c.in-Ok-advance.ensures.advances c.in-Ok-advance.ensures.front c.in-Ok-advance.ensures.few

pub invariant_of-self-2 : goal.invariant_of-self-2
invariant_of-self-2 g c =
    advanced-hub g.M.Master.model g.D.Device.model c.self.inside.machine c.advance.new.self c.self.inside.seats.items
    c.make_room.new.seats.items c.send.new.seats.items c.self.invariant c.clear.new.self.bytes c.advance.new.out.bytes
    c.as_slice.result.now c.clear.ensures.bytes c.as_slice.ensures c.make_room.ensures.leaves c.make_room.ensures.links _ c.self.view_is
    c.advance.new.units
    c.in-Ok-advance.turn c.in-Ok-advance.ensures.advances c.send.ensures.leaves c.send.ensures.links

pub returns : goal.returns
returns g c =
    advanced-ends g.M.Master.model g.D.Device.model c.self.inside.machine c.advance.new.self c.self.inside.seats.items
    c.make_room.new.seats.items c.send.new.seats.items c.self.invariant c.clear.new.self.bytes c.advance.new.out.bytes
    c.as_slice.result.now c.clear.ensures.bytes c.as_slice.ensures c.make_room.ensures.leaves c.make_room.ensures.links _ c.self.view_is
    c.advance.new.units
    c.in-Ok-advance.turn c.in-Ok-advance.ensures.advances c.send.ensures.leaves c.send.ensures.links
