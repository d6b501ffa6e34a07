use Rattle.std.proofs.Common.{refl, subst, sym}
use Rattle.process_network.specs.Star.StarStep.{HubTurn}
use Rattle.world.specs.Stars.{IsMoved, ends_of}
use Rattle.world.proofs.Turning.{has-room-for, never-faulty, turn-keeps, turn-moves}
use Rattle.world.proofs.ends.Ends.turn_machine.Goals as goal

pub unreachable-requires : goal.unreachable-requires
unreachable-requires g c =
    let took = rw c.in-Err-Port.field-0-is at c.in-Err-Port.ensures.turns in
    never-faulty g.M.Master.model g.D.Device.model c.self.inside.machine c.turn.new.self c.self.inside.seats.items
    c.make_room.new.seats.items c.make_room.new.seats.items c.self.invariant c.clear.new.self.bytes c.turn.new.out.bytes
    c.turn.new.out.bytes c.clear.ensures.bytes refl c.make_room.ensures.leaves c.make_room.ensures.links _ c.self.view_is
    c.in-Err-Port.field-0-0 took c.requires

pub send-requires-clause-fits : goal.send-requires-clause-fits
send-requires-clause-fits g c =
    has-room-for g.M.Master.model g.D.Device.model c.self.inside.machine c.turn.new.self c.self.inside.seats.items
    c.make_room.new.seats.items c.make_room.new.seats.items c.self.invariant c.clear.new.self.bytes c.turn.new.out.bytes
    c.as_slice.result.now c.clear.ensures.bytes c.as_slice.ensures c.make_room.ensures.leaves c.make_room.ensures.links _
    c.self.view_is c.in-Ok-turn.turn c.in-Ok-turn.ensures.turns c.in-Ok-turn.ensures.front c.in-Ok-turn.ensures.few

pub invariant_of-self-2 : goal.invariant_of-self-2
invariant_of-self-2 g c =
    turn-keeps g.M.Master.model g.D.Device.model c.self.inside.machine c.turn.new.self c.self.inside.seats.items
    c.make_room.new.seats.items c.send.new.seats.items c.self.invariant c.clear.new.self.bytes c.turn.new.out.bytes
    c.as_slice.result.now c.clear.ensures.bytes c.as_slice.ensures c.make_room.ensures.leaves c.make_room.ensures.links _
    c.self.view_is c.in-Ok-turn.turn c.in-Ok-turn.ensures.turns c.send.ensures.leaves c.send.ensures.links

pub returns-clause-ok : goal.returns-clause-ok
returns-clause-ok g c =
    let k = g.M.Master.model in
    let d = g.D.Device.model in
    subst (λ b. IsMoved k d c.args.self.now (ends_of c.turn.new.self c.send.new.seats.items) HubTurn b) (sym c.is_move.ensures)
    (turn-moves k d c.self.inside.machine c.turn.new.self c.self.inside.seats.items
    c.make_room.new.seats.items c.send.new.seats.items c.self.invariant c.clear.new.self.bytes c.turn.new.out.bytes
    c.as_slice.result.now c.clear.ensures.bytes c.as_slice.ensures c.make_room.ensures.leaves c.make_room.ensures.links _
    c.self.view_is c.in-Ok-turn.turn c.in-Ok-turn.ensures.turns c.send.ensures.leaves c.send.ensures.links)
