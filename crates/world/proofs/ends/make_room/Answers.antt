use Rattle.std.proofs.Common.{◌<◌, length, arith}
use Rattle.world.proofs.Rooming.{next-room, same-leaves, same-links}
use Rattle.world.proofs.ends.make_room.Goals as goal

pub returns-in-Err-clause-leaves : goal.returns-in-Err-clause-leaves
returns-in-Err-clause-leaves g c =
    let within : c.room.at < length c.room.seats.items = omega arith in
    same-leaves _ _ _ _ _ within c.index_mut-seat.ensures.value c.reserve.ensures.end c.reserve.ensures.link c.room.invariant

pub returns-in-Err-clause-links : goal.returns-in-Err-clause-links
returns-in-Err-clause-links g c =
    let within : c.room.at < length c.room.seats.items = omega arith in
    same-links _ _ _ _ _ within c.index_mut-seat.ensures.value c.reserve.ensures.end c.reserve.ensures.link c.room.invariant

pub room-preserved : goal.room-preserved
room-preserved g c =
    let within : c.room.at < length c.room.seats.items = omega arith in
    next-room _ _ _ _ _ within c.index_mut-seat.ensures.value c.reserve.ensures.end c.reserve.ensures.link c.room.invariant
    c.in-Ok.ensures.room
