use Rattle.std.proofs.Common.{◌<◌, length, arith}
use Rattle.world.proofs.Stepping.{no-leaf, seat-keeps, seat-moves, seat-sound}
use Rattle.world.proofs.ends.Ends.turn_device.Goals as goal

pub returns-then-at-len-clause-ok : goal.returns-then-at-len-clause-ok
returns-then-at-len-clause-ok g c =
    no-leaf g.M.Master.model g.D.Device.model c.self.inside.machine _ _ (omega arith) _ c.self.view_is

pub turn-requires : goal.turn-requires
turn-requires g c =
    let within : c.args.port < length c.self.inside.seats.items = omega arith in
    seat-sound g.M.Master.model g.D.Device.model c.self.inside.machine _ _ _ within c.index_mut-seat.ensures.value _ c.self.view_is c.requires

pub invariant_of-self-2 : goal.invariant_of-self-2
invariant_of-self-2 g c =
    let within : c.args.port < length c.self.inside.seats.items = omega arith in
    seat-keeps g.M.Master.model g.D.Device.model c.self.inside.machine _ _ _ within c.index_mut-seat.ensures.value _ _ c.in-Ok.ensures.ok
    c.self.invariant

pub returns-clause-ok : goal.returns-clause-ok
returns-clause-ok g c =
    let within : c.args.port < length c.self.inside.seats.items = omega arith in
    seat-moves g.M.Master.model g.D.Device.model c.self.inside.machine _ _ _ within c.index_mut-seat.ensures.value _ _ c.in-Ok.ensures.ok _
    c.self.view_is
