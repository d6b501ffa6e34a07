use Rattle.std.proofs.Common.{◌<◌, length, arith}
use Rattle.world.proofs.Stepping.{no-back}
use Rattle.world.proofs.Backing.{back-keeps, back-moves, heard-here, piece-fits}
use Rattle.world.proofs.ends.Ends.deliver_back.Goals as goal

pub returns-then-at-len-clause-ok : goal.returns-then-at-len-clause-ok
returns-then-at-len-clause-ok g c =
    no-back g.M.Master.model g.D.Device.model c.self.inside.machine _ _ _ (omega arith) _ c.self.view_is

pub deliver-requires : goal.deliver-requires
deliver-requires g c =
    let within : c.args.port < length c.self.inside.seats.items = omega arith in
    piece-fits _ _ _ c.args.count c.in_flight-piece.ensures
    (heard-here g.M.Master.model g.D.Device.model c.self.inside.machine c.feed.new.self c.self.inside.seats.items c.args.port
    c.args.count c.index_mut-seat.result.now c.index_mut-seat.result.now within c.index_mut-seat.ensures.value
    c.in_flight-piece.result.now c.in_flight-piece.ensures c.in-Ok.ensures.ok c.self.invariant)

pub invariant_of-self-2 : goal.invariant_of-self-2
invariant_of-self-2 g c =
    let within : c.args.port < length c.self.inside.seats.items = omega arith in
    back-keeps g.M.Master.model g.D.Device.model c.self.inside.machine c.feed.new.self c.self.inside.seats.items c.args.port
    c.args.count c.index_mut-seat.result.now c.deliver.new.self within c.index_mut-seat.ensures.value
    c.in_flight-piece.result.now c.in_flight-piece.ensures c.in-Ok.ensures.ok c.self.invariant c.deliver.ensures.end
    c.deliver.ensures.link c.deliver.ensures.small

pub returns-clause-ok : goal.returns-clause-ok
returns-clause-ok g c =
    let within : c.args.port < length c.self.inside.seats.items = omega arith in
    back-moves g.M.Master.model g.D.Device.model c.self.inside.machine c.feed.new.self c.self.inside.seats.items c.args.port
    c.args.count c.index_mut-seat.result.now c.deliver.new.self within c.index_mut-seat.ensures.value
    c.in_flight-piece.result.now c.in_flight-piece.ensures c.in-Ok.ensures.ok c.self.invariant c.deliver.ensures.end
    c.deliver.ensures.link _ c.self.view_is
