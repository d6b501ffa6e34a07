use Rattle.std.proofs.Common.{◌-◌, length}
use Rattle.world.proofs.Rooming.{IsRooming}
use Rattle.world.proofs.ends.make_room.Given as goal

abbrev pub invariant-room : goal.invariant-room
invariant-room g l = IsRooming l.fn.seats.items l.seats.items l.at

abbrev pub decreases-room : goal.decreases-room
decreases-room g l = length l.fn.seats.items - l.at
