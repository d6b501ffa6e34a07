use Rattle.std.proofs.Common.{◌≤◌, ◌-◌, length, take}
use Rattle.world.specs.Worlds.{HasTaken}
use Rattle.world.proofs.world.World.run_list.Given as goal

abbrev pub invariant-steps : goal.invariant-steps
invariant-steps g l = (l.at ≤ length l.steps) × HasTaken g.M.Master.model g.D.Device.model l.fn.self l.self (take l.at l.steps)

abbrev pub decreases-steps : goal.decreases-steps
decreases-steps g l = length l.steps - l.at
