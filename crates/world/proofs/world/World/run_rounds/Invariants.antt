use Rattle.std.proofs.Common.{◌≡◌, ◌≤◌, List, length, true}
use Rattle.cos_schedules.specs.declared.step.Step.{Step}
use Rattle.cos_schedules.specs.Courses.{GivesAll, fresh_course}
use Rattle.cos_schedules.specs.Schedules.{base_length}
use Rattle.world.specs.Stars.{IsQuiet}
use Rattle.world.specs.Worlds.{HasTaken}
use Rattle.world.proofs.Finishing.{measure}
use Rattle.world.proofs.world.World.run_rounds.Given as goal

abbrev pub invariant-steps : goal.invariant-steps
invariant-steps g l =
    (taken : List Step) × GivesAll (fresh_course l.number (length l.fn.self.start.ports)) taken l.rounds
    × HasTaken g.M.Master.model g.D.Device.model l.fn.self l.self taken
    × (l.rounds.ports ≡ length l.fn.self.start.ports) × (length l.rounds.left ≤ base_length (length l.fn.self.start.ports))
    × (l.quiet ≡ true → IsQuiet g.M.Master.model g.D.Device.model l.self.now)

abbrev pub decreases-steps : goal.decreases-steps
decreases-steps g l = measure g.M.Master.model g.D.Device.model l.fn.self.start l.self.now l.rounds
