use Rattle.std.proofs.Common.{◌≡◌, ◌-◌, ◌<◌, ◌≤◌, ℕ, false}
use Rattle.world.specs.Stars.{is_busy}
use Rattle.world.proofs.world.World.is_quiet.Given as goal

abbrev pub invariant-ports : goal.invariant-ports
invariant-ports g l =
    (l.port ≤ l.ports) × ((p : ℕ) → p < l.port → is_busy g.M.Master.model g.D.Device.model l.self.now p ≡ false)

abbrev pub decreases-ports : goal.decreases-ports
decreases-ports g l = l.ports - l.port
