use Rattle.std.proofs.Common.{length, take, ◌-◌, ◌≡◌, ◌≤◌}
use Rattle.rp_framing.specs.Sending.{Sent}
use Rattle.rp_framing.proofs.sender.send.Given as goal

abbrev pub invariant-pieces : goal.invariant-pieces
invariant-pieces g l =
    (l.at ≤ length l.bytes)
    × (g.L.Link.count l.link ≡ g.L.Link.count l.fn.link)
    × Sent (g.L.Link.told l.fn.link) (g.L.Link.told l.link) (take l.at l.bytes)
    × (g.L.Link.sound l.fn.link → g.L.Link.sound l.link)

abbrev pub decreases-pieces : goal.decreases-pieces
decreases-pieces g l = length l.bytes - l.at
