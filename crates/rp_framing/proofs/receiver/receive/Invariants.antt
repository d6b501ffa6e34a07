use Rattle.std.proofs.Common.{◌≡◌, ◌-◌, length}
use Rattle.rp_framing.specs.Receiving.{Goes}
use Rattle.rp_framing.proofs.receiver.receive.Given as goal

abbrev pub invariant-reads : goal.invariant-reads
invariant-reads g l = record {
  counts : g.L.Link.count l.link ≡ g.L.Link.count l.fn.link;
  is_sound : g.L.Link.sound l.fn.link → g.L.Link.sound l.link;
  goes : Goes (g.L.Link.told l.fn.link) (g.L.Link.told l.link) l.fn.framer l.framer;
}

abbrev pub decreases-reads : goal.decreases-reads
decreases-reads g l = 65556 - length l.framer.held
