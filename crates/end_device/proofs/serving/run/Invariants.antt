use Rattle.std.proofs.Common.{◌≡◌, ◌+◌, ◌-◌, ◌<◌, None}
use Rattle.device_turns.specs.Ends.{core_of}
use Rattle.end_device.specs.Going.{Going}
use Rattle.end_device.proofs.serving.run.Given as goal

abbrev pub invariant-reads : goal.invariant-reads
invariant-reads g l = record {
  kept : l.end.kept ≡ None;
  few : l.received < 1099511627776 + 4096;
  counts : g.L.Link.count l.link ≡ g.L.Link.count l.fn.link;
  is_sound : g.L.Link.sound l.fn.link → g.L.Link.sound l.link;
  goes : Going g.D.Device.model (core_of l.fn.end) (g.L.Link.told l.fn.link) l.received l.end (g.L.Link.told l.link);
}

abbrev pub decreases-reads : goal.decreases-reads
decreases-reads g l = 1099511627776 + 4096 - l.received
