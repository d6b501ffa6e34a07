use Rattle.std.proofs.Common.{◌≡◌, None, Option, ℕ}
use Rattle.cos_base.specs.Links.{Wire}
use Rattle.ends_model.specs.DeviceTurn.{DeviceEnd}
use Rattle.rp_packet.specs.declared.fault.Cause.{Cause}
use Rattle.end_device.specs.Going.{Going, turns_left}
use Rattle.end_device.proofs.serving.settle.Given as goal

abbrev pub invariant-turns : goal.invariant-turns
invariant-turns g l = record {
  kept : l.end.kept ≡ None;
  counts : g.L.Link.count l.link ≡ g.L.Link.count l.fn.link;
  is_sound : g.L.Link.sound l.fn.link → g.L.Link.sound l.link;
  goes :
      (start : DeviceEnd g.row.D.Denot Cause) (w : Option Wire) (count : ℕ)
      → Going g.D.Device.model start w count l.fn.end (g.L.Link.told l.fn.link)
      → Going g.D.Device.model start w count l.end (g.L.Link.told l.link);
}

abbrev pub decreases-turns : goal.decreases-turns
decreases-turns g l = turns_left l.end
