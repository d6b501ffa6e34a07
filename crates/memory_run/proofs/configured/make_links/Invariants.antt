use Rattle.std.proofs.Common.{◌≡◌, ◌+◌, All, length, vec_len}
use Rattle.std.specs.Vec.Iter.{into_iter_items}
use Rattle.cos_parts.specs.AnyDevices.{any_seen}
use Rattle.memory_run.proofs.configured.make_links.Given as goal

abbrev pub invariant-devices : goal.invariant-devices
invariant-devices l = record {
  fresh : All (λ d. any_seen d ≡ 0) (into_iter_items l.device-iterator);
  count : vec_len l.links + length (into_iter_items l.device-iterator) ≡ length l.fn.devices.items;
}
