use Rattle.std.proofs.Common.{◌≡◌, All, IfSome, vec_len, take}
use Rattle.cos_parts.specs.AnyDevices.{any_seen}
use Rattle.outcomes.specs.Asked.{asking, AsksAll}
use Rattle.outcomes.specs.Seen.{seen}
use Rattle.cosim_inputs.specs.Fresh.{devices_of, device_kinds, port_kinds}
use Rattle.cosim_inputs.specs.Inputs.{ports_files, names_read}
use Rattle.cosim_inputs.specs.Reads.{AreRead}
use Rattle.cosim_inputs.proofs.devices.read_devices.Given as goal

abbrev pub invariant-ports : goal.invariant-ports
invariant-ports g l = record {
  read : AreRead (seen g.F.Files.count g.F.Files.told l.fn.files l.files) (ports_files 0 (take l.config-index l.ports));
  asks : AsksAll (asking g.F.Files.told g.F.Files.asked l.fn.files l.files) (names_read (ports_files 0 (take l.config-index l.ports)));
  devices : IfSome (g.F.Files.told l.fn.files) (λ m. l.devices.items ≡ devices_of m (take l.config-index l.ports));
  fresh : All (λ d. any_seen d ≡ 0) l.devices.items;
  kinds : device_kinds l.devices.items ≡ port_kinds (take l.config-index l.ports);
  count : vec_len l.devices ≡ l.config-index;
  sound : g.F.Files.sound l.fn.files → g.F.Files.sound l.files;
}
