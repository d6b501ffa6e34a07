-- The ports of a configuration: what each end is made with, and its device at reset.
use Rattle.std.specs.Prelude.{List}
use Rattle.cos_base.specs.Stores.{Store}
use Rattle.cos_config.specs.declared.config.PortConfig.{PortConfig}
use Rattle.cosim_ends.specs.Sides.{sides_of}
use Rattle.cosim_inputs.specs.Fresh.{devices_of}
use Rattle.cos_parts.specs.declared.any_device.AnyDevice.{AnyDevice}
use Rattle.ends_model.specs.World.{Side}

abbrev pub ports_of : Store → List PortConfig → List (Side × AnyDevice)
ports_of files ports = sides_of ports (devices_of files ports)
