-- The master and the devices of a configuration at reset, by what its files hold.
use Rattle.std.specs.Prelude.{ℕ, List, [], length, map, replicate, unwrap_or, Option, Some, None, Result, Ok, Err}
use Rattle.cos_base.specs.Octets.{overwritten}
use Rattle.cos_base.specs.Stores.{Store}
use Rattle.cos_config.specs.declared.config.Config.{Config}
use Rattle.cos_config.specs.declared.config.MachineKind.{MachineKind}
use Rattle.cos_config.specs.declared.config.MachineKind.TheVariants as machine
use Rattle.cos_config.specs.declared.config.PortKind.{PortKind}
use Rattle.cos_config.specs.declared.config.PortKind.TheVariants as kind
use Rattle.cos_config.specs.declared.config.PortConfig.{PortConfig}
use Rattle.cos_parts.specs.declared.any_device.AnyDevice.{AnyDevice}
use Rattle.cos_parts.specs.declared.any_device.AnyDevice.TheVariants.{Null, Timer, Uart, Dma, Disk}
use Rattle.cos_parts.specs.declared.any_master.AnyMaster.{AnyMaster}
use Rattle.cos_parts.specs.declared.any_master.AnyMaster.TheVariants.{Rv, Script}
use Rattle.cos_script.specs.declared.step.ScriptStep.{ScriptStep}
use Rattle.cos_script.specs.Masters.{fresh_script}
use Rattle.cos_script.specs.Scripts.{script_of}
use Rattle.sys_bus.specs.declared.map.Window.{Window}
use Rattle.sys_bus.specs.Units.{fresh_master}
use Rattle.dev_timer.specs.Timers.{fresh_timer}
use Rattle.dev_uart.specs.Uarts.{fresh_uart}
use Rattle.dev_dma.specs.Dmas.{fresh_dma}
use Rattle.dev_disk.specs.Disks.{fresh_disk}

-- the bytes of a file that may be named; none where it isn't
abbrev pub bytes_in : Store → Option (List ℕ) → List ℕ
bytes_in m None = []
bytes_in m (Some name) = unwrap_or (m name) []

abbrev pub device_as : PortKind → Store → PortConfig → AnyDevice
device_as kind.Null m p = Null (record { seen = 0 })
device_as kind.Timer m p = Timer (fresh_timer p.line)
device_as kind.Uart m p = Uart (fresh_uart p.line (bytes_in m p.input) p.gap)
device_as kind.Dma m p = Dma (fresh_dma p.line)
device_as kind.Disk m p = Disk (fresh_disk p.line (bytes_in m p.disk) p.bad)

abbrev pub device_of : Store → PortConfig → AnyDevice
device_of m p = device_as p.kind m p

abbrev pub devices_of : Store → List PortConfig → List AnyDevice
devices_of m ports = map (device_of m) ports

-- the kind of port that a device is for, and the kinds of devices and of ports

abbrev pub kind_of : AnyDevice → PortKind
kind_of (Null d) = kind.Null
kind_of (Timer d) = kind.Timer
kind_of (Uart d) = kind.Uart
kind_of (Dma d) = kind.Dma
kind_of (Disk d) = kind.Disk

abbrev pub device_kinds : List AnyDevice → List PortKind
device_kinds devices = map kind_of devices

abbrev pub port_kinds : List PortConfig → List PortKind
port_kinds ports = map (λ (p : PortConfig). p.kind) ports

-- RAM that begins with the image, and goes on with zeros
abbrev pub ram_of : Store → Config → List ℕ
ram_of m c = overwritten (replicate c.ram 0) 0 (bytes_in m c.image)

abbrev pub window_of : PortConfig → Window
window_of p = record { base = p.base; size = p.size; posted = p.posted_stores }

abbrev pub windows_of : List PortConfig → List Window
windows_of ports = map window_of ports

abbrev pub steps_in : Result (List ScriptStep) ℕ → List ScriptStep
steps_in (Ok steps) = steps
steps_in (Err line) = []

abbrev pub master_as : MachineKind → Store → Config → AnyMaster
master_as machine.Rv m c = Rv (fresh_master (ram_of m c) (record { windows = windows_of c.ports; ram = c.ram }))
master_as machine.Script m c =
    Script (fresh_script (steps_in (script_of (length c.ports) (bytes_in m c.script))) (length c.ports) (ram_of m c))

abbrev pub master_of : Store → Config → AnyMaster
master_of m c = master_as c.kind m c
