-- What the settings of a configuration that breaks no rule keep.
use Rattle.std.specs.Prelude.{◌≡◌, ◌%◌, ◌<◌, ◌≤◌, List, [], ◌∷◌, length, None, IsSome}
use Rattle.cos_config.specs.declared.config.MachineKind.TheVariants.{Rv, Script}
use Rattle.cos_config.specs.declared.config.PortKind.TheVariants.{Disk}
use Rattle.cos_config.specs.declared.config.PortConfig.{PortConfig}
use Rattle.cos_config.specs.declared.config.Config.{Config}
use Rattle.cos_config.specs.declared.config.Sockets.{Sockets}
use Rattle.cos_config.specs.declared.config.Sockets.TheVariants.{Unneeded, All, Port}
use Rattle.cos_map.specs.Parts.{overlap_found}
use Rattle.cos_config.specs.Rules.{parts, needs_found}

pub record IsPort (p : PortConfig) : Type 0 where
  pub base : p.base % 4096 ≡ 0
  pub some : 4096 ≤ p.size
  pub size : p.size % 4096 ≡ 0
  pub line : p.line ≤ 31
  pub gaps : 1 ≤ p.gap
  pub near : p.gap ≤ 1000000
  pub disk : p.kind ≡ Disk → IsSome p.disk

abbrev pub ArePorts : List PortConfig → Type 0
ArePorts [] = Unit {0}
ArePorts (p ∷ ps) = IsPort p × ArePorts ps

pub record IsMachine (c : Config) : Type 0 where
  pub ram : c.ram % 4096 ≡ 0
  pub least : 4096 ≤ c.ram
  pub most : c.ram ≤ 67108864
  pub quantum : 1 ≤ c.quantum
  pub units : c.units < 4294967296
  pub image : c.kind ≡ Rv → IsSome c.image
  pub script : c.kind ≡ Script → IsSome c.script

pub record IsWithinLimits (c : Config) : Type 0 where
  pub machine : IsMachine c
  pub few : length c.ports ≤ 16
  pub ports : ArePorts c.ports
  pub apart : overlap_found 0 (parts c) ≡ None
  pub needs : needs_found 0 c.ports ≡ None

-- The port whose device is to be served is there.
abbrev pub HasServed : Sockets → Config → Type 0
HasServed Unneeded c = Unit {0}
HasServed All c = Unit {0}
HasServed (Port p) c = p < length c.ports
