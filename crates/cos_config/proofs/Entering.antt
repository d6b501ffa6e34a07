-- The entries of the array `port`, one at a time.
use Rattle.std.proofs.Common.{◌≡◌, ◌+◌, List, ◌++◌, length}
use Rattle.toml.specs.Data.{Items}
use Rattle.cos_config.specs.declared.config.PortConfig.{PortConfig}
use Rattle.cos_config.specs.declared.config.Sockets.{Sockets}
use Rattle.cos_config.specs.Rules.{each_port_found}
use Rattle.cos_config.specs.Settings.{tables_of, ports_of}

-- what was read of the ports, and what is left
pub record PortsRead (sockets : Sockets) (all : Items) (ports : List PortConfig) (rest : Items) : Type 0 where
  pub found : each_port_found sockets 0 (tables_of all) ≡ each_port_found sockets (length ports) (tables_of rest)
  pub values : ports_of (tables_of all) ≡ ports ++ ports_of (tables_of rest)
  pub count : length ports + length (tables_of rest) ≡ length (tables_of all)
