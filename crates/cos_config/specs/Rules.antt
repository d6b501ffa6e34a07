-- The rules that speak of several keys at once.
use Rattle.std.specs.Prelude.{ℕ, ◌+◌, Bool, true, false, nat_lt, nat_eq, if◌then◌else◌, codes, List, [], ◌∷◌, length, Option, Some, None, option_map}
use Rattle.toml.specs.Data.{Data, array, table, Items, no_items, item, Members, get_member}
use Rattle.cos_map.specs.declared.parts.Part.{Part}
use Rattle.cos_map.specs.Parts.{overlap_found, with_windows}
use Rattle.cos_config.specs.declared.config.PortConfig.{PortConfig}
use Rattle.cos_config.specs.declared.config.PortKind.{PortKind}
use Rattle.cos_config.specs.declared.config.PortKind.TheVariants.{Null, Dma}
use Rattle.cos_config.specs.declared.config.Config.{Config}
use Rattle.cos_config.specs.declared.config.Sockets.{Sockets}
use Rattle.cos_config.specs.declared.config.Sockets.TheVariants.{Unneeded, All, Port}
use Rattle.cos_config.specs.declared.fault.TableName.TheVariants.{Top, Machine, Port as PortTable}
use Rattle.cos_config.specs.declared.fault.ConfigFault.{ConfigFault}
use Rattle.cos_config.specs.declared.fault.ConfigFault.TheVariants.{Missing, Kind, TooMany, Overlap, LineTwice, Needs}
use Rattle.cos_config.specs.First.{Found, or_else, first_of}
use Rattle.cos_config.specs.Keys.{table_found, unknown_found}
use Rattle.cos_config.specs.Tables.{top_names, machine_keys, port_keys, machine_kind_at, port_kind_at}
use Rattle.cos_config.specs.Settings.{machine_table, port_tables, config_of}

-- The top level.

abbrev pub machine_found : Option Data → Found
machine_found None = Some (Missing Top (codes "machine"))
machine_found (Some (table m)) = None
machine_found (Some _) = Some (Kind Top (codes "machine"))

abbrev pub are_tables : Items → Bool
are_tables no_items = true
are_tables (item (table m) later) = are_tables later
are_tables (item _ later) = false

abbrev pub ports_found : Option Data → Found
ports_found None = None
ports_found (Some (array entries)) = if are_tables entries then None else Some (Kind Top (codes "port"))
ports_found (Some _) = Some (Kind Top (codes "port"))

abbrev pub top_found : Members → Found
top_found m =
    first_of (unknown_found Top top_names m ∷ machine_found (get_member (codes "machine") m)
    ∷ ports_found (get_member (codes "port") m) ∷ [])

-- The tables.

abbrev pub needs_socket : Sockets → ℕ → Bool
needs_socket Unneeded port = false
needs_socket All port = true
needs_socket (Port p) port = nat_eq p port

abbrev pub port_found : Sockets → ℕ → Members → Found
port_found sockets port m = table_found (PortTable port) (port_keys (port_kind_at m) (needs_socket sockets port)) m

-- the ports from number `port` on
abbrev pub each_port_found : Sockets → ℕ → List Members → Found
each_port_found sockets port [] = None
each_port_found sockets port (m ∷ ms) = or_else (port_found sockets port m) (each_port_found sockets (port + 1) ms)

abbrev pub too_many_found : ℕ → Found
too_many_found count = if nat_lt 16 count then Some (TooMany count) else None

abbrev pub tables_found : Sockets → Members → Found
tables_found sockets m = first_of (
    table_found Machine (machine_keys (machine_kind_at (machine_table m))) (machine_table m)
    ∷ too_many_found (length (port_tables m))
    ∷ each_port_found sockets 0 (port_tables m)
    ∷ [])

-- Parts of the address space.

abbrev pub overlap_fault : ℕ × ℕ → ConfigFault
overlap_fault p = Overlap p.0 p.1

abbrev pub windows : List PortConfig → List Part
windows [] = []
windows (p ∷ ps) = record { base = p.base; size = p.size } ∷ windows ps

abbrev pub parts : Config → List Part
parts c = with_windows c.ram (windows c.ports)

-- Lines.

abbrev pub has_line : PortConfig → ℕ → Bool
has_line p line = has_line_as p.kind
  where
    has_line_as : PortKind → Bool
    has_line_as Null = false
    has_line_as _ = nat_eq p.line line

-- the first of the later ports that has this line
abbrev pub line_found : ℕ → ℕ → ℕ → List PortConfig → Found
line_found a line b [] = None
line_found a line b (p ∷ ps) = if has_line p line then Some (LineTwice a b) else line_found a line (b + 1) ps

abbrev pub lines_found : ℕ → List PortConfig → Found
lines_found a [] = None
lines_found a (p ∷ ps) =
    or_else (if has_line p p.line then line_found a p.line (a + 1) ps else None) (lines_found (a + 1) ps)

-- Capabilities: a DMA needs 1 and 2.

abbrev pub port_needs : ℕ → PortKind → Bool → Bool → Found
port_needs port Dma false enables = Some (Needs port 1)
port_needs port Dma true false = Some (Needs port 2)
port_needs port _ base enables = None

abbrev pub needs_found : ℕ → List PortConfig → Found
needs_found port [] = None
needs_found port (p ∷ ps) = or_else (port_needs port p.kind p.caps.base p.caps.enables) (needs_found (port + 1) ps)

-- The port that is to be served is there.
abbrev pub served_found : Sockets → ℕ → Found
served_found (Port p) count = if nat_lt p count then None else Some (Missing (PortTable p) (codes "kind"))
served_found _ count = None

abbrev pub parts_found : Sockets → Config → Found
parts_found sockets c =
    first_of (option_map overlap_fault (overlap_found 0 (parts c)) ∷ lines_found 0 c.ports ∷ needs_found 0 c.ports
    ∷ served_found sockets (length c.ports) ∷ [])

-- The first rule that a table of the top level breaks.
abbrev pub config_found : Sockets → Members → Found
config_found sockets m = first_of (top_found m ∷ tables_found sockets m ∷ parts_found sockets (config_of m) ∷ [])
