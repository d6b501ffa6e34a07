-- What a configuration that breaks no rule sets: each key's value, or its default.
use Rattle.std.specs.Prelude.{ℕ, Bool, true, false, not, nat_eq, codes, option_and_then, unwrap_or, List, [], ◌∷◌, Option, Some, None}
use Rattle.std.specs.List.{list_any}
use Rattle.toml.specs.Data.{Data, array, table, Items, no_items, item, Members, no_members, get_member}
use Rattle.cosim_model.specs.declared.values.Caps.{Caps}
use Rattle.cos_config.specs.declared.config.MachineKind.{MachineKind}
use Rattle.cos_config.specs.declared.config.MachineKind.TheVariants.{Rv, Script}
use Rattle.cos_config.specs.declared.config.PortKind.{PortKind}
use Rattle.cos_config.specs.declared.config.PortKind.TheVariants.{Null, Uart, Disk}
use Rattle.cos_config.specs.declared.config.PortConfig.{PortConfig}
use Rattle.cos_config.specs.declared.config.Config.{Config}
use Rattle.cos_config.specs.Keys.{number_in}
use Rattle.cos_config.specs.Tables.{text_at, machine_kind_at, port_kind_at, posting_of}

abbrev pub number_at : List ℕ → ℕ → Members → ℕ
number_at key default members = number_in default (get_member key members)

-- whether the word at a key says `posted`; where it is absent it is `answered`
abbrev pub posting_at : List ℕ → Members → Bool
posting_at key members = unwrap_or (option_and_then posting_of (text_at key members)) false

abbrev pub numbers_of : Items → List ℕ
numbers_of no_items = []
numbers_of (item entry later) = number_in 0 (Some entry) ∷ numbers_of later

abbrev pub numbers_in : Option Data → Option (List ℕ)
numbers_in (Some (array entries)) = Some (numbers_of entries)
numbers_in _ = None

abbrev pub lists : ℕ → List ℕ → Bool
lists n ns = list_any (λ m. nat_eq m n) ns

-- all three where the key is absent
abbrev pub caps_in : Option (List ℕ) → Caps
caps_in None = record { base = true; enables = true; posted = true }
caps_in (Some ns) = record { base = lists 1 ns; enables = lists 2 ns; posted = lists 3 ns }

-- Where a key is absent, or is none of the kind's keys, its setting is the default.

abbrev pub line_of : PortKind → Members → ℕ
line_of Null m = 0
line_of _ m = number_at (codes "line") 0 m

abbrev pub input_of : PortKind → Members → Option (List ℕ)
input_of Uart m = text_at (codes "input") m
input_of _ m = None

abbrev pub gap_of : PortKind → Members → ℕ
gap_of Uart m = number_at (codes "gap") 1 m
gap_of _ m = 1

abbrev pub disk_text : PortKind → List ℕ → Members → Option (List ℕ)
disk_text Disk key m = text_at key m
disk_text _ key m = None

abbrev pub bad_of : PortKind → Members → List ℕ
bad_of Disk m = unwrap_or (numbers_in (get_member (codes "bad") m)) []
bad_of _ m = []

abbrev pub port_with : PortKind → Members → PortConfig
port_with kind m = record {
  kind = kind;
  base = number_at (codes "base") 0 m;
  size = number_at (codes "size") 0 m;
  line = line_of kind m;
  posted_stores = posting_at (codes "stores") m;
  answered_lines = not (posting_at (codes "lines") m);
  caps = caps_in (numbers_in (get_member (codes "caps") m));
  socket = text_at (codes "socket") m;
  input = input_of kind m;
  gap = gap_of kind m;
  relay = text_at (codes "relay") m;
  disk = disk_text kind (codes "disk") m;
  bad = bad_of kind m;
  result = disk_text kind (codes "result") m;
}

abbrev pub port_of : Members → PortConfig
port_of m = port_with (unwrap_or (port_kind_at m) Null) m

abbrev pub table_in : Option Data → Members
table_in (Some (table m)) = m
table_in _ = no_members

abbrev pub tables_of : Items → List Members
tables_of no_items = []
tables_of (item (table m) later) = m ∷ tables_of later
tables_of (item _ later) = tables_of later

abbrev pub tables_in : Option Data → List Members
tables_in (Some (array entries)) = tables_of entries
tables_in _ = []

abbrev pub machine_table : Members → Members
machine_table m = table_in (get_member (codes "machine") m)

abbrev pub port_tables : Members → List Members
port_tables m = tables_in (get_member (codes "port") m)

abbrev pub ports_of : List Members → List PortConfig
ports_of [] = []
ports_of (m ∷ ms) = port_of m ∷ ports_of ms

abbrev pub script_of : MachineKind → Members → Option (List ℕ)
script_of Rv m = None
script_of Script m = text_at (codes "script") m

abbrev pub config_with : MachineKind → Members → List PortConfig → Config
config_with kind m ports = record {
  kind = kind;
  image = text_at (codes "image") m;
  script = script_of kind m;
  ram = number_at (codes "ram") 0 m;
  quantum = number_at (codes "quantum") 0 m;
  units = number_at (codes "units") 0 m;
  ports = ports;
}

abbrev pub machine_of : Members → List PortConfig → Config
machine_of m ports = config_with (unwrap_or (machine_kind_at m) Rv) m ports

abbrev pub config_of : Members → Config
config_of m = machine_of (machine_table m) (ports_of (port_tables m))
