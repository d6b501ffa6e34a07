-- The tables of a configuration: which keys they have, and what stands at each.
use Rattle.std.specs.Prelude.{ℕ, Bool, true, false, if◌then◌else◌, is_some, option_and_then, unwrap_or, codes, List, [], ◌∷◌, ◌++◌, Option, Some, None}
use Rattle.std.specs.Str.{bytes_eq}
use Rattle.toml.specs.Data.{Data, Members, get_member, as_str}
use Rattle.cos_config.specs.declared.config.MachineKind.{MachineKind}
use Rattle.cos_config.specs.declared.config.MachineKind.TheVariants.{Rv, Script}
use Rattle.cos_config.specs.declared.config.PortKind.{PortKind}
use Rattle.cos_config.specs.declared.config.PortKind.TheVariants.{Null, Timer, Uart, Dma, Disk}
use Rattle.cos_config.specs.Keys.{Shape, A_word, A_number, A_text, Ascending, Key}

-- the text at a key, where there is one
abbrev pub as_text : Option Data → Option (List ℕ)
as_text None = None
as_text (Some value) = as_str value

abbrev pub text_at : List ℕ → Members → Option (List ℕ)
text_at key members = as_text (get_member key members)

-- The words.

abbrev pub machine_kind_of : List ℕ → Option MachineKind
machine_kind_of s = if bytes_eq s (codes "rv32i") then Some Rv
    else (if bytes_eq s (codes "script") then Some Script else None)

abbrev pub port_kind_of : List ℕ → Option PortKind
port_kind_of s = if bytes_eq s (codes "null") then Some Null
    else (if bytes_eq s (codes "timer") then Some Timer
    else (if bytes_eq s (codes "uart") then Some Uart
    else (if bytes_eq s (codes "dma") then Some Dma else (if bytes_eq s (codes "disk") then Some Disk else None))))

-- whether it is answered or posted: true where it is posted
abbrev pub posting_of : List ℕ → Option Bool
posting_of s = if bytes_eq s (codes "answered") then Some false
    else (if bytes_eq s (codes "posted") then Some true else None)

-- The kinds that the tables say, where they say one.

abbrev pub machine_kind_at : Members → Option MachineKind
machine_kind_at members = option_and_then machine_kind_of (text_at (codes "kind") members)

abbrev pub port_kind_at : Members → Option PortKind
port_kind_at members = option_and_then port_kind_of (text_at (codes "kind") members)

-- The keys.

abbrev pub key_of : List ℕ → Bool → Shape → Key
key_of name required shape = record { name = name; required = required; holds = shape }

abbrev pub required_key : List ℕ → Shape → Key
required_key name shape = key_of name true shape

abbrev pub optional_key : List ℕ → Shape → Key
optional_key name shape = key_of name false shape

-- The names of the top level's tables, of which rules of their own speak.
abbrev pub top_names : List (List ℕ)
top_names = codes "machine" ∷ codes "port" ∷ []

-- A hart has an image, and no script. Where the table says no kind, it may have both.
abbrev pub source_keys : Option MachineKind → List Key
source_keys (Some Rv) = required_key (codes "image") A_text ∷ []
source_keys (Some Script) = optional_key (codes "image") A_text ∷ required_key (codes "script") A_text ∷ []
source_keys None = optional_key (codes "image") A_text ∷ optional_key (codes "script") A_text ∷ []

-- The table `machine`.
abbrev pub machine_keys : Option MachineKind → List Key
machine_keys kind =
    required_key (codes "kind") (A_word (λ s. is_some (machine_kind_of s)))
    ∷ source_keys kind
    ++ required_key (codes "ram") (A_number 4096 67108864 4096)
    ∷ required_key (codes "quantum") (A_number 1 1000000000 1)
    ∷ required_key (codes "units") (A_number 0 4294967295 1)
    ∷ []

-- A window, and the line of a device that has one.
abbrev pub place_keys : PortKind → List Key
place_keys Null = required_key (codes "base") (A_number 4096 4294963200 4096)
    ∷ required_key (codes "size") (A_number 4096 1048576 4096) ∷ []
place_keys _ = required_key (codes "base") (A_number 4096 4294963200 4096)
    ∷ required_key (codes "size") (A_number 4096 1048576 4096) ∷ required_key (codes "line") (A_number 0 31 1) ∷ []

-- The link to the device.
abbrev pub link_keys : Bool → List Key
link_keys needs_socket =
    optional_key (codes "stores") (A_word (λ s. is_some (posting_of s)))
    ∷ optional_key (codes "lines") (A_word (λ s. is_some (posting_of s)))
    ∷ optional_key (codes "caps") (Ascending 1 3)
    ∷ key_of (codes "socket") needs_socket A_text
    ∷ []

abbrev pub uart_keys : PortKind → List Key
uart_keys Uart = optional_key (codes "input") A_text ∷ optional_key (codes "gap") (A_number 1 1000000 1) ∷ []
uart_keys _ = []

abbrev pub disk_keys : PortKind → List Key
disk_keys Disk = required_key (codes "disk") A_text ∷ optional_key (codes "bad") (Ascending 0 32767)
    ∷ optional_key (codes "result") A_text ∷ []
disk_keys _ = []

-- An entry of the array `port`. Where it says no kind, its keys are those of a device with a line and nothing of its
-- own.
abbrev pub port_keys : Option PortKind → Bool → List Key
port_keys said needs_socket =
    let kind = unwrap_or said Timer in
    required_key (codes "kind") (A_word (λ s. is_some (port_kind_of s)))
    ∷ place_keys kind
    ++ link_keys needs_socket
    ++ uart_keys kind
    ++ optional_key (codes "relay") A_text
    ∷ disk_keys kind
