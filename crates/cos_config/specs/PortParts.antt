-- A port's settings in parts, as they are read.
use Rattle.std.specs.Prelude.{Bool, not, codes, [], ◌∷◌}
use Rattle.toml.specs.Data.{Members, get_member}
use Rattle.cos_config.specs.declared.config.PortKind.{PortKind}
use Rattle.cos_config.specs.declared.port.Link.{Link}
use Rattle.cos_config.specs.declared.port.Sectors.{Sectors}
use Rattle.cos_config.specs.Tables.{text_at, place_keys, link_keys, uart_keys, disk_keys, optional_key}
use Rattle.cos_config.specs.declared.fault.TableName.{TableName}
use Rattle.cos_config.specs.First.{Found, first_of}
use Rattle.cos_config.specs.Keys.{A_text, key_found, keys_found}
use Rattle.cos_config.specs.Settings.{posting_at, caps_in, numbers_in, disk_text, bad_of}

-- What is wrong with a port's keys, part by part.
abbrev pub parts_found : TableName → PortKind → Bool → Members → Found
parts_found name kind needs_socket m = first_of (
    keys_found name m (place_keys kind)
    ∷ keys_found name m (link_keys needs_socket)
    ∷ keys_found name m (uart_keys kind)
    ∷ key_found name m (optional_key (codes "relay") A_text)
    ∷ keys_found name m (disk_keys kind)
    ∷ [])

abbrev pub link_of : Members → Link
link_of m = record {
  posted_stores = posting_at (codes "stores") m;
  answered_lines = not (posting_at (codes "lines") m);
  caps = caps_in (numbers_in (get_member (codes "caps") m));
  socket = text_at (codes "socket") m;
}

abbrev pub sectors_of : PortKind → Members → Sectors
sectors_of kind m = record {
  disk = disk_text kind (codes "disk") m;
  bad = bad_of kind m;
  result = disk_text kind (codes "result") m;
}
