-- A port that is read part by part is read by its table.
use Rattle.std.proofs.Common.{◌≡◌, Bool, is_some, codes, List, [], ◌∷◌, ◌++◌, map, Some, None, Result, Ok, Err, unwrap_or, refl, sym, ◌∙◌, ap, inl, inr}
use Rattle.toml.specs.Data.{Members}
use Rattle.cos_config.specs.declared.config.PortKind.{PortKind}
use Rattle.cos_config.specs.declared.config.PortKind.TheVariants.{Null}
use Rattle.cos_config.specs.declared.config.PortConfig.{PortConfig}
use Rattle.cos_config.specs.declared.fault.TableName.{TableName}
use Rattle.cos_config.specs.declared.fault.ConfigFault.{ConfigFault}
use Rattle.cos_config.specs.First.{Found, or_else}
use Rattle.cos_config.specs.Keys.{A_word, A_text, Key, name_of, key_found, keys_found, unknown_found, table_found}
use Rattle.cos_config.specs.Tables.{port_kind_of, port_kind_at, port_keys, place_keys, link_keys, uart_keys, disk_keys, required_key, optional_key}
use Rattle.cos_config.specs.Settings.{port_of, port_with}
use Rattle.cos_config.specs.PortParts.{parts_found}
use Rattle.cos_config.specs.Reading.{Reads}

or_else-assoc : (a b c : Found) → or_else (or_else a b) c ≡ or_else a (or_else b c)
or_else-assoc None b c = refl
or_else-assoc (Some f) b c = refl

or_else-none : (a : Found) → or_else a None ≡ a
or_else-none None = refl
or_else-none (Some f) = refl

keys_found-append : (name : TableName) (m : Members) (xs ys : List Key) → keys_found name m (xs ++ ys) ≡ or_else (keys_found name m xs) (keys_found name m ys)
keys_found-append name m [] ys = refl
keys_found-append name m (x ∷ xs) ys =
    ap (or_else (key_found name m x)) (keys_found-append name m xs ys) ∙ sym (or_else-assoc (key_found name m x) (keys_found name m xs) (keys_found name m ys))

abbrev kind_key : Key
kind_key = required_key (codes "kind") (A_word (λ s. is_some (port_kind_of s)))

port-parts : (name : TableName) (m : Members) (kind : PortKind) (needs_socket : Bool) → key_found name m kind_key ≡ None → keys_found name m (port_keys (Some kind) needs_socket) ≡ parts_found name kind needs_socket m
port-parts name m kind needs_socket none =
    let place = place_keys kind in
    let link = link_keys needs_socket in
    let uart = uart_keys kind in
    let rest : List Key = optional_key (codes "relay") A_text ∷ disk_keys kind in
    keys_found-append name m ((kind_key ∷ place ++ link) ++ uart) rest
    ∙ ap (λ f. or_else f (keys_found name m rest)) (keys_found-append name m (kind_key ∷ place ++ link) uart
    ∙ ap (λ f. or_else f (keys_found name m uart)) (keys_found-append name m (kind_key ∷ place) link
    ∙ ap (λ f. or_else (or_else f (keys_found name m place)) (keys_found name m link)) none))
    ∙ or_else-assoc (or_else (keys_found name m place) (keys_found name m link)) (keys_found name m uart) (keys_found name m rest)
    ∙ or_else-assoc (keys_found name m place) (keys_found name m link) (or_else (keys_found name m uart) (keys_found name m rest))
    ∙ ap (λ f. or_else (keys_found name m place) (or_else (keys_found name m link) (or_else (keys_found name m uart) (or_else (key_found name m (optional_key (codes "relay") A_text)) f)))) (sym (or_else-none (keys_found name m (disk_keys kind))))

table-parts : (name : TableName) (m : Members) (kind : PortKind) (needs_socket : Bool) → port_kind_at m ≡ Some kind → unknown_found name (map name_of (port_keys (port_kind_at m) needs_socket)) m ≡ None → key_found name m kind_key ≡ None → table_found name (port_keys (port_kind_at m) needs_socket) m ≡ parts_found name kind needs_socket m
table-parts name m kind needs_socket is known none =
    ap (λ f. or_else f (keys_found name m (port_keys (port_kind_at m) needs_socket))) known
    ∙ ap (λ said. keys_found name m (port_keys said needs_socket)) is
    ∙ port-parts name m kind needs_socket none

pub port-reads : (name : TableName) (m : Members) (kind : PortKind) (needs_socket : Bool) (result : Result PortConfig ConfigFault) → port_kind_at m ≡ Some kind → unknown_found name (map name_of (port_keys (port_kind_at m) needs_socket)) m ≡ None → key_found name m kind_key ≡ None → Reads PortConfig (parts_found name kind needs_socket m) (port_with kind m) result → Reads PortConfig (table_found name (port_keys (port_kind_at m) needs_socket) m) (port_of m) result
port-reads name m kind needs_socket (Ok port) is known none reads = (table-parts name m kind needs_socket is known none ∙ reads.0, reads.1 ∙ ap (λ said. port_with (unwrap_or said Null) m) (sym is))
port-reads name m kind needs_socket (Err fault) is known none reads = elim reads [ inl memory ↦ inl memory | inr found ↦ inr (table-parts name m kind needs_socket is known none ∙ found) ]
