use Rattle.std.proofs.Common.{◌≡◌, ◌∙◌, None, map, ap, sym}
use Rattle.toml.specs.View.{table_view}
use Rattle.cos_config.specs.Keys.{name_of, unknown_found}
use Rattle.cos_config.specs.Tables.{port_kind_at, port_keys}
use Rattle.cos_config.specs.declared.fault.TableName.TheVariants.{Port}
use Rattle.cos_config.proofs.PortReads.{port-reads}
use Rattle.cos_config.proofs.port.port.Goals as goal

pub returns : goal.returns
returns c =
    let m = table_view c.args.table.now in
    let kind = c.in_ok-kind.kind in
    let names : map (λ s. s.now) c.port_key_names.result.now ≡ map name_of (port_keys (port_kind_at m) c.args.needs_socket) = c.port_key_names.ensures ∙ ap (λ said. map name_of (port_keys said c.args.needs_socket)) c.said_port_kind.ensures in
    let known : unknown_found (Port c.args.number) (map name_of (port_keys (port_kind_at m) c.args.needs_socket)) m ≡ None = ap (λ ns. unknown_found (Port c.args.number) ns m) (sym names) ∙ c.in_ok-only.ensures.0 in
    port-reads (Port c.args.number) m kind c.args.needs_socket c.read_port.result c.in_ok-kind.ensures.ok known c.in_ok-kind.ensures.found.0 c.read_port.ensures
