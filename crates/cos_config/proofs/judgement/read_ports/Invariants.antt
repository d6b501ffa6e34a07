use Rattle.std.proofs.Common.{drop}
use Rattle.toml.specs.View.{items_view}
use Rattle.cos_config.proofs.Entering.{PortsRead}
use Rattle.cos_config.proofs.judgement.read_ports.Given as goal

abbrev pub invariant-loop-entry : goal.invariant-loop-entry
invariant-loop-entry l = PortsRead l.sockets (items_view l.entries.items) l.ports (items_view (drop l.entry-index l.entry-items))
