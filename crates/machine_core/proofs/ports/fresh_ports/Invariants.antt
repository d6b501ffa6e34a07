use Rattle.std.proofs.Common.{◌≡◌}
use Rattle.std.specs.Prelude.{replicate, None}
use Rattle.cosim_model.specs.Sessions.{fresh_session}
use Rattle.cosim_model.specs.Values.{all_caps, no_caps}
use Rattle.cosim_model.specs.declared.session.Role.TheVariants.{Machine}
use Rattle.machine_core.proofs.ports.fresh_ports.Given as goal

abbrev pub invariant-ports : goal.invariant-ports
invariant-ports l =
    l.ports.items ≡ replicate l._port (record { session = fresh_session Machine all_caps no_caps; held = None; last = 0 })
