use Rattle.ends_model.specs.MachineTurn.{with_wait}
use Rattle.machine_core.proofs.Scanning.{changed-step, changed-end}
use Rattle.machine_core.proofs.ports.begin_waits.Goals as goal

pub ports-preserved : goal.ports-preserved
ports-preserved c =
    changed-step with_wait c.ports.port-index c.args.ports.now c.ports.ports _ _ c.ports-test.true c.ports.invariant c.port-item.is
    c.begin_wait.ensures

pub returns : goal.returns
returns c =
    changed-end with_wait c.ports.port-index c.args.ports.now _ c.ports.invariant c.ports-test.false
    c.ports.auto.port-index-end
