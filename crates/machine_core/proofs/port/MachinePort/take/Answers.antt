use Rattle.std.proofs.Common.{subst}
use Rattle.ends_model.specs.MachineTurn.{PortEnd}
use Rattle.rp_packet.specs.Values.{value_of}
use Rattle.machine_core.specs.Ports.{IsTakenOr, Keeps}
use Rattle.machine_core.proofs.Holding.{take-port, take-keeps, taken}
use Rattle.machine_core.proofs.port.MachinePort.take.Goals as goal

pub invariant_of-self : goal.invariant_of-self
invariant_of-self c = take-port _ (value_of c.args.packet.now) _ c.take.ensures.session c.requires.read c.self.invariant

pub returns-clause-taken : goal.returns-clause-taken
returns-clause-taken c =
    subst (λ (q : PortEnd). IsTakenOr q.session c.take.new.self (value_of c.args.packet.now) c.take.result) c.self.view_is
    (taken c.self.inside.session (value_of c.args.packet.now) _ _ c.take.ensures.session c.take.ensures.event
    c.self.invariant.role c.requires.read)

pub returns-clause-keeps : goal.returns-clause-keeps
returns-clause-keeps c =
    subst (λ (q : PortEnd). Keeps q.session c.take.new.self) c.self.view_is
    (take-keeps c.self.inside.session (value_of c.args.packet.now) _ c.take.ensures.session c.self.invariant.role
    c.requires.read)
