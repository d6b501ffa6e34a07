use Rattle.std.proofs.Common.{◌∙◌, List, ℕ, sym, ap, subst, arith}
use Rattle.std.specs.Prelude.{◌↔◌, IsTrue, Option, Some}
use Rattle.cosim_model.specs.Values.{bit}
use Rattle.cosim_model.specs.declared.session.Command.{Command}
use Rattle.rp_control.specs.ControlLaws.{IsHello-there}
use Rattle.rp_busaccess.specs.BusLaws.{IsBus-there}
use Rattle.rp_busaccess.specs.declared.fault.BusFault.{BusFault}
use Rattle.rp_packet.specs.Spelling.{IsTight}
use Rattle.rp_packet.specs.Refusals.{body_cause, bus_cause, body_in}
use Rattle.rp_packet.specs.Reading.{IsEarlyFault}
use Rattle.rp_packet.specs.FaultLaws.{bus-memory}
use Rattle.rp_packet.proofs.canonical.judge_body.Goals as goal

pub returns-in-Ok-clause-tight : goal.returns-in-Ok-clause-tight
returns-in-Ok-clause-tight c =
    let body : List ℕ = c.args.body.now in
    subst (λ (cmd : Command). IsTrue c.in-Ok.canonical ↔ IsTight (body_in cmd (bit c.args.header.flags 1) body) body) (sym c.in-Hello.is)
    (c.in-Ok.ensures.exact _ _ _ (IsHello-there body (record { each = λ i. omega (arith, c.type_inv.body i) }) c.in-Ok.ensures.lawful))

pub returns-in-Ok-is_canonical-clause-tight : goal.returns-in-Ok-is_canonical-clause-tight
returns-in-Ok-is_canonical-clause-tight c =
    let body : List ℕ = c.args.body.now in
    subst (λ (cmd : Command). IsTrue c.in-Ok-is_canonical.canonical ↔ IsTight (body_in cmd (bit c.args.header.flags 1) body) body) (sym c.in-Read.is)
    (c.in-Ok-is_canonical.ensures.exact _ (IsBus-there _ body (record { each = λ i. omega (arith, c.type_inv.body i) }) c.in-Ok-is_canonical.ensures.lawful))

pub returns-in-Ok-is_canonical-2-clause-tight : goal.returns-in-Ok-is_canonical-2-clause-tight
returns-in-Ok-is_canonical-2-clause-tight c =
    let body : List ℕ = c.args.body.now in
    subst (λ (cmd : Command). IsTrue c.in-Ok-is_canonical-2.canonical ↔ IsTight (body_in cmd (bit c.args.header.flags 1) body) body) (sym c.in-Write.is)
    (c.in-Ok-is_canonical-2.ensures.exact _ (IsBus-there _ body (record { each = λ i. omega (arith, c.type_inv.body i) }) c.in-Ok-is_canonical-2.ensures.lawful))

pub returns-in-Err-is_canonical-2-clause-refused : goal.returns-in-Err-is_canonical-2-clause-refused
returns-in-Err-is_canonical-2-clause-refused c =
    let body : List ℕ = c.args.body.now in
    let refused = c.in-Err-is_canonical-2.ensures.refused in
    subst (λ (cmd : Command). IsEarlyFault (body_cause cmd (bit c.args.header.flags 1) body) c.bus_fault-in-Err-is_canonical-2.result) (sym c.in-Write.is)
    (subst (λ (r : Option BusFault). IsEarlyFault (bus_cause r) c.bus_fault-in-Err-is_canonical-2.result) (sym refused)
    (c.bus_fault-in-Err-is_canonical-2.ensures.named (λ memory. bus-memory _ body (refused ∙ ap Some memory))))
