use Rattle.std.proofs.Common.{◌∙◌, sym, ap, subst}
use Rattle.std.specs.Prelude.{Option}
use Rattle.rp_packet.specs.declared.fault.Cause.{Cause}
use Rattle.rp_packet.specs.Refusals.{header_cause}
use Rattle.rp_packet.specs.Reading.{IsEarlyFault}
use Rattle.rp_packet.specs.PacketLaws.{header-at, early-front}
use Rattle.rp_packet.proofs.decode.header_of.Goals as goal

pub returns-in-Ok-clause-at : goal.returns-in-Ok-clause-at
returns-in-Ok-clause-at c =
    let fields = c.in-Ok.ensures.fields in
    header-at c.in-Ok.header c.args.bytes.now c.in-Some.front.now c.in-Some.ensures.cases.same fields.0 fields.1 fields.2 fields.3 fields.4

pub returns-in-Ok-clause-lawful : goal.returns-in-Ok-clause-lawful
returns-in-Ok-clause-lawful c =
    sym (early-front c.args.bytes.now c.in-Some.front.now c.in-Some.ensures.cases.same) ∙ ap header_cause c.in-Ok.ensures.lawful

pub returns-in-Err-clause-refused : goal.returns-in-Err-clause-refused
returns-in-Err-clause-refused c =
    subst (λ (r : Option Cause). IsEarlyFault r c.header_fault.result)
    (ap header_cause (sym c.in-Err.ensures.refused) ∙ early-front c.args.bytes.now c.in-Some.front.now c.in-Some.ensures.cases.same)
    c.header_fault.ensures
