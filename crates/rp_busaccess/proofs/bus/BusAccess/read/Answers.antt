use Rattle.std.proofs.Common.{◌≡◌, ◌∙◌, sym, subst, arith}
use Rattle.cosim_model.specs.Values.{bit}
use Rattle.cosim_model.specs.Packets.{BusFields}
use Rattle.rp_header.specs.Numbers.{field}
use Rattle.rp_busaccess.specs.Buses.{IsBus}
use Rattle.rp_busaccess.specs.Bits.{fields_of}
use Rattle.rp_busaccess.specs.Refusals.{fields_in}
use Rattle.rp_busaccess.specs.BusLaws.{same-fields, IsBus-there, IsBus-read}
use Rattle.rp_busaccess.proofs.bus.BusAccess.read.Goals as goal

fields-are : (c : goal.In_ok-copy_of-in-Ok-2) → fields_of (record { time = c.u64_at.result; attributes = c.u64_at-in-Ok.result; addr = c.u64_at-in-Ok-2.result; len = c.u32_at.result; width = c.u32_at-in-Ok.result; stream_width = c.u32_at-in-Ok-2.result; master = c.master_of.result; payload = c.in_ok-copy_of-in-Ok.field-0; enables = c.in_ok-copy_of-in-Ok-2.field-0 }) ≡ fields_in (bit (field 28 8 c.args.body.now) 2) c.args.carries c.args.body.now
fields-are c =
    same-fields _ _ c.u64_at.ensures c.u64_at-in-Ok.ensures c.u64_at-in-Ok-2.ensures c.u32_at.ensures c.u32_at-in-Ok.ensures c.u32_at-in-Ok-2.ensures c.master_of.ensures
    (c.in_ok-copy_of-in-Ok.ensures ∙ c.in-Ok.ensures.payload) (c.in_ok-copy_of-in-Ok-2.ensures ∙ c.in-Ok.ensures.enables)

pub returns-in_ok-copy_of-in-Ok-2-clause-ok : goal.returns-in_ok-copy_of-in-Ok-2-clause-ok
returns-in_ok-copy_of-in-Ok-2-clause-ok c =
    subst (λ (f : BusFields). IsBus c.args.carries f c.args.body.now) (sym (fields-are c))
    (IsBus-there c.args.carries c.args.body.now (record { each = λ i. omega (arith, c.type_inv.body i) }) c.in-Ok.ensures.lawful)

pub returns-in_ok-copy_of-in-Ok-2-clause-exact : goal.returns-in_ok-copy_of-in-Ok-2-clause-exact
returns-in_ok-copy_of-in-Ok-2-clause-exact c = λ f is. fields-are c ∙ (IsBus-read c.args.carries f c.args.body.now is).fields_are

pub returns-in-Err-clause-exact : goal.returns-in-Err-clause-exact
returns-in-Err-clause-exact c = λ f is.
    let none = (IsBus-read c.args.carries f c.args.body.now is).lawful in
    let some = c.in-Err.ensures.refused in
    absurd (cc (none, some))
