use Rattle.std.proofs.Common.{◌≡◌, None, length, refl, ap, sym, subst}
use Rattle.cos_parts.specs.declared.any_master.AnyMaster.{AnyMaster}
use Rattle.outcomes.specs.Asked.{asking}
use Rattle.outcomes.specs.Seen.{seen}
use Rattle.outcomes.proofs.After.{joined-told}
use Rattle.cosim_inputs.specs.Inputs.{AsImage, asked_as}
use Rattle.cosim_inputs.proofs.Asking.{image-up-to, script-each, unread-stands}
use Rattle.sys_bus.specs.Maps.{fault_found}
use Rattle.cosim_inputs.specs.Fresh.{windows_of}
use Rattle.cosim_inputs.proofs.Mapping.{makes-map}
use Rattle.cosim_inputs.proofs.master.read_master.Goals as goal

pub make_hart-requires : goal.make_hart-requires
make_hart-requires g c =
    subst (λ ps. fault_found (windows_of ps) (length c.in-Ok.ram) ≡ None) (sym c.as_slice-ports.ensures) (makes-map c.args.config.now _ c.requires c.in-Ok.ensures.size)

pub returns-in-Err-clause-asks : goal.returns-in-Err-clause-asks
returns-in-Err-clause-asks g c =
    let f = seen g.F.Files.count g.F.Files.told c.args.files.now c.read_ram.new.files in
    let a = asking g.F.Files.told g.F.Files.asked c.args.files.now c.read_ram.new.files in
    let image = asked_as (AsImage c.args.config.now.ram) c.args.config.now.image in
    image-up-to c.args.config.now.kind c.args.config.now a c.in-Err.fault (unread-stands f image c.in-Err.fault c.in-Err.ensures.err) c.in-Err.ensures.asks

pub returns-in-Some-clause-asks : goal.returns-in-Some-clause-asks
returns-in-Some-clause-asks g c =
    let f = seen g.F.Files.count g.F.Files.told c.args.files.now c.read_ram.new.files in
    let h = seen g.F.Files.count g.F.Files.told c.read_ram.new.files c.read_script.new.files in
    let a = asking g.F.Files.told g.F.Files.asked c.args.files.now c.read_ram.new.files in
    let b = asking g.F.Files.told g.F.Files.asked c.read_ram.new.files c.read_script.new.files in
    script-each AnyMaster c.args.config.now _ _ a b c.read_script.result c.in-Script.is c.in-Some.is (ap (λ ps. length ps) c.as_slice-ports.ensures) (joined-told f h c.in-Ok.ensures.ok.stands refl, refl)
    c.in-Ok.ensures.ok.fine c.in-Ok.ensures.asks c.read_script.ensures.asks
