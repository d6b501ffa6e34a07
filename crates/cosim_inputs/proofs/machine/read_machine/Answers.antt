use Rattle.std.proofs.Common.{refl, subst}
use Rattle.outcomes.specs.Asked.{asking, AsksUpTo}
use Rattle.outcomes.specs.Seen.{seen}
use Rattle.outcomes.proofs.After.{joined-told}
use Rattle.cosim_inputs.specs.Inputs.{master_files, ports_files, names_read}
use Rattle.cosim_inputs.proofs.Asking.{up-to-front, up-to-last, unread-stands}
use Rattle.cosim_inputs.proofs.machine.read_machine.Goals as goal

pub returns-in-Err-clause-asks : goal.returns-in-Err-clause-asks
returns-in-Err-clause-asks g c =
    let f = seen g.F.Files.count g.F.Files.told c.args.files.now c.read_master.new.files in
    let a = asking g.F.Files.told g.F.Files.asked c.args.files.now c.read_master.new.files in
    let first = master_files c.args.config.now in
    up-to-front a first (ports_files 0 c.args.config.now.ports) c.in-Err.fault (unread-stands f first c.in-Err.fault c.in-Err.ensures.err) c.in-Err.ensures.asks

pub returns-in-Err-read_devices-clause-asks : goal.returns-in-Err-read_devices-clause-asks
returns-in-Err-read_devices-clause-asks g c =
    let f = seen g.F.Files.count g.F.Files.told c.args.files.now c.read_master.new.files in
    let h = seen g.F.Files.count g.F.Files.told c.read_master.new.files c.read_devices.new.files in
    let a = asking g.F.Files.told g.F.Files.asked c.args.files.now c.read_master.new.files in
    let b = asking g.F.Files.told g.F.Files.asked c.read_master.new.files c.read_devices.new.files in
    up-to-last a b (master_files c.args.config.now) (ports_files 0 c.args.config.now.ports) c.in-Err-read_devices.fault (joined-told f h c.in-Ok.ensures.ok.stands refl, refl) c.in-Ok.ensures.ok.fine c.in-Ok.ensures.asks
    (subst (λ ps. AsksUpTo (names_read (ports_files 0 ps)) b c.in-Err-read_devices.fault) c.as_slice.ensures c.in-Err-read_devices.ensures.asks)
