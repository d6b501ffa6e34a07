use Rattle.std.proofs.Common.{◌≡◌, None, Some, refl, arith}
use Rattle.outcomes.specs.Asked.{asking}
use Rattle.outcomes.specs.Seen.{seen}
use Rattle.outcomes.proofs.After.{joined-told}
use Rattle.cos_config.specs.declared.config.Config.{Config as Settings}
use Rattle.cosim_inputs.specs.Fresh.{master_of, devices_of}
use Rattle.cosim_inputs.specs.Inputs.{trouble, machine_files}
use Rattle.cosim_direct.proofs.Coming.{comes-printed, config-not-run, config-lacks, machine-not-run, machine-lacks}
use Rattle.cosim_direct.proofs.Naming.{config-asks, machine-asks, machine-unread}
use Rattle.cosim_direct.proofs.command.finish.Goals as goal

pub returns-in-Err-clause-err : goal.returns-in-Err-clause-err
returns-in-Err-clause-err g c = config-not-run _ _ _ c.in-Err.ensures.err

pub returns-in-Err-clause-is_sound : goal.returns-in-Err-clause-is_sound
returns-in-Err-clause-is_sound g c = λ is. config-lacks _ _ _ (c.in-Err.ensures.is_sound is).1

pub returns-in-Err-read_machine-clause-err : goal.returns-in-Err-read_machine-clause-err
returns-in-Err-read_machine-clause-err g c =
    let f = seen g.F.Files.count g.F.Files.told c.args.files.now c.read_config.new.files in
    let h = seen g.F.Files.count g.F.Files.told c.read_config.new.files c.read_machine.new.files in
    machine-not-run f h c.args.name.now c.in-Ok.config _ c.in-Ok.ensures.ok.stands c.in-Ok.ensures.ok.judged refl refl c.in-Err-read_machine.ensures.err

pub returns-in-Err-read_machine-clause-is_sound : goal.returns-in-Err-read_machine-clause-is_sound
returns-in-Err-read_machine-clause-is_sound g c = λ is.
    let f = seen g.F.Files.count g.F.Files.told c.args.files.now c.read_config.new.files in
    let h = seen g.F.Files.count g.F.Files.told c.read_config.new.files c.read_machine.new.files in
    machine-lacks f h c.args.name.now c.in-Ok.config _ (g.met.F.Files.sound_tells c.args.files.now is) c.in-Ok.ensures.ok.stands c.in-Ok.ensures.ok.judged refl
    (c.in-Err-read_machine.ensures.is_sound (c.in-Ok.ensures.is_sound is).0).1

pub returns-in-Err-clause-asks : goal.returns-in-Err-clause-asks
returns-in-Err-clause-asks g c =
    let f = seen g.F.Files.count g.F.Files.told c.args.files.now c.read_config.new.files in
    config-asks f c.args.name.now (asking g.F.Files.told g.F.Files.asked c.args.files.now c.read_config.new.files) c.in-Err.fault refl c.in-Err.ensures.err c.in-Err.ensures.asks

pub returns-in-Err-read_machine-clause-asks : goal.returns-in-Err-read_machine-clause-asks
returns-in-Err-read_machine-clause-asks g c =
    let f = seen g.F.Files.count g.F.Files.told c.args.files.now c.read_config.new.files in
    let h = seen g.F.Files.count g.F.Files.told c.read_config.new.files c.read_machine.new.files in
    let a = asking g.F.Files.told g.F.Files.asked c.args.files.now c.read_config.new.files in
    let b = asking g.F.Files.told g.F.Files.asked c.read_config.new.files c.read_machine.new.files in
    machine-unread c.args.name.now c.in-Ok.config a b c.in-Err-read_machine.fault c.in-Ok.ensures.ok.judged (joined-told f h c.in-Ok.ensures.ok.stands refl, refl) c.in-Ok.ensures.asks c.in-Err-read_machine.ensures.asks

pub returns-in-Ok-run-clause-asks : goal.returns-in-Ok-run-clause-asks
returns-in-Ok-run-clause-asks g c =
    let f = seen g.F.Files.count g.F.Files.told c.args.files.now c.read_config.new.files in
    let h = seen g.F.Files.count g.F.Files.told c.read_config.new.files c.read_machine.new.files in
    let a = asking g.F.Files.told g.F.Files.asked c.args.files.now c.read_config.new.files in
    let b = asking g.F.Files.told g.F.Files.asked c.read_config.new.files c.read_machine.new.files in
    machine-asks c.args.name.now c.in-Ok.config a b c.in-Ok.ensures.ok.judged (joined-told f h c.in-Ok.ensures.ok.stands refl, refl) c.in-Ok.ensures.asks c.in-Ok-read_machine.ensures.asks
