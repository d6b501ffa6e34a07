use Rattle.std.proofs.Common.{refl}
use Rattle.outcomes.specs.Asked.{asking}
use Rattle.outcomes.specs.Seen.{seen}
use Rattle.configured_machine.proofs.Having.{config-lacks, machine-lacks}
use Rattle.configured_machine.proofs.Naming.{config-asks}
use Rattle.configured_machine.proofs.parts.read_parts.Goals as goal

pub returns-in-Err-clause-asks : goal.returns-in-Err-clause-asks
returns-in-Err-clause-asks g c =
    let f = seen g.F.Files.count g.F.Files.told c.args.files.now c.read_config.new.files in
    config-asks c.args.sockets f c.args.name.now (asking g.F.Files.told g.F.Files.asked c.args.files.now c.read_config.new.files)
    c.in-Err.fault refl c.in-Err.ensures.err c.in-Err.ensures.asks

pub returns-in-Err-clause-is_sound : goal.returns-in-Err-clause-is_sound
returns-in-Err-clause-is_sound g c = λ is.
    let sound = c.in-Err.ensures.is_sound is in
    (sound.0, config-lacks c.args.sockets (g.F.Files.told c.args.files.now) c.args.name.now c.in-Err.fault sound.1)

pub returns-in-Err-read_machine-clause-is_sound : goal.returns-in-Err-read_machine-clause-is_sound
returns-in-Err-read_machine-clause-is_sound g c = λ is.
    let f = seen g.F.Files.count g.F.Files.told c.args.files.now c.read_config.new.files in
    let h = seen g.F.Files.count g.F.Files.told c.read_config.new.files c.read_machine.new.files in
    let sound = c.in-Err-read_machine.ensures.is_sound (c.in-Ok.ensures.is_sound is).0 in (
      sound.0,
      machine-lacks c.args.sockets f h c.args.name.now c.in-Ok.config c.in-Err-read_machine.fault c.in-Ok.ensures.ok.stands
          c.in-Ok.ensures.ok.judged refl sound.1,
    )
