use Rattle.std.proofs.Common.{refl, ap, ◌∙◌, get_or}
use Rattle.outcomes.specs.Asked.{asking}
use Rattle.outcomes.specs.Seen.{seen}
use Rattle.outcomes.proofs.After.{joined-told}
use Rattle.cosim_device.proofs.Finding.{config-lacks, config-asks, looked-up, port-got, end-made, end-unread, end-lacks, end-asks}
use Rattle.cosim_device.proofs.port.read_port.Goals as goal

pub returns-in-Err-clause-asks : goal.returns-in-Err-clause-asks
returns-in-Err-clause-asks g c =
    let f = seen g.F.Files.count g.F.Files.told c.args.files.now c.read_config.new.files in
    let a = asking g.F.Files.told g.F.Files.asked c.args.files.now c.read_config.new.files in
    config-asks f c.args.config.now c.args.port a c.in-Err.fault refl c.in-Err.ensures.err c.in-Err.ensures.asks

pub returns-in-Err-clause-is_sound : goal.returns-in-Err-clause-is_sound
returns-in-Err-clause-is_sound g c = λ is.
    let sound = c.in-Err.ensures.is_sound is in
    (sound.0, config-lacks (g.F.Files.told c.args.files.now) c.args.config.now c.args.port c.in-Err.fault sound.1)

pub read_end-requires : goal.read_end-requires
read_end-requires g c = port-got c.in-Ok.config.ports c.args.port c.in-Some.settings.now c.in-Ok.ensures.limits.ports (looked-up c.in-Ok.config.ports c.args.port c.in-Some.settings.now c.in-Ok.ensures.served (c.in-Some.ensures.lookup.1 ∙ ap (λ ps. get_or ps c.args.port c.in-Some.settings.now) c.as_slice.ensures))

pub returns-clause-ok : goal.returns-clause-ok
returns-clause-ok g c =
    let f = seen g.F.Files.count g.F.Files.told c.args.files.now c.read_config.new.files in
    let h = seen g.F.Files.count g.F.Files.told c.read_config.new.files c.read_end.new.files in
    end-made f h c.args.config.now c.args.port c.in-Ok.config c.in-Some.settings.now c.read_end.result c.in-Ok.ensures.ok.stands c.in-Ok.ensures.ok.judged (looked-up c.in-Ok.config.ports c.args.port c.in-Some.settings.now c.in-Ok.ensures.served (c.in-Some.ensures.lookup.1 ∙ ap (λ ps. get_or ps c.args.port c.in-Some.settings.now) c.as_slice.ensures)) refl refl c.read_end.ensures.ok c.read_end.ensures.end

pub returns-clause-err : goal.returns-clause-err
returns-clause-err g c =
    let f = seen g.F.Files.count g.F.Files.told c.args.files.now c.read_config.new.files in
    let h = seen g.F.Files.count g.F.Files.told c.read_config.new.files c.read_end.new.files in
    end-unread f h c.args.config.now c.args.port c.in-Ok.config c.in-Some.settings.now c.read_end.result c.in-Ok.ensures.ok.stands c.in-Ok.ensures.ok.judged (looked-up c.in-Ok.config.ports c.args.port c.in-Some.settings.now c.in-Ok.ensures.served (c.in-Some.ensures.lookup.1 ∙ ap (λ ps. get_or ps c.args.port c.in-Some.settings.now) c.as_slice.ensures)) refl refl c.read_end.ensures.err

pub returns-clause-asks : goal.returns-clause-asks
returns-clause-asks g c =
    let f = seen g.F.Files.count g.F.Files.told c.args.files.now c.read_config.new.files in
    let h = seen g.F.Files.count g.F.Files.told c.read_config.new.files c.read_end.new.files in
    let a = asking g.F.Files.told g.F.Files.asked c.args.files.now c.read_config.new.files in
    let b = asking g.F.Files.told g.F.Files.asked c.read_config.new.files c.read_end.new.files in
    end-asks c.args.config.now c.args.port c.in-Ok.config c.in-Some.settings.now a b c.read_end.result c.in-Ok.ensures.ok.judged (looked-up c.in-Ok.config.ports c.args.port c.in-Some.settings.now c.in-Ok.ensures.served (c.in-Some.ensures.lookup.1 ∙ ap (λ ps. get_or ps c.args.port c.in-Some.settings.now) c.as_slice.ensures))
    (joined-told f h c.in-Ok.ensures.ok.stands refl, refl) c.in-Ok.ensures.asks c.read_end.ensures.asks

pub returns-clause-is_sound : goal.returns-clause-is_sound
returns-clause-is_sound g c = λ is.
    let f = seen g.F.Files.count g.F.Files.told c.args.files.now c.read_config.new.files in
    let h = seen g.F.Files.count g.F.Files.told c.read_config.new.files c.read_end.new.files in
    let sound = c.read_end.ensures.is_sound (c.in-Ok.ensures.is_sound is).0 in (
      sound.0,
      end-lacks f h c.args.config.now c.args.port c.in-Ok.config c.in-Some.settings.now c.read_end.result (g.met.F.Files.sound_tells c.args.files.now is) c.in-Ok.ensures.ok.stands c.in-Ok.ensures.ok.judged (looked-up c.in-Ok.config.ports c.args.port c.in-Some.settings.now c.in-Ok.ensures.served (c.in-Some.ensures.lookup.1 ∙ ap (λ ps. get_or ps c.args.port c.in-Some.settings.now) c.as_slice.ensures)) refl
          sound.1,
    )
