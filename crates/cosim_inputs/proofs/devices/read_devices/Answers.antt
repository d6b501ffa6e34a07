use Rattle.std.proofs.Common.{◌≡◌, ◌+◌, drop, take, refl, sym, ◌∙◌, subst, arith}
use Rattle.std.proofs.lemmas.Grind.{common_steps}
use Rattle.outcomes.specs.Asked.{asking, AsksAll, AsksSome, AsksUpTo}
use Rattle.outcomes.specs.Seen.{seen}
use Rattle.cosim_inputs.specs.Inputs.{port_files, ports_files, names_read}
use Rattle.cosim_inputs.specs.Reads.{AreRead, AreUnread, AreLacking}
use Rattle.outcomes.proofs.After.{joined-told}
use Rattle.cosim_inputs.proofs.Asking.{asks-both, up-to-within, some-within, unread-stands}
use Rattle.cosim_inputs.proofs.Reading.{port-at, read-both, unread-within, lacks-within, ports_files-next, ports_files-rest, devices-next, kinds-next}
use Rattle.cosim_inputs.proofs.devices.read_devices.Goals as goal

pub read_device-requires : goal.read_device-requires
read_device-requires g c = port-at c.args.ports.now c.ports.config-index c.config-item.result c.requires.ports c.ports-test.true c.config-item.is

pub returns-in-Err-clause-err : goal.returns-in-Err-clause-err
returns-in-Err-clause-err g c =
    let i = c.ports.config-index in
    let x = c.config-item.result in
    let port : c.len-port.result ≡ i = c.len-port.ensures ∙ c.ports.invariant.count in
    let f = seen g.F.Files.count g.F.Files.told c.args.files.now c.ports.files in
    let h = seen g.F.Files.count g.F.Files.told c.ports.files c.read_device.new.files in
    let here : AreUnread h (port_files i x) c.in-Err.fault = subst (λ p. AreUnread h (port_files p x) c.in-Err.fault) port c.in-Err.ensures.err in
    subst (λ l. AreUnread (seen g.F.Files.count g.F.Files.told c.args.files.now c.read_device.new.files) l c.in-Err.fault)
    (sym (ports_files-rest i c.args.ports.now x c.ports-test.true c.config-item.is))
    (unread-within f h (ports_files 0 (take i c.args.ports.now)) (port_files i x) (ports_files (i + 1) (drop (i + 1) c.args.ports.now)) c.in-Err.fault c.ports.invariant.read refl refl here)

pub returns-in-Err-clause-is_sound : goal.returns-in-Err-clause-is_sound
returns-in-Err-clause-is_sound g c = λ is.
    let i = c.ports.config-index in
    let x = c.config-item.result in
    let port : c.len-port.result ≡ i = c.len-port.ensures ∙ c.ports.invariant.count in
    let f = seen g.F.Files.count g.F.Files.told c.args.files.now c.ports.files in
    let h = seen g.F.Files.count g.F.Files.told c.ports.files c.read_device.new.files in
    let sound = c.in-Err.ensures.is_sound (c.ports.invariant.sound is) in
    let here : AreLacking (g.F.Files.told c.ports.files) (port_files i x) c.in-Err.fault = subst (λ p. AreLacking (g.F.Files.told c.ports.files) (port_files p x) c.in-Err.fault) port sound.1 in (
      sound.0,
      subst (λ l. AreLacking (g.F.Files.told c.args.files.now) l c.in-Err.fault)
          (sym (ports_files-rest i c.args.ports.now x c.ports-test.true c.config-item.is))
          (lacks-within f h (ports_files 0 (take i c.args.ports.now)) (port_files i x) (ports_files (i + 1) (drop (i + 1) c.args.ports.now)) c.in-Err.fault (g.met.F.Files.sound_tells c.args.files.now is) c.ports.invariant.read refl here),
    )

pub ports-preserved : goal.ports-preserved
ports-preserved g c =
    let i = c.ports.config-index in
    let x = c.config-item.result in
    let port : c.len-port.result ≡ i = c.len-port.ensures ∙ c.ports.invariant.count in
    let f = seen g.F.Files.count g.F.Files.told c.args.files.now c.ports.files in
    let h = seen g.F.Files.count g.F.Files.told c.ports.files c.read_device.new.files in
    let a = asking g.F.Files.told g.F.Files.asked c.args.files.now c.ports.files in
    let b = asking g.F.Files.told g.F.Files.asked c.ports.files c.read_device.new.files in
    let here : AreRead h (port_files i x) = subst (λ p. AreRead h (port_files p x)) port c.in-Ok.ensures.ok in
    let asked : AsksAll b (names_read (port_files i x)) = subst (λ p. AsksAll b (names_read (port_files p x))) port c.in-Ok.ensures.asks in
    record {
      read = subst (λ l. AreRead (seen g.F.Files.count g.F.Files.told c.args.files.now c.read_device.new.files) l)
          (sym (ports_files-next i c.args.ports.now x c.ports-test.true c.config-item.is))
          (read-both f h (ports_files 0 (take i c.args.ports.now)) (port_files i x) c.ports.invariant.read refl refl here);
      asks = subst (λ l. AsksAll (asking g.F.Files.told g.F.Files.asked c.args.files.now c.read_device.new.files) (names_read l))
          (sym (ports_files-next i c.args.ports.now x c.ports-test.true c.config-item.is))
          (asks-both a b (ports_files 0 (take i c.args.ports.now)) (port_files i x) (joined-told f h c.ports.invariant.read.stands refl, refl) c.ports.invariant.read.fine c.ports.invariant.asks asked);
      devices = devices-next (g.F.Files.told c.args.files.now) i c.args.ports.now x _ _ _ c.ports-test.true c.config-item.is c.in-Ok-push.ensures.items c.ports.invariant.devices
          (g.F.Files.told c.ports.files) (joined-told f h c.ports.invariant.read.stands refl) c.in-Ok.ensures.device;
      fresh = grind (arith, common_steps, c.in-Ok-push.ensures.items, c.ports.invariant.fresh, c.in-Ok.ensures.fresh);
      kinds = kinds-next i c.args.ports.now x _ _ _ c.ports-test.true c.config-item.is c.in-Ok-push.ensures.items c.ports.invariant.kinds c.in-Ok.ensures.kind;
      count = omega (arith, c.in-Ok-push.ensures.len, c.ports.invariant.count);
      sound = λ is. (c.in-Ok.ensures.is_sound (c.ports.invariant.sound is)).0;
    }

pub returns-in-Err-clause-asks : goal.returns-in-Err-clause-asks
returns-in-Err-clause-asks g c =
    let i = c.ports.config-index in
    let x = c.config-item.result in
    let port : c.len-port.result ≡ i = c.len-port.ensures ∙ c.ports.invariant.count in
    let f = seen g.F.Files.count g.F.Files.told c.args.files.now c.ports.files in
    let h = seen g.F.Files.count g.F.Files.told c.ports.files c.read_device.new.files in
    let a = asking g.F.Files.told g.F.Files.asked c.args.files.now c.ports.files in
    let b = asking g.F.Files.told g.F.Files.asked c.ports.files c.read_device.new.files in
    let here : AreUnread h (port_files i x) c.in-Err.fault = subst (λ p. AreUnread h (port_files p x) c.in-Err.fault) port c.in-Err.ensures.err in
    let asked : AsksUpTo (names_read (port_files i x)) b c.in-Err.fault = subst (λ p. AsksUpTo (names_read (port_files p x)) b c.in-Err.fault) port c.in-Err.ensures.asks in
    subst (λ l. AsksUpTo (names_read l) (asking g.F.Files.told g.F.Files.asked c.args.files.now c.read_device.new.files) c.in-Err.fault)
    (sym (ports_files-rest i c.args.ports.now x c.ports-test.true c.config-item.is))
    (up-to-within a b (ports_files 0 (take i c.args.ports.now)) (port_files i x) (ports_files (i + 1) (drop (i + 1) c.args.ports.now)) c.in-Err.fault (joined-told f h c.ports.invariant.read.stands refl, refl)
    c.ports.invariant.read.fine c.ports.invariant.asks (unread-stands h (port_files i x) c.in-Err.fault here) asked)

pub returns-in-Err-push-clause-asks : goal.returns-in-Err-push-clause-asks
returns-in-Err-push-clause-asks g c =
    let i = c.ports.config-index in
    let x = c.config-item.result in
    let port : c.len-port.result ≡ i = c.len-port.ensures ∙ c.ports.invariant.count in
    let f = seen g.F.Files.count g.F.Files.told c.args.files.now c.ports.files in
    let h = seen g.F.Files.count g.F.Files.told c.ports.files c.read_device.new.files in
    let a = asking g.F.Files.told g.F.Files.asked c.args.files.now c.ports.files in
    let b = asking g.F.Files.told g.F.Files.asked c.ports.files c.read_device.new.files in
    let asked : AsksAll b (names_read (port_files i x)) = subst (λ p. AsksAll b (names_read (port_files p x))) port c.in-Ok.ensures.asks in
    subst (λ l. AsksSome (asking g.F.Files.told g.F.Files.asked c.args.files.now c.read_device.new.files) (names_read l))
    (sym (ports_files-rest i c.args.ports.now x c.ports-test.true c.config-item.is))
    (some-within a b (ports_files 0 (take i c.args.ports.now)) (port_files i x) (ports_files (i + 1) (drop (i + 1) c.args.ports.now)) (joined-told f h c.ports.invariant.read.stands refl, refl)
    c.ports.invariant.read.fine c.ports.invariant.asks asked)
