use Rattle.std.proofs.Common.{◌≡◌, All, sym, subst}
use Rattle.cosim_model.specs.Direct as model
use Rattle.cos_parts.specs.AnyMasters as any_masters
use Rattle.cos_parts.specs.AnyDevices as any_devices
use Rattle.transcript.specs.CallLines.{HasLine}
use Rattle.transcript.specs.ClosingLines.{run_text}
use Rattle.run_texts.specs.Texts.{run_lines}
use Rattle.run_texts.proofs.Listed.{direct-listed}
use Rattle.run_texts.proofs.Printing.{run-printed}
use Rattle.cosim_direct.proofs.RunParts.{finished-of}
use Rattle.cosim_direct.proofs.finished.run.Goals as goal

pub returns-in-Ok-clause-text : goal.returns-in-Ok-clause-text
returns-in-Ok-clause-text c =
    let r = model.direct any_masters.any_model any_devices.any_model c.args.plan c.args.master c.args.devices.items in
    let gives = c.in_ok-direct.ensures in
    let ran = c.in_ok-direct.direct in
    finished-of (λ calls end. run_text calls.calls end ≡ run_lines r c.args.ports.now) c.with_room.result ran.calls
    c.in-Ok.end c.with_room.ensures.calls c.with_room.ensures.end
    (run-printed r c.args.ports.now ran.calls.calls ran.master ran.ticks c.in-Ok.end
    gives.calls gives.master gives.ticks c.in-Ok.ensures)

pub returns-in-Ok-clause-lines : goal.returns-in-Ok-clause-lines
returns-in-Ok-clause-lines c =
    finished-of (λ calls end. All HasLine calls.calls) c.with_room.result c.in_ok-direct.direct.calls c.in-Ok.end
    c.with_room.ensures.calls c.with_room.ensures.end
    (subst (λ l. All HasLine l) (sym c.in_ok-direct.ensures.calls)
    (direct-listed any_masters.any_model any_devices.any_model c.args.plan any_devices.any_lawful
    c.args.master c.args.devices.items))
