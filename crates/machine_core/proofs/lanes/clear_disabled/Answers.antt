use Rattle.std.proofs.Common.{◌≡◌, get_or, if◌then◌else◌}
use Rattle.cosim_model.specs.Packets.{is_enabled}
use Rattle.machine_core.proofs.EnabledBytes.{cleared-more, byte-kept, byte-cleared}
use Rattle.machine_core.proofs.lanes.clear_disabled.Goals as goal
use Rattle.machine_core.proofs.lanes.clear_disabled.Goals.{then-enabled, else-enabled}

pub loop-at-preserved : goal.loop-at-preserved
loop-at-preserved c =
    let on = is_enabled c.args.bus.now.enables.bytes c.loop-at.at in
    let had = get_or c.loop-at.bytes c.loop-at.at 0 in
    let byte : c.if-enabled.byte ≡ (if on then had else 0) =
    elim c.if-enabled.branch [ then-enabled w ↦ byte-kept on _ had _ c.enabled.ensures w.if-enabled.true w.byte-is | else-enabled w ↦ byte-cleared on _ had _ c.enabled.ensures w.if-enabled.false w.byte-is ] in
    cleared-more c.args.bus.now.enables.bytes c.args.bytes.now c.loop-at.bytes c.args.bus.now.len c.loop-at.at _ c.loop-at-test.true byte c.loop-at.invariant
