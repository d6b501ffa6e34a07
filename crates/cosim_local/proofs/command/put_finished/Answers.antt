use Rattle.std.proofs.Common.{◌≡◌, All, refl, Ok, Err, ap, sym, ◌∙◌, subst, arith}
use Rattle.cos_base.specs.Counts.{Rose}
use Rattle.cos_base.specs.Sinks.{Puts}
use Rattle.cos_parts.specs.declared.any_master.AnyMaster.{AnyMaster}
use Rattle.outcomes.specs.Seen.{seen}
use Rattle.outcomes.specs.Steps.{IsPrinted, IsRoomFor}
use Rattle.transcript.specs.CallLines.{HasLine}
use Rattle.transcript.specs.ClosingLines.{run_text}
use Rattle.world.specs.Stars.{Hub}
use Rattle.cosim_local.proofs.Printing.{printed-both, first-part, room-both}
use Rattle.cosim_local.proofs.command.put_finished.Goals as goal

pub put_lines-requires-clause-lines : goal.put_lines-requires-clause-lines
put_lines-requires-clause-lines g c =
    let calls : c.calls-calls.result.now.calls ≡ c.args.finished.world.now.hub.core.calls =
    c.calls-calls.ensures ∙ ap (λ (h : Hub AnyMaster). h.core.calls) (sym c.machine.ensures) in
    subst (λ l. All HasLine l) (sym calls) c.requires.lines

pub returns-in-Ok-clause-puts : goal.returns-in-Ok-clause-puts
returns-in-Ok-clause-puts g c =
    let calls : c.calls-calls.result.now.calls ≡ c.args.finished.world.now.hub.core.calls =
    c.calls-calls.ensures ∙ ap (λ (h : Hub AnyMaster). h.core.calls) (sym c.machine.ensures) in
    let told = g.K.Sink.told in
    let j = seen g.K.Sink.count told c.args.out.now c.put_lines.new.out in
    let k = seen g.K.Sink.count told c.put_lines.new.out c.put_text.new.out in
    printed-both j k _ c.args.finished.traffic.bytes c.put_text.result c.in-Ok.ensures.counts
    (subst (λ l. Puts j.old j.new (run_text l c.args.finished.end) (Ok tt)) calls c.in-Ok.ensures.tells) refl refl
    (subst (λ t. IsPrinted k t c.put_text.result) c.as_slice.ensures c.put_text.ensures.puts)

pub returns-in-Ok-clause-is_sound : goal.returns-in-Ok-clause-is_sound
returns-in-Ok-clause-is_sound g c = λ is.
    let calls : c.calls-calls.result.now.calls ≡ c.args.finished.world.now.hub.core.calls =
    c.calls-calls.ensures ∙ ap (λ (h : Hub AnyMaster). h.core.calls) (sym c.machine.ensures) in
    let told = g.K.Sink.told in
    let j = seen g.K.Sink.count told c.args.out.now c.put_lines.new.out in
    let soundly = c.in-Ok.ensures.is_sound is in
    room-both j.old j.new (g.K.Sink.room c.args.out.now) (g.K.Sink.room c.put_lines.new.out) _
    c.args.finished.traffic.bytes c.put_text.result (g.met.K.Sink.sound_tells c.args.out.now is)
    (subst (λ l. Puts j.old j.new (run_text l c.args.finished.end) (Ok tt)) calls c.in-Ok.ensures.tells)
    soundly.1.lowers
    (subst (λ t. IsRoomFor (g.K.Sink.room c.put_lines.new.out) t c.put_text.result) c.as_slice.ensures
    (c.put_text.ensures.is_sound soundly.0))

pub returns-clause-puts : goal.returns-clause-puts
returns-clause-puts g c =
    let calls : c.calls-calls.result.now.calls ≡ c.args.finished.world.now.hub.core.calls =
    c.calls-calls.ensures ∙ ap (λ (h : Hub AnyMaster). h.core.calls) (sym c.machine.ensures) in
    let told = g.K.Sink.told in
    let j = seen g.K.Sink.count told c.args.out.now c.put_lines.new.out in
    let counts = c.in-Err.ensures.counts in (
      (
        subst (λ n. Rose (g.K.Sink.count c.args.out.now) n) (sym c.faults.ensures) counts.1,
        omega (arith, c.faults.ensures),
      ),
      first-part j _ c.args.finished.traffic.bytes c.in-Err.field-0
          (subst (λ l. Puts j.old j.new (run_text l c.args.finished.end) (Err c.in-Err.field-0)) calls
          c.in-Err.ensures.tells),
    )
