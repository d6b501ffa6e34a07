use Rattle.std.proofs.Common.{◌++◌, Err, ap, sym, subst}
use Rattle.std.specs.List.{flat_map}
use Rattle.cos_base.specs.Sinks.{Puts, PutsSoundly}
use Rattle.transcript.specs.CallLines.{call_text}
use Rattle.transcript.specs.ClosingLines.{closing_text, run_text}
use Rattle.transcript.proofs.Moving.{moved-rest, puts-fails, puts-last, sound-last}
use Rattle.transcript.proofs.output.put_lines.Goals as goal

pub returns-in_err-write_closing-clause-tells : goal.returns-in_err-write_closing-clause-tells
returns-in_err-write_closing-clause-tells g c =
    let whole = moved-rest g.K.Sink.told g.K.Sink.count g.K.Sink.room g.K.Sink.sound g.met.K.Sink.sound_tells _ _ _ _ _ _ _ _ (run_text c.args.calls.now.calls c.args.end.now) _
    c.in_ok-write_calls.ensures.moved c.in_err-write_closing.ensures.moved (ap (λ l. flat_map call_text l ++ closing_text c.args.end.now) (sym c.as_slice.ensures)) in
    puts-fails _ _ _ _ (subst (λ h. Puts (g.K.Sink.told c.args.out.now) (g.K.Sink.told c.write_closing.new.out) (h ++ run_text c.args.calls.now.calls c.args.end.now) (Err (record {}))) c.requires.empty whole.tells)
    c.from_residual-in_err-write_closing.ensures.0

pub returns-clause-tells : goal.returns-clause-tells
returns-clause-tells g c =
    let whole = moved-rest g.K.Sink.told g.K.Sink.count g.K.Sink.room g.K.Sink.sound g.met.K.Sink.sound_tells _ _ _ _ _ _ _ _ (run_text c.args.calls.now.calls c.args.end.now) _
    c.in_ok-write_calls.ensures.moved c.in_ok-write_closing.ensures.moved (ap (λ l. flat_map call_text l ++ closing_text c.args.end.now) (sym c.as_slice.ensures)) in
    subst (λ h. Puts (g.K.Sink.told c.args.out.now) (g.K.Sink.told c.put_piece.new.out) (h ++ run_text c.args.calls.now.calls c.args.end.now) c.put_piece.result) c.requires.empty
    (puts-last _ _ _ _ _ _ _ whole.tells c.put_piece.ensures.tells)

pub returns-clause-is_sound : goal.returns-clause-is_sound
returns-clause-is_sound g c = λ is.
    let whole = moved-rest g.K.Sink.told g.K.Sink.count g.K.Sink.room g.K.Sink.sound g.met.K.Sink.sound_tells _ _ _ _ _ _ _ _ (run_text c.args.calls.now.calls c.args.end.now) _
    c.in_ok-write_calls.ensures.moved c.in_ok-write_closing.ensures.moved (ap (λ l. flat_map call_text l ++ closing_text c.args.end.now) (sym c.as_slice.ensures)) in
    let before = whole.is_sound is in
    let last = c.put_piece.ensures.is_sound before.0 in (
      last.0,
      subst (λ h. PutsSoundly (g.K.Sink.told c.args.out.now) (g.K.Sink.told c.put_piece.new.out) (g.K.Sink.room c.args.out.now) (g.K.Sink.room c.put_piece.new.out) (h ++ run_text c.args.calls.now.calls c.args.end.now) c.put_piece.result) c.requires.empty
          (sound-last _ _ _ _ _ _ _ _ _ _ (g.met.K.Sink.sound_tells _ is) whole.tells before.1.lowers last.1),
    )
