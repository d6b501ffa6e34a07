use Rattle.std.proofs.Common.{◌≤◌, ◌∙◌, sym, ap, subst, ◌++◌, ◌+◌, ◌≡◌, take, length, arith}
use Rattle.cos_base.specs.Prefixes.{IsPrefix}
use Rattle.statuses.specs.Lines.{texts}
use Rattle.statuses.proofs.Putting.{puts-both, puts-text, puts-stops, puts-whole, rises-from, take-past, texts-front, texts-prefix}
use Rattle.statuses.proofs.Taking.{texts-short, room-lowered, room-left, took-soundly, lacked-soundly}
use Rattle.statuses.proofs.lines.put_pieces.Goals as goal

pub pieces-preserved : goal.pieces-preserved
pieces-preserved g c =
    let i = c.pieces.piece-index in
    let whole = texts-front c.args.pieces.now i _ c.pieces-test.true ∙ ap (λ x. texts (take i c.args.pieces.now) ++ x) (sym c.as_bytes.ensures.value) in (
      c.in-Ok.ensures.counts ∙ c.pieces.invariant.0,
      puts-text _ _ _ _ _ whole (puts-both _ _ _ _ _ _ c.pieces.invariant.1 c.in-Ok.ensures.tells),
      λ is.
          let before = c.pieces.invariant.2 is in
          let after = c.in-Ok.ensures.is_sound before.0 in
          let lowered = room-lowered _ _ _ _ _ (g.met.E.Sink.sound_tells _ before.0) c.in-Ok.ensures.tells after.1.lowers in
          (after.0, room-left _ _ _ _ _ _ whole before.1 lowered),
    )

pub returns-in-Err : goal.returns-in-Err
returns-in-Err g c =
    let i = c.pieces.piece-index in
    let whole = texts-front c.args.pieces.now i _ c.pieces-test.true ∙ ap (λ x. texts (take i c.args.pieces.now) ++ x) (sym c.as_bytes.ensures.value) in
    record {
      counts = rises-from _ _ _ c.pieces.invariant.0 c.in-Err.ensures.counts;
      tells = puts-stops _ _ _ _ _ _ _ c.pieces.invariant.1 c.in-Err.ensures.tells
          (subst (λ p. IsPrefix p (texts c.args.pieces.now)) whole (texts-prefix c.args.pieces.now (i + 1)));
      is_sound = λ is.
          let before = c.pieces.invariant.2 is in
          let after = c.in-Err.ensures.is_sound before.0 in
          let short = subst (λ p. length p ≤ length (texts c.args.pieces.now)) whole (texts-short c.args.pieces.now (i + 1)) in
          (after.0, lacked-soundly _ _ _ _ _ _ _ _ _ _ (g.met.E.Sink.sound_tells _ is) c.pieces.invariant.1 before.1 short after.1);
    }

pub returns : goal.returns
returns g c =
    let i = c.pieces.piece-index in
    let whole : take i c.args.pieces.now ≡ c.args.pieces.now = take-past c.args.pieces.now i (omega (arith, c.pieces-test.false)) in
    let all = puts-whole _ _ c.args.pieces.now i c.pieces.invariant.1 (omega (arith, c.pieces-test.false)) in
    record {
      counts = c.pieces.invariant.0;
      tells = all;
      is_sound = λ is.
          let before = c.pieces.invariant.2 is in
          (before.0, took-soundly _ _ _ _ _ (g.met.E.Sink.sound_tells _ is) all (rw (ap texts whole) at before.1));
    }
