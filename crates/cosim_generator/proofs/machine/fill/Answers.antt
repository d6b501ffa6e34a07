use Rattle.std.proofs.Common.{[], ◌+◌, ◌%◌, sym, ap, ◌∙◌, arith}
use Rattle.cos_schedules.specs.Schedules.{following, drawn}
use Rattle.cosim_generator.proofs.Draws.{after-none, after-more, no-bytes, bytes-more}
use Rattle.cosim_generator.proofs.machine.fill.Goals as goal

pub loop-byte-init : goal.loop-byte-init
loop-byte-init c = record {
  filled = no-bytes c.args.draws.now.x [];
  drawn = sym (after-none c.args.draws.now.x);
}

pub loop-byte-preserved : goal.loop-byte-preserved
loop-byte-preserved c =
    let l = c.loop-byte in
    let x = c.args.draws.now.x in
    let byte = c.below.ensures.drawn ∙ ap (λ y. drawn y % 256) l.invariant.drawn in
    let next = after-more l.byte-index (l.byte-index + 1) x (omega arith) in
    record {
      filled = bytes-more l.byte-index (l.byte-index + 1) x c.below.result l.bytes (omega arith) (omega arith)
          l.invariant.filled byte;
      drawn = c.below.ensures.x ∙ ap following l.invariant.drawn ∙ sym next;
    }
