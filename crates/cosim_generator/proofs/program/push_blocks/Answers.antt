use Rattle.std.proofs.Common.{◌+◌, ◌++◌, sym, ap, ◌∙◌, arith}
use Rattle.std.specs.Int.{w32, to_le_bytes}
use Rattle.rv_table.specs.Coding.{encoded}
use Rattle.cos_schedules.specs.Schedules.{following, drawn}
use Rattle.cosim_generator.specs.Programs.{drawn_blocks, image_of}
use Rattle.cosim_generator.proofs.Draws.{after-none, after-block, blocks-none, blocks-more, put-more}
use Rattle.std.proofs.lemmas.List.{append-nil}
use Rattle.cosim_generator.proofs.program.push_blocks.Goals as goal

pub loop-number-init : goal.loop-number-init
loop-number-init c =
    let x = c.args.draws.now.x in
    let bytes = c.args.image.now.bytes in
    record {
      put = sym (append-nil bytes) ∙ ap (λ is. bytes ++ image_of is) (sym (blocks-none x));
      room = omega arith;
      drawn = sym (after-none x);
    }

pub loop-number-preserved : goal.loop-number-preserved
loop-number-preserved c =
    let l = c.loop-number in
    let n = l.number in
    let x = c.args.draws.now.x in
    let front = c.args.image.now.bytes in
    let at = l.invariant.drawn in
    let first = c.next-a.ensures.drawn ∙ ap drawn at in
    let second = c.next-b.ensures.drawn ∙ ap drawn (c.next-a.ensures.x ∙ ap following at) in
    let blocks = blocks-more n (n + 1) x _ _ c.block.result (omega arith) c.block.ensures first second in
    record {
      put = put-more (λ i. to_le_bytes w32 (encoded i)) (drawn_blocks n x) (drawn_blocks (n + 1) x) c.block.result front
          l.image.bytes c.push.new.image.bytes blocks l.invariant.put c.push.ensures.bytes;
      room = omega arith;
      drawn = c.next-b.ensures.x ∙ ap following c.next-a.ensures.x ∙ after-block n (n + 1) x l.draws.x (omega arith) at;
    }
