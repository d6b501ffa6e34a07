use Rattle.std.proofs.Common.{arith}
use Rattle.cos_text.specs.Lines.{lines}
use Rattle.cosim_packets.proofs.PackLaws.{packed-start, packed-more}
use Rattle.cosim_packets.proofs.pack_command.pack_lines.Goals as goal

pub loop-rest-init : goal.loop-rest-init
loop-rest-init c = record { done = packed-start (lines c.args.text.now) c.args.out.now.bytes c.requires; few = omega arith }

pub loop-rest-preserved : goal.loop-rest-preserved
loop-rest-preserved c =
    let l = c.loop-rest in
    record {
      done = packed-more (lines c.args.text.now) (lines l.rest.now) (lines c.first_line.result.1.now) c.first_line.result.0.now l.number l.out.bytes c.pack_line.new.out.bytes c.first_line.ensures.lines l.invariant.done c.in-Ok.ensures;
      few = omega arith;
    }
