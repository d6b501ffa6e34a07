use Rattle.std.proofs.Common.{◌+◌, ◌≤◌, length}
use Rattle.cos_text.specs.Lines.{lines}
use Rattle.cosim_packets.proofs.PackLaws.{PackedTo}
use Rattle.cosim_packets.proofs.pack_command.pack_lines.Given as goal

abbrev pub invariant-loop-rest : goal.invariant-loop-rest
invariant-loop-rest l = record {
  done : PackedTo (lines l.text) (lines l.rest) l.number l.out.bytes;
  few : l.number + length l.rest ≤ length l.text;
}

abbrev pub decreases-loop-rest : goal.decreases-loop-rest
decreases-loop-rest l = length l.rest
