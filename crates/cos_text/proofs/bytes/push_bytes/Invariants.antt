use Rattle.std.proofs.Common.{◌≡◌, ◌+◌, ◌*◌, ◌≤◌, ◌++◌, length}
use Rattle.hex.specs.Hex.{encode_lower}
use Rattle.cos_text.proofs.bytes.push_bytes.Given as goal

abbrev pub invariant-loop-rest : goal.invariant-loop-rest
invariant-loop-rest l = record {
  put : l.out.bytes ++ encode_lower l.rest ≡ l.fn.out.bytes ++ encode_lower l.bytes;
  room : l.out.spare + 2 * length l.bytes ≡ l.fn.out.spare + 2 * length l.rest;
  less : length l.rest ≤ length l.bytes;
  text : length l.text ≡ 128;
}

abbrev pub decreases-loop-rest : goal.decreases-loop-rest
decreases-loop-rest l = length l.rest
