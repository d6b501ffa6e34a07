use Rattle.std.proofs.Common.{◌≡◌, ℕ, ◌+◌, ◌*◌, ◌≤◌, ◌++◌, List, length}
use Rattle.hex.specs.Hex.{encode_lower}
use Rattle.rp_header.specs.Numbers.{AreBytes}
use Rattle.rp_text.proofs.Decoded.{Left}
use Rattle.rp_text.proofs.hexadecimal.decode.Given as goal

abbrev pub invariant-loop-rest : goal.invariant-loop-rest
invariant-loop-rest l = record {
  read : encode_lower l.out.bytes ++ l.rest ≡ l.digits;
  room : length l.rest ≤ 2 * l.out.spare + 1;
  each : AreBytes l.out.bytes;
  left : (bs : List ℕ) → AreBytes bs → l.digits ≡ encode_lower bs → Left bs l.out.bytes l.rest;
  buffer : length l.buffer ≡ 64;
}

abbrev pub decreases-loop-rest : goal.decreases-loop-rest
decreases-loop-rest l = length l.rest
