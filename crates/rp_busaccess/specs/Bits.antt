-- What a bus packet's value is to contracts, and its attributes.
use Rattle.std.specs.Prelude.{◌≡◌, ℕ, ◌/◌, ◌%◌, ◌<◌}
use Rattle.std.proofs.Common.{arith}
use Rattle.cosim_model.specs.Packets.{BusFields, with_code}
use Rattle.rp_busaccess.specs.declared.bus.BusAccess.{BusAccess}

abbrev pub fields_of : BusAccess → BusFields
fields_of b = record {
  time = b.time;
  attributes = b.attributes;
  addr = b.addr;
  len = b.len;
  width = b.width;
  stream_width = b.stream_width;
  master = b.master;
  payload = b.payload.bytes;
  enables = b.enables.bytes;
}

pub code_with_code : (attributes code : ℕ) → code < 16 → with_code attributes code / 256 % 16 ≡ code
code_with_code attributes code small = omega arith
