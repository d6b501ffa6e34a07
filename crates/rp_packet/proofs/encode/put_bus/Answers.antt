use Rattle.std.proofs.Common.{◌≡◌, ◌∙◌, ◌+◌, ◌≤◌, List, ℕ, length, ap, sym, arith}
use Rattle.rp_header.specs.Headers.{header_bytes, command_number}
use Rattle.rp_busaccess.specs.Bits.{fields_of}
use Rattle.rp_busaccess.specs.Writing.{bus_bytes, bus_size}
use Rattle.rp_packet.specs.WritingLaws.{length-packet, length-header, length-bus_bytes, no-room, appended}
use Rattle.rp_packet.proofs.encode.put_bus.Goals as goal

pub returns-in-Err-reserve : goal.returns-in-Err-reserve
returns-in-Err-reserve c =
    let bytes : List ℕ = bus_bytes (fields_of c.args.access.now) in
    let room = no-room (20 + c.in-Ok.size) c.args.out.now.spare c.in-Err-reserve.ensures.fits in
    let size = length-packet (command_number c.args.cmd) (length bytes) c.args.tag.id c.args.tag.flags c.args.tag.dev bytes in
    (c.in-Err-reserve.ensures.err, omega (arith, room, size, length-bus_bytes (fields_of c.args.access.now), c.in-Ok.ensures.size))

pub returns : goal.returns
returns c =
    let f = fields_of c.args.access.now in
    let tag = c.args.tag in
    let cmd : ℕ = command_number c.args.cmd in
    let bytes : List ℕ = bus_bytes f in
    let own : length bytes ≡ bus_size f = length-bus_bytes f in
    let size : c.in-Ok.size ≡ length bytes = c.in-Ok.ensures.size ∙ sym own in
    let header : c.header.result ≡ header_bytes cmd (length bytes) tag.id tag.flags tag.dev = c.header.ensures ∙ ap (λ n. header_bytes cmd n tag.id tag.flags tag.dev) size in (
      c.in-Ok.ensures.lawful,
      appended c.args.out.now.bytes c.reserve.new.self.bytes c.push_spare.new.self.bytes c.write_into.new.out.bytes (header_bytes cmd (length bytes) tag.id tag.flags tag.dev) c.header.result bytes
          c.in-Ok-write_into.ensures.ok c.push_spare.ensures.bytes header c.in-Ok-reserve.ensures.bytes,
      λ fits.
          let all = length-packet cmd (length bytes) tag.id tag.flags tag.dev bytes in
          let whole : 20 + c.in-Ok.size ≤ c.args.out.now.spare = omega (arith, fits, all, size) in
          let kept = ap (λ o. o.spare) (c.in-Ok-reserve.ensures.fits whole).1 in
          let front : length c.header.result ≡ 20 = ap length header ∙ length-header cmd (length bytes) tag.id tag.flags tag.dev in
          let rest : bus_size f ≤ c.push_spare.new.self.spare = omega (arith, whole, size, own, kept, front, c.push_spare.ensures.spare) in
          let done = (c.in-Ok-write_into.ensures.fits c.in-Ok.ensures.lawful rest).1 in
          omega (arith, done, all, own, kept, front, rest, c.push_spare.ensures.spare),
    )
