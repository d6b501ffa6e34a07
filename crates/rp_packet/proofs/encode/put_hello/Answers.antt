use Rattle.std.proofs.Common.{◌≡◌, ◌∙◌, ◌+◌, ◌*◌, ◌≤◌, List, ℕ, length, ap, arith}
use Rattle.rp_header.specs.Headers.{header_bytes}
use Rattle.rp_control.specs.Controls.{hello_bytes}
use Rattle.rp_packet.specs.WritingLaws.{length-packet, length-header, length-hello_bytes, no-room, appended, short-hello}
use Rattle.rp_packet.proofs.encode.put_hello.Goals as goal

pub returns-in-Err : goal.returns-in-Err
returns-in-Err c =
    let hello = c.args.hello.now in
    let bytes : List ℕ = hello_bytes hello.major hello.minor hello.caps in
    let room = no-room (20 + (12 + 4 * c.len-count.result)) c.args.out.now.spare c.in-Err.ensures.fits in
    let size = length-packet 1 (length bytes) c.args.tag.id c.args.tag.flags c.args.tag.dev bytes in
    (c.in-Err.ensures.err, omega (arith, room, size, length-hello_bytes hello.major hello.minor hello.caps, c.len-count.ensures))

pub returns : goal.returns
returns c =
    let hello = c.args.hello.now in
    let tag = c.args.tag in
    let bytes : List ℕ = hello_bytes hello.major hello.minor hello.caps in
    let count : c.len-count.result ≡ length hello.caps = c.len-count.ensures in
    let own : length bytes ≡ 12 + 4 * length hello.caps = length-hello_bytes hello.major hello.minor hello.caps in
    let size : 12 + 4 * c.len-count.result ≡ length bytes = omega (arith, count, own) in
    let few : length hello.caps ≤ 16381 = omega (arith, count, c.if-count-gt16381.false) in
    let header : c.header.result ≡ header_bytes 1 (length bytes) tag.id tag.flags tag.dev = c.header.ensures ∙ ap (λ n. header_bytes 1 n tag.id tag.flags tag.dev) size in (
      short-hello (length hello.caps) _ few,
      appended c.args.out.now.bytes c.reserve.new.self.bytes c.push_spare.new.self.bytes c.write_into.new.out.bytes (header_bytes 1 (length bytes) tag.id tag.flags tag.dev) c.header.result bytes
          c.in-Ok-write_into.ensures.ok c.push_spare.ensures.bytes header c.in-Ok.ensures.bytes,
      λ fits.
          let all = length-packet 1 (length bytes) tag.id tag.flags tag.dev bytes in
          let whole : 20 + (12 + 4 * c.len-count.result) ≤ c.args.out.now.spare = omega (arith, fits, all, size) in
          let kept = ap (λ o. o.spare) (c.in-Ok.ensures.fits whole).1 in
          let front : length c.header.result ≡ 20 = ap length header ∙ length-header 1 (length bytes) tag.id tag.flags tag.dev in
          let rest : 12 + 4 * length hello.caps ≤ c.push_spare.new.self.spare = omega (arith, whole, count, kept, front, c.push_spare.ensures.spare) in
          let done = (c.in-Ok-write_into.ensures.fits rest).1 in
          omega (arith, done, all, own, kept, front, rest, c.push_spare.ensures.spare),
    )
