use Rattle.std.proofs.Common.{append_assoc, append-nil}
use Rattle.rp_header.specs.Numbers.{be}
use Rattle.rp_control.proofs.hello.Hello.write_into.Goals as goal

pub returns-clause-ok : goal.returns-clause-ok
unfolding be
returns-clause-ok c =
    simp (c.put_numbers.ensures.bytes, c.push_spare.ensures.bytes, c.as_slice.ensures, c.write_u16-3.ensures, c.write_u32.ensures, c.write_u16-2.ensures, c.write_u16.ensures, c.len-count.ensures, c.in_ok-reserve.ensures.bytes, append_assoc, append-nil)
