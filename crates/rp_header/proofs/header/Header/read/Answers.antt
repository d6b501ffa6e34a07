use Rattle.std.proofs.Common.{◌≡◌, ◌∙◌, sym}
use Rattle.rp_header.specs.Numbers.{number}
use Rattle.rp_header.specs.Headers.{command_number}
use Rattle.rp_header.specs.HeaderLaws.{header-numbers, bytes_of-same}
use Rattle.rp_header.proofs.header.Header.read.Goals as goal

pub returns-clause-spelled : goal.returns-clause-spelled
returns-clause-spelled c =
    let cmd : command_number c.in_ok-cmd.cmd ≡ number 4 c.args.bytes.now = c.in_ok-cmd.ensures.command.0 ∙ c.u32_at-number.ensures in
    rw (cmd, c.u32_at-len.ensures, c.u32_at.ensures, c.u32_at-2.ensures, c.u32_at-3.ensures)
    (header-numbers c.args.bytes.now (record { each = c.fits-bytes }) c.told-bytes)

pub returns-clause-exact : goal.returns-clause-exact
returns-clause-exact c = λ h is e.
    bytes_of-same _ h (record { len = c.if-len-gt65536.false; id = c.u32_at.type_inv; flags = c.u32_at-2.type_inv; dev = c.u32_at-3.type_inv }) is
    (sym (returns-clause-spelled c) ∙ e)
