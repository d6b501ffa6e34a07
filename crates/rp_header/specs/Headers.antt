-- What the header of a packet is: five numbers of four bytes, the first two of which may be refused.
use Rattle.std.specs.Prelude.{zero, suc, ℕ, ◌^◌, ◌<◌, ◌≤◌, List, ◌++◌, nat_lt, if◌then◌else◌, Option, Some, None}
use Rattle.rp_header.specs.Numbers.{be}
use Rattle.cosim_model.specs.declared.session.Command.{Command}
use Rattle.cosim_model.specs.declared.session.Command.TheVariants.{Nop, Hello, Cfg, Read, Write, Interrupt, Sync}
use Rattle.rp_header.specs.declared.header.Header.{Header}
use Rattle.rp_header.specs.declared.fault.HeaderFault.{HeaderFault}
use Rattle.rp_header.specs.declared.fault.HeaderFault.TheVariants as fault

-- the numbers of the commands
abbrev pub command_number : Command → ℕ
command_number Nop = 0
command_number Hello = 1
command_number Cfg = 2
command_number Read = 3
command_number Write = 4
command_number Interrupt = 5
command_number Sync = 6

-- the command of a number up to 6
abbrev pub command_of : ℕ → Command
command_of zero = Nop
command_of (suc zero) = Hello
command_of (suc (suc zero)) = Cfg
command_of (suc (suc (suc zero))) = Read
command_of (suc (suc (suc (suc zero)))) = Write
command_of (suc (suc (suc (suc (suc zero))))) = Interrupt
command_of (suc (suc (suc (suc (suc (suc n)))))) = Sync

-- a header's 20 bytes
abbrev pub header_bytes : ℕ → ℕ → ℕ → ℕ → ℕ → List ℕ
header_bytes cmd len id flags dev = be cmd 4 ++ be len 4 ++ be id 4 ++ be flags 4 ++ be dev 4

abbrev pub bytes_of : Header → List ℕ
bytes_of h = header_bytes (command_number h.cmd) h.len h.id h.flags h.dev

-- what is refused of a header: a command above 8, the commands 7 and 8 of address translation, and a body of more than
-- 65,536 bytes, in this order
abbrev pub refusal : ℕ → ℕ → Option HeaderFault
refusal cmd len =
    if nat_lt 8 cmd then Some (fault.Command cmd)
    else (if nat_lt 6 cmd then Some (fault.Translation cmd)
    else (if nat_lt 65536 len then Some (fault.TooLong len)
    else None))

-- a header that is written and read again
pub record IsHeader (h : Header) : Type 0 where
  pub len : h.len ≤ 65536
  pub id : h.id < 2 ^ 32
  pub flags : h.flags < 2 ^ 32
  pub dev : h.dev < 2 ^ 32
