-- The size of the packet that bytes begin with.
use Rattle.std.specs.Prelude.{ℕ, Option, Some, None}
use Rattle.cosim_model.specs.Packets.{Decoded}
use Rattle.rp_packet.specs.declared.fault.Cause.{Cause}

-- the size of the packet that was found, if one was
abbrev pub size_in : Option (Decoded Cause × ℕ) → Option ℕ
size_in None = None
size_in (Some found) = Some found.1
