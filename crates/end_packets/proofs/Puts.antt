-- Writing into room that is there, of a packet that can be written.
use Rattle.std.proofs.Common.{◌≡◌, ℕ, ◌+◌, ◌-◌, ◌≤◌, List, length, Option, Some, None, arith}
use Rattle.std.specs.Prelude.{Result, Ok, Err}
use Rattle.cos_base.specs.Octets.{Held}
use Rattle.cosim_model.specs.Packets.{Packet, body_size}
use Rattle.rp_busaccess.specs.declared.fault.WriteFault.{WriteFault}
use Rattle.rp_busaccess.specs.declared.fault.WriteFault.TheVariants.{MasterTooWide, DataCount, EnablesInOld, TooLong, NoMemory}
use Rattle.rp_packet.specs.Spelling.{packet_bytes, packet_fault}
use Rattle.rp_packet.specs.Writing.{Writes, IsWriteFault}
use Rattle.rp_packet.specs.CodecLaws.{length-packet_bytes}

no-fault : (bytes : List ℕ) (first : Option WriteFault) (spare : ℕ) (e : WriteFault) → first ≡ None → length bytes ≤ spare → IsWriteFault bytes first spare e → ⊥
no-fault bytes first spare (MasterTooWide master) none fits is = absurd (cc)
no-fault bytes first spare (DataCount wanted got) none fits is = absurd (cc)
no-fault bytes first spare (EnablesInOld count) none fits is = absurd (cc)
no-fault bytes first spare (TooLong len) none fits is = absurd (cc)
no-fault bytes first spare NoMemory none fits is = omega (arith, is)

-- it doesn't fail
pub never-fails : (v : Packet) (old new : Held) (e : WriteFault) → packet_fault v ≡ None → body_size v.body ≤ old.spare → Writes (packet_bytes v) (packet_fault v) old new (Err e) → ⊥
never-fails v old new e lawful room is =
    no-fault (packet_bytes v) (packet_fault v) old.spare e lawful (omega (arith, length-packet_bytes v)) is.1

-- and lowers the room by its size
pub leaves-room : (v : Packet) (old new : Held) → body_size v.body ≤ old.spare → Writes (packet_bytes v) (packet_fault v) old new (Ok tt) → new.spare + body_size v.body ≡ old.spare
leaves-room v old new room is =
    let size = length-packet_bytes v in
    let spare = is.2 (omega (arith, size)) in
    omega (arith, size, spare)
