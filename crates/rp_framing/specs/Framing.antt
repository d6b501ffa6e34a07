-- What a framer holds of a stream, and what its calls do to it.
use Rattle.std.specs.Prelude.{◌≡◌, ℕ, ◌+◌, ◌<◌, ◌≤◌, Bool, ◌||◌, min, List, ◌++◌, length, take, drop, Option, Some, None, is_some, Result, Ok, Err}
use Rattle.std.specs.Option.{ForSome}
use Rattle.cosim_model.specs.Packets.{Decoded}
use Rattle.cosim_model.specs.Packets.Decoded.{Valid, Malformed as MalformedPacket}
use Rattle.rp_packet.specs.declared.fault.Cause.{Cause}
use Rattle.rp_packet.specs.declared.packet.Packet.{Packet}
use Rattle.rp_packet.specs.declared.fault.PacketFault.{PacketFault}
use Rattle.rp_packet.specs.declared.fault.ReadFault.{ReadFault}
use Rattle.rp_packet.specs.declared.fault.ReadFault.TheVariants as read
use Rattle.rp_packet.specs.Values.{value_of}
use Rattle.rp_packet.specs.Spelling.{Spells}
use Rattle.rp_packet.specs.Refusals.{first}
use Rattle.rp_packet.specs.Reading.{fault_at}
use Rattle.rp_framing.specs.declared.fault.FrameFault.{FrameFault}
use Rattle.rp_framing.specs.declared.fault.FrameFault.TheVariants.{Malformed, NoMemory}

-- The bytes held, which no packet was made of yet; how many bytes were taken before them, up to 2^64 - 1; the room for
-- more; and the fault that ended the stream.
pub record Frames : Type 0 where
  pub held : List ℕ
  pub taken : ℕ
  pub room : ℕ
  pub kept : Option PacketFault

-- a count of bytes stands still at its last value
abbrev pub counted : ℕ → ℕ
counted n = min n 18446744073709551615

-- Bytes come behind those that are held. Behind a fault they are dropped.
abbrev pub FedAt : Option PacketFault → List ℕ → Frames → Frames → Type 0
FedAt None bytes old new = (new.held ≡ old.held ++ bytes) × (new.taken ≡ old.taken) × (new.kept ≡ None)
    × (length old.held + old.room ≤ length new.held + new.room)
FedAt (Some fault) bytes old new = new ≡ old

abbrev pub Feeds : List ℕ → Frames → Frames → Type 0
Feeds bytes old new = FedAt old.kept bytes old new

-- A fault that is kept is that of the bytes held, which no packet begins.
abbrev pub fault_in : ℕ → Option (Decoded Cause × ℕ) → Option PacketFault
fault_in taken None = None
fault_in taken (Some (Valid v, size)) = None
fault_in taken (Some (MalformedPacket cause, size)) = Some (fault_at taken cause)

abbrev pub IsKept : Option PacketFault → ℕ → List ℕ → Type 0
IsKept kept taken held = ForSome kept (λ fault. fault_in taken (first held) ≡ Some fault)

-- whether `next` answers something else than that no packet is whole
abbrev pub is_ready : Frames → Bool
is_ready f = is_some f.kept || is_some (first f.held)

-- What stands at the front of bytes, read: nothing whole, a packet and its size, or a fault.
abbrev pub IsFront : List ℕ → Result (Option (Packet × ℕ)) ReadFault → Type 0
IsFront held (Ok None) = first held ≡ None
IsFront held (Ok (Some p)) = (first held ≡ Some (Valid (value_of p.0), p.1)) × Spells (value_of p.0) (take p.1 held)
IsFront held (Err (read.Malformed f)) = (f ≡ fault_at 0 f.cause) × (size : ℕ)
    × (first held ≡ Some (MalformedPacket f.cause, size))
IsFront held (Err read.NoMemory) = Unit {0}

-- the same of a framer that keeps no fault; a fault's start is counted from the stream's first byte
abbrev pub Fronts : Frames → Result (Option (Packet × ℕ)) FrameFault → Type 0
Fronts f (Ok None) = first f.held ≡ None
Fronts f (Ok (Some p)) = (first f.held ≡ Some (Valid (value_of p.0), p.1)) × Spells (value_of p.0) (take p.1 f.held)
Fronts f (Err (Malformed fault)) = (fault ≡ fault_at f.taken fault.cause) × (size : ℕ)
    × (first f.held ≡ Some (MalformedPacket fault.cause, size))
Fronts f (Err NoMemory) = Unit {0}

-- the packet at the front, of so many bytes, was taken
abbrev pub after_skip : ℕ → Frames → Frames
after_skip size f =
    record { held = drop size f.held; taken = counted (f.taken + size); room = f.room + size; kept = None }

-- The next packet that stands whole at the front of what is held, or why there is none. After a fault it is answered
-- again.
abbrev pub NextAt : Option PacketFault → Frames → Frames → Result (Option Packet) FrameFault → Type 0
NextAt (Some fault) old new result = (new ≡ old) × (result ≡ Err (Malformed fault))
NextAt None old new (Ok None) = (first old.held ≡ None) × (new ≡ old)
NextAt None old new (Ok (Some packet)) = (size : ℕ) × (first old.held ≡ Some (Valid (value_of packet), size))
    × Spells (value_of packet) (take size old.held)
    × (new ≡ record {
      held = drop size old.held;
      taken = counted (old.taken + size);
      room = old.room + size;
      kept = None;
    })
NextAt None old new (Err (Malformed f)) = (f ≡ fault_at old.taken f.cause)
    × ((size : ℕ) × (first old.held ≡ Some (MalformedPacket f.cause, size)))
    × (new ≡ record { held = old.held; taken = old.taken; room = old.room; kept = Some f })
NextAt None old new (Err NoMemory) = new ≡ old

abbrev pub Nexts : Frames → Frames → Result (Option Packet) FrameFault → Type 0
Nexts old new result = NextAt old.kept old new result

-- Where no packet is whole, fewer bytes are held than the longest packet has.
abbrev pub WaitsForMore : Frames → Result (Option Packet) FrameFault → Type 0
WaitsForMore new (Ok None) = length new.held < 65556
WaitsForMore new (Ok (Some packet)) = Unit {0}
WaitsForMore new (Err fault) = Unit {0}
