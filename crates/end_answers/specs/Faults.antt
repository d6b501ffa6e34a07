-- What both ends say of a fault that they tell: its cause without a place, and that a malformed packet stands where
-- it is told.
use Rattle.std.specs.Prelude.{◌≡◌, ℕ, List, ◌++◌, Option, Some}
use Rattle.cosim_model.specs.declared.session.EndFault.{EndFault}
use Rattle.cosim_model.specs.declared.session.EndFault.TheVariants as fault
use Rattle.cosim_model.specs.Streams.{IsMalformedAt}
use Rattle.cosim_model.proofs.Streams.{still_malformed}
use Rattle.rp_framing.specs.Framing.{counted}
use Rattle.rp_packet.specs.declared.fault.Cause.{Cause}
use Rattle.rp_packet.specs.declared.fault.PacketFault.{PacketFault}
use Rattle.rp_packet.specs.CodecLaws.{codec-laws}
use Rattle.rp_packet.specs.Reading.{fault_at}
use Rattle.rp_packet.specs.Streams.{packet_codec}

-- a fault as it is told, without the place of a malformed packet
abbrev pub cause_of : EndFault PacketFault → EndFault Cause
cause_of (fault.Malformed f) = fault.Malformed f.cause
cause_of (fault.Truncated start held) = fault.Truncated start held
cause_of (fault.Session f) = fault.Session f
cause_of (fault.Ended taken) = fault.Ended taken
cause_of (fault.TooMuch taken) = fault.TooMuch taken
cause_of (fault.Link count) = fault.Link count
cause_of (fault.LateWant at got) = fault.LateWant at got
cause_of (fault.Astray cmd) = fault.Astray cmd
cause_of fault.NoMemory = fault.NoMemory

-- A malformed packet that an end tells stands behind packets, at the place that is told.
abbrev pub IsPlaced : List ℕ → Option (EndFault PacketFault) → Type 0
IsPlaced received (Some (fault.Malformed f)) =
    (start : ℕ) × IsMalformedAt packet_codec received start f.cause × (f ≡ fault_at (counted start) f.cause)
IsPlaced received kept = Unit {0}

-- A place stays one over longer streams.
pub placed-longer : (x y : List ℕ) (f : EndFault PacketFault) → IsPlaced x (Some f) → IsPlaced (x ++ y) (Some f)
placed-longer x y (fault.Malformed f) is =
    (is.0, still_malformed packet_codec codec-laws.decided x y is.0 f.cause is.1, is.2)
placed-longer x y (fault.Truncated a b) is = tt
placed-longer x y (fault.Session f) is = tt
placed-longer x y (fault.Ended n) is = tt
placed-longer x y (fault.TooMuch n) is = tt
placed-longer x y (fault.Link n) is = tt
placed-longer x y (fault.LateWant a b) is = tt
placed-longer x y (fault.Astray n) is = tt
placed-longer x y fault.NoMemory is = tt
