-- A device end with what was sent on its port.
use Rattle.std.specs.Prelude.{◌≡◌, ℕ, ◌≤◌, Bool, List, ◌++◌, length, take, drop, nat_lt, is_some, Option, Some, None}
use Rattle.process_network.specs.Network.{handed_over}
use Rattle.process_network.specs.Star.{Link}
use Rattle.cosim_model.specs.Parts.{DeviceModel}
use Rattle.ends_model.specs.Traffic as traffic
use Rattle.rp_packet.specs.Streams.{packet_codec}
use Rattle.device_turns.specs.Ends.{End, core_of, fresh}
use Rattle.device_turns.specs.Runs.{Taking}

-- `room` is how many more bytes to the device end are kept without asking for memory.
pub record SeatValue (S : Type 0) : Type 0 where
  pub end : End S
  pub link : Link
  pub room : ℕ

-- an end that has taken no turn and received nothing
pub record IsFresh {S : Type 0} (e : End S) : Type 0 where
  pub is : e ≡ fresh e.clear

-- the device end as a leaf
abbrev pub leaf_of : {S : Type 0} → End S → Taking S
leaf_of e = record { core = core_of e; taken = e.taken }

-- Between calls no fault is kept, no more was taken than was delivered, no more was delivered than was sent, and what
-- the end holds was delivered and not taken.
pub record IsSeat {S : Type 0} (e : End S) (k : Link) : Type 0 where
  pub clear : e.kept ≡ None
  pub taken : e.taken ≤ k.out_delivered
  pub small : k.out_delivered ≤ 18446744073709551615
  pub out_fits : k.out_delivered ≤ length k.out
  pub back_fits : k.back_delivered ≤ length k.back
  pub holds : e.held ≡ drop e.taken (take k.out_delivered k.out)

-- The turn over all the bytes that were delivered; none where the end can't move.
abbrev pub seat_turn : {S : Type 0} → DeviceModel S → SeatValue S → Option (Taking S × List ℕ)
seat_turn d s = traffic.device_turn d packet_codec (leaf_of s.end) (take s.link.out_delivered s.link.out)

-- what a turn leaves of the end, and what it appends to the bytes sent back
abbrev pub TurnsTo : {S : Type 0} → Option (Taking S × List ℕ) → SeatValue S → SeatValue S → Type 0
TurnsTo None old new = new ≡ old
TurnsTo (Some r) old new = (leaf_of new.end ≡ r.0) × (new.link ≡ record old.link { back = old.link.back ++ r.1 })

pub record SeatTurns {S : Type 0} (d : DeviceModel S) (old new : SeatValue S) (took : Bool) : Type 0 where
  pub turns : TurnsTo (seat_turn d old) old new
  pub took_is : took ≡ is_some (seat_turn d old)

-- no turn that the end can take meets a fault
abbrev pub IsSoundSeat : {S : Type 0} → DeviceModel S → SeatValue S → Type 0
IsSoundSeat {S} d s = (r : Taking S × List ℕ) → seat_turn d s ≡ Some r → r.0.core.fault ≡ None

-- Bytes are delivered: at most so many, and no more than are in flight.

abbrev pub out_given : Link → ℕ → Link
out_given k count = record k { out_delivered = handed_over k.out_delivered k.out count }

abbrev pub back_given : Link → ℕ → Link
back_given k count = record k { back_delivered = handed_over k.back_delivered k.back count }

pub record SeatGiven {S : Type 0} (old new : SeatValue S) (count : ℕ) (took : Bool) : Type 0 where
  pub leaf : leaf_of new.end ≡ leaf_of old.end
  pub link : new.link ≡ out_given old.link count
  pub took_is : took ≡ nat_lt old.link.out_delivered (out_given old.link count).out_delivered
