-- What receiving a packet over a link does: to the framer, to what the link tells, to its count of faults and to its
-- soundness.
use Rattle.std.specs.Prelude.{◌≡◌, ◌⊎◌, ℕ, ◌≤◌, List, [], ◌++◌, length, IfSome, Result, Ok, Err, Option, Some, None}
use Rattle.cos_base.specs.Counts.{Rises}
use Rattle.cos_base.specs.Links.{Wire}
use Rattle.rp_packet.specs.declared.packet.Packet.{Packet}
use Rattle.rp_packet.specs.Refusals.{first}
use Rattle.rp_framing.specs.declared.fault.FrameFault.TheVariants as frame
use Rattle.rp_framing.specs.declared.receiver.Pulled.{Pulled}
use Rattle.rp_framing.specs.declared.receiver.Pulled.TheVariants as pulled
use Rattle.rp_framing.specs.declared.receiver.ReceiveFault.{ReceiveFault}
use Rattle.rp_framing.specs.declared.receiver.ReceiveFault.TheVariants.{Malformed, Truncated, Link, NoMemory}
use Rattle.rp_framing.specs.Framing.{Frames, Feeds, Nexts}

-- these bytes were received besides, and the link still tells
abbrev pub Came : Option Wire → Option Wire → List ℕ → Type 0
Came None now bytes = Unit {0}
Came (Some w) now bytes = now ≡ Some (record w { received = w.received ++ bytes })

-- the same of a link that may have ceased to tell
abbrev pub CamePartly : Option Wire → Option Wire → List ℕ → Type 0
CamePartly None now bytes = Unit {0}
CamePartly (Some w) now bytes = IfSome now (λ n. n ≡ record w { received = w.received ++ bytes })

-- the same, and they are all that comes
abbrev pub CameAll : Option Wire → Option Wire → List ℕ → Type 0
CameAll None now bytes = Unit {0}
CameAll (Some w) now bytes = (now ≡ Some (record w { received = w.received ++ bytes }))
    × (w.received ++ bytes ≡ w.said w.sent)

-- by what was answered: at an end of input all that comes was received
abbrev pub Reads : Option Wire → Option Wire → List ℕ → Result (Option Packet) ReceiveFault → Type 0
Reads was now bytes (Ok (Some packet)) = Came was now bytes
Reads was now bytes (Ok None) = CameAll was now bytes
Reads was now bytes (Err (Malformed fault)) = Came was now bytes
Reads was now bytes (Err (Truncated rest)) = CameAll was now bytes
Reads was now bytes (Err (Link count)) = CamePartly was now bytes
Reads was now bytes (Err NoMemory) = CamePartly was now bytes

-- Bytes are read only while no packet is whole: none were, or none was whole before the last piece of them, of 4,096
-- bytes at most.
abbrev pub IsWanted : Frames → List ℕ → Type 0
IsWanted f bytes = (bytes ≡ [])
    ⊎ ((front : List ℕ) × (piece : List ℕ) × (bytes ≡ front ++ piece) × (length piece ≤ 4096) × (f.kept ≡ None)
    × (first (f.held ++ front) ≡ None))

-- What a framer that was fed all that was read answers, and what that leaves: the next packet or fault; or where no
-- packet is whole, that the input ended with nothing held, or within a packet, or that the link failed.
abbrev pub Answers : Frames → Frames → Result (Option Packet) ReceiveFault → Type 0
Answers fed new (Ok (Some packet)) = Nexts fed new (Ok (Some packet))
Answers fed new (Ok None) = Nexts fed new (Ok None) × (fed.held ≡ [])
Answers fed new (Err (Malformed fault)) = Nexts fed new (Err (frame.Malformed fault))
Answers fed new (Err (Truncated rest)) = Nexts fed new (Ok None) × (rest.start ≡ fed.taken)
    × (rest.held ≡ length fed.held) × (1 ≤ rest.held)
Answers fed new (Err (Link count)) = Nexts fed new (Ok None)
Answers fed new (Err NoMemory) = (fed.kept ≡ None) × (new ≡ fed)

-- The framer was fed what was read and no more than was wanted, and answered.
pub record Receives (was now : Option Wire) (old new : Frames) (result : Result (Option Packet) ReceiveFault)
    : Type 0 where
  pub bytes : List ℕ
  pub fed : Frames
  pub reads : Reads was now bytes result
  pub feeds : Feeds bytes old fed
  pub wanted : IsWanted old bytes
  pub answers : Answers fed new result

-- the count of faults rose exactly where the link is blamed, and is told
abbrev pub ReceiveCounts : {A : Type 0} → ℕ → ℕ → Result A ReceiveFault → Type 0
ReceiveCounts before now (Ok a) = now ≡ before
ReceiveCounts before now (Err (Malformed fault)) = now ≡ before
ReceiveCounts before now (Err (Truncated rest)) = now ≡ before
ReceiveCounts before now (Err (Link count)) = Rises before now × (count ≡ now)
ReceiveCounts before now (Err NoMemory) = now ≡ before

-- a sound link isn't to blame
abbrev pub ReceiveSound : {A : Type 0} → Result A ReceiveFault → Type 0
ReceiveSound (Ok a) = Unit {0}
ReceiveSound (Err (Malformed fault)) = Unit {0}
ReceiveSound (Err (Truncated rest)) = Unit {0}
ReceiveSound (Err (Link count)) = ⊥
ReceiveSound (Err NoMemory) = Unit {0}

-- How far receiving has come: bytes were read while they were wanted, and the framer was fed them.
pub record Goes (was now : Option Wire) (old new : Frames) : Type 0 where
  pub bytes : List ℕ
  pub came : Came was now bytes
  pub feeds : Feeds bytes old new
  pub wanted : IsWanted old bytes

-- what one read did to a framer that waits, by what it answered
abbrev pub Pulls : Option Wire → Option Wire → Frames → Frames → Result Pulled ReceiveFault → Type 0
Pulls was now old new (Ok pulled.More) = (piece : List ℕ) × (1 ≤ length piece) × (length piece ≤ 4096)
    × Came was now piece × Feeds piece old new
Pulls was now old new (Ok pulled.End) = CameAll was now [] × Feeds [] old new
Pulls was now old new (Err (Link count)) = CamePartly was now [] × Feeds [] old new
Pulls was now old new (Err NoMemory) = CamePartly was now [] × Feeds [] old new
Pulls was now old new (Err (Malformed fault)) = ⊥
Pulls was now old new (Err (Truncated rest)) = ⊥
