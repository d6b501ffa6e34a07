-- What a framer answers is told by all the bytes of its stream, in one list, however they were cut.
use Rattle.std.specs.Prelude.{◌≡◌, ℕ, ◌-◌, ◌≤◌, List, [], ◌∷◌, ◌++◌, length, Option, Some, None, Result, Ok, Err}
use Rattle.cosim_model.specs.Packets.{Packet}
use Rattle.rp_packet.specs.declared.fault.Cause.{Cause}
use Rattle.rp_packet.specs.declared.fault.PacketFault.{PacketFault}
use Rattle.rp_packet.specs.declared.packet.Packet.{Packet as HeldPacket}
use Rattle.rp_packet.specs.Values.{value_of}
use Rattle.rp_packet.specs.Streams.{Spelled, Stream, Faulty}
use Rattle.rp_framing.specs.declared.fault.FrameFault.{FrameFault}
use Rattle.rp_framing.specs.declared.fault.FrameFault.TheVariants.{Malformed, NoMemory}
use Rattle.rp_framing.specs.declared.fault.Truncated.{Truncated}
use Rattle.rp_framing.specs.Framing.{Frames, counted}

-- A framer keeps no bytes of taken packets. These spell the values that were taken, in order, and are as many as it
-- counts; where its count stands at its last value, they may be more. The stream is these bytes and then those held.
pub record Taken (vs : List Packet) (b : List ℕ) (f : Frames) : Type 0 where
  pub spelled : Spelled vs b
  pub size : counted (length b) ≡ f.taken

-- the first value of a stream's that isn't given yet
abbrev pub IsNextOf : List Packet → List Packet → Packet → Type 0
IsNextOf given vs v = (more : List Packet) × (vs ≡ given ++ (v ∷ more))

-- what `next` answers where the stream has these values and ends unfinished: the first value that isn't given yet, or
-- none
abbrev pub NextOfStream : List Packet → List Packet → Result (Option HeldPacket) FrameFault → Type 0
NextOfStream given vs (Ok (Some packet)) = IsNextOf given vs (value_of packet)
NextOfStream given vs (Ok None) = vs ≡ given
NextOfStream given vs (Err (Malformed fault)) = ⊥
NextOfStream given vs (Err NoMemory) = Unit {0}

-- and where it has these values and then a fault, which is answered once all values are given
abbrev pub NextOfFaulty : List Packet → List Packet → PacketFault → Result (Option HeldPacket) FrameFault → Type 0
NextOfFaulty given vs there (Ok (Some packet)) = IsNextOf given vs (value_of packet)
NextOfFaulty given vs there (Ok None) = ⊥
NextOfFaulty given vs there (Err (Malformed fault)) = (vs ≡ given) × (fault ≡ there)
NextOfFaulty given vs there (Err NoMemory) = Unit {0}

-- what `next` answers to all the bytes of a stream
pub record NextOf (given : List Packet) (b : List ℕ) (result : Result (Option HeldPacket) FrameFault) : Type 0 where
  pub stream : (vs : List Packet) (rest : List ℕ) → Stream vs b rest → NextOfStream given vs result
  pub faulty : (vs : List Packet) (start place : ℕ) (cause : Cause) → Faulty vs b start place cause
      → NextOfFaulty given vs (record { start = counted start; place = place; cause = cause }) result

-- The stream stays the same, and a value that was answered is one that was taken.
abbrev pub StaysAfter : List Packet → List ℕ → Frames → Frames → Result (Option HeldPacket) FrameFault → Type 0
StaysAfter given b old new (Ok (Some packet)) = (part : List ℕ)
    × Taken (given ++ (value_of packet ∷ [])) (b ++ part) new × ((b ++ part) ++ new.held ≡ b ++ old.held)
StaysAfter given b old new (Ok None) = Taken given b new × (new.held ≡ old.held)
StaysAfter given b old new (Err fault) = Taken given b new × (new.held ≡ old.held)

-- More bytes of the stream came, as long as it had no fault.
pub record GrowsBy (more : List ℕ) (b : List ℕ) (old new : Frames) : Type 0 where
  pub stream : old.kept ≡ None → b ++ new.held ≡ (b ++ old.held) ++ more
  pub kept : new.kept ≡ old.kept
  pub taken : new.taken ≡ old.taken

-- what `at_end` answers of a stream that ends with these bytes unfinished
abbrev pub EndOf : List ℕ → List ℕ → Result Unit Truncated → Type 0
EndOf b rest (Ok u) = rest ≡ []
EndOf b rest (Err t) = (1 ≤ length rest) × (t.start ≡ counted (length b - length rest)) × (t.held ≡ length rest)

-- The bytes are a stream of the values that were given, and the answer tells what it leaves unfinished.
pub record EndsWith (given : List Packet) (b : List ℕ) (result : Result Unit Truncated) : Type 0 where
  pub stream : (rest : List ℕ) × Stream given b rest
  pub ends : (vs : List Packet) (rest : List ℕ) → Stream vs b rest → (vs ≡ given) × EndOf b rest result
