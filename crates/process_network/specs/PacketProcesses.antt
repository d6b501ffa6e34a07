-- Processes that act by themselves, wait for one whole message on one port, or have halted.
pub use Rattle.byte_streams.specs.Messages.{IsDecided}
use Rattle.std.specs.Prelude.{ℕ, ◌+◌, List, drop, Option, Some, None}
use Rattle.process_network.specs.Network.{update, Streams, Network}

pub data Outlook (C : Type 0) : Type 0 where
  Acts : (next : C) (sends : Streams) → Outlook C
  Waits : (port : ℕ) → Outlook C
  Halts : Outlook C

-- `first xs` is the message that xs begins with and its size, if it is whole. A malformed message is a message too:
-- what takes it keeps the fault, and halts.
pub record Protocol (C M : Type 0) : Type 0 where
  pub begin : ℕ → C
  pub outlook : ℕ → C → Outlook C
  pub take_packet : ℕ → C → M → C × Streams
  pub first : List ℕ → Option (M × ℕ)

-- What a process is, and how many bytes of each port it has taken.
pub record ProcessState (C : Type 0) : Type 0 where
  pub core : C
  pub taken : ℕ → ℕ

abbrev pub after_take :
    {C M : Type 0} → Protocol C M → ℕ → ProcessState C → ℕ → Option (M × ℕ) → Option (ProcessState C × Streams)
after_take proto i s p None = None
after_take proto i s p (Some r) =
    Some (
      record { core = (proto.take_packet i s.core r.0).0; taken = update s.taken p (s.taken p + r.1) },
      (proto.take_packet i s.core r.0).1,
    )

abbrev pub turn_by_outlook :
    {C M : Type 0} → Protocol C M → ℕ → ProcessState C → Streams → Outlook C → Option (ProcessState C × Streams)
turn_by_outlook proto i s x (Acts next sends) = Some (record { core = next; taken = s.taken }, sends)
turn_by_outlook proto i s x (Waits p) = after_take proto i s p (proto.first (drop (s.taken p) (x p)))
turn_by_outlook proto i s x Halts = None

abbrev pub network : {C M : Type 0} → Protocol C M → Network (ProcessState C)
network proto = record {
  start = λ i. record { core = proto.begin i; taken = λ p. 0 };
  turn = λ i s x. turn_by_outlook proto i s x (proto.outlook i s.core);
}
