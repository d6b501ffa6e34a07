-- A counter that sends its numbers to two echoes in turn, and waits for each echo before it sends the next.
use Rattle.std.specs.Prelude.{ℕ, zero, suc, ◌-◌, Bool, true, false, List, [], ◌∷◌, Option, Some, None}
use Rattle.process_network.specs.Network.{Streams}
use Rattle.process_network.specs.CalmRun.{Move}
use Rattle.process_network.specs.CalmRun.Move.{HubMoves, LeafMoves}
use Rattle.process_network.specs.PacketStar.{Ends, HubOutlook, HubEnd, LeafEnd}
use Rattle.process_network.specs.PacketStar.HubOutlook.{HubActs, HubWaits, HubHalts}
use Rattle.process_network.specs.PacketStar.LeafOutlook.{LeafWaits}

-- A message is two bytes, and any two bytes are one.
abbrev pub first_message : List ℕ → Option ((ℕ × ℕ) × ℕ)
first_message [] = None
first_message (a ∷ []) = None
first_message (a ∷ b ∷ rest) = Some ((a, b), 2)

abbrev pub spelled : ℕ × ℕ → List ℕ
spelled m = m.0 ∷ m.1 ∷ []

-- How many numbers are left, the port of the next exchange, and whether its echo is awaited.
pub record Count : Type 0 where
  pub left : ℕ
  pub port : ℕ
  pub waits : Bool

abbrev pub outlook_at_rest : Count → ℕ → HubOutlook Count (ℕ × ℕ)
outlook_at_rest c zero = HubHalts
outlook_at_rest c (suc k) = HubActs (record { left = c.left; port = c.port; waits = true }) (Some (c.port, (c.left, 0)))

abbrev pub outlook_by : Count → Bool → HubOutlook Count (ℕ × ℕ)
outlook_by c true = HubWaits c.port
outlook_by c false = outlook_at_rest c c.left

abbrev pub next_count : Count → Count
next_count c = record { left = c.left - 1; port = 1 - c.port; waits = false }

-- An echo knows how many messages it has sent back.
abbrev pub echo_ends : Ends Count ℕ (ℕ × ℕ)
echo_ends = record {
  hub_outlook = λ c. outlook_by c c.waits;
  hub_take = λ c p m. next_count c;
  leaf_outlook = λ l. LeafWaits;
  leaf_take = λ l m. (suc l, m ∷ []);
  first = first_message;
  write = spelled;
}

-- What is received at the first port and at the second.
abbrev pub by_two : List ℕ → List ℕ → Streams
by_two a b zero = a
by_two a b (suc p) = b

-- What a turn of the counter did, from what its call answers: nothing, a message taken, or a message sent on a port.
abbrev pub turn_of : HubEnd Count → Option (Option (ℕ × (ℕ × ℕ))) → Option (HubEnd Count × Option (ℕ × List ℕ))
turn_of next None = None
turn_of next (Some None) = Some (next, None)
turn_of next (Some (Some m)) = Some (next, Some (m.0, spelled m.1))

-- What a turn of an echo did: nothing, or a message taken and sent back.
abbrev pub echo_of : LeafEnd ℕ → Option (ℕ × ℕ) → Option (LeafEnd ℕ × List ℕ)
echo_of next None = None
echo_of next (Some m) = Some (next, spelled m)

abbrev pub with_size : Option (ℕ × ℕ) → Option ((ℕ × ℕ) × ℕ)
with_size None = None
with_size (Some m) = Some (m, 2)

-- Three numbers for two echoes.
abbrev pub fresh_count : ℕ → Count
fresh_count n = record { left = n; port = 0; waits = false }

abbrev pub three_exchanges : List Move
three_exchanges =
    HubMoves ∷ LeafMoves 0 ∷ HubMoves
    ∷ HubMoves ∷ LeafMoves 1 ∷ HubMoves
    ∷ HubMoves ∷ LeafMoves 0 ∷ HubMoves ∷ []
