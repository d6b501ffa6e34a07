-- A star whose ends take and send whole packets. An end acts by itself, waits for a packet, or has halted.
use Rattle.std.specs.Prelude.{◌≡◌, ℕ, suc, ◌+◌, ◌<◌, ◌⊎◌, List, [], ◌∷◌, ◌++◌, length, drop, get_or, set, map, replicate, Option, Some, None, slice_get}
use Rattle.std.specs.Prelude.{◌==◌, if◌then◌else◌}
use Rattle.process_network.specs.Network.{Streams}
use Rattle.process_network.specs.Star.{Star}
use Rattle.process_network.specs.CalmRun.{Calm, Move, traffic_at}
use Rattle.process_network.specs.CalmRun.Move.{HubMoves, LeafMoves}

pub data HubOutlook (H P : Type 0) : Type 0 where
  HubActs : (next : H) (sends : Option (ℕ × P)) → HubOutlook H P
  HubWaits : (port : ℕ) → HubOutlook H P
  HubHalts : HubOutlook H P

pub data LeafOutlook (L P : Type 0) : Type 0 where
  LeafActs : (next : L) (sends : List P) → LeafOutlook L P
  LeafWaits : LeafOutlook L P
  LeafHalts : LeafOutlook L P

-- P is the packets; a malformed one is a packet too, and what takes it keeps the fault and halts. `first xs` is the
-- packet that xs begins with and its size in bytes, if it is whole; `write` spells a packet.
pub record Ends (H L P : Type 0) : Type 0 where
  pub hub_outlook : H → HubOutlook H P
  pub hub_take : H → ℕ → P → H
  pub leaf_outlook : L → LeafOutlook L P
  pub leaf_take : L → P → L × List P
  pub first : List ℕ → Option (P × ℕ)
  pub write : P → List ℕ

abbrev pub written : {P : Type 0} → (P → List ℕ) → List P → List ℕ
written write [] = []
written write (m ∷ ms) = write m ++ written write ms

-- An end with the number of bytes that it has taken.
pub record HubEnd (H : Type 0) : Type 0 where
  pub core : H
  pub taken : List ℕ

pub record LeafEnd (L : Type 0) : Type 0 where
  pub core : L
  pub taken : ℕ

abbrev pub sends_bytes : {H L P : Type 0} → Ends H L P → Option (ℕ × P) → Option (ℕ × List ℕ)
sends_bytes e None = None
sends_bytes e (Some m) = Some (m.0, e.write m.1)

abbrev pub hub_after_take :
    {H L P : Type 0} → Ends H L P → HubEnd H → ℕ → Option (P × ℕ) → Option (HubEnd H × Option (ℕ × List ℕ))
hub_after_take e s p None = None
hub_after_take e s p (Some r) =
    Some (record { core = e.hub_take s.core p r.0; taken = set s.taken p (get_or s.taken p 0 + r.1) }, None)

abbrev pub hub_turn_by :
    {H L P : Type 0} → Ends H L P → HubEnd H → Streams → HubOutlook H P
    → Option (HubEnd H × Option (ℕ × List ℕ))
hub_turn_by e s x (HubActs next sends) = Some (record { core = next; taken = s.taken }, sends_bytes e sends)
hub_turn_by e s x (HubWaits p) = hub_after_take e s p (e.first (drop (get_or s.taken p 0) (x p)))
hub_turn_by e s x HubHalts = None

abbrev pub leaf_after_take :
    {H L P : Type 0} → Ends H L P → LeafEnd L → Option (P × ℕ) → Option (LeafEnd L × List ℕ)
leaf_after_take e s None = None
leaf_after_take e s (Some r) =
    Some (
      record { core = (e.leaf_take s.core r.0).0; taken = s.taken + r.1 },
      written e.write (e.leaf_take s.core r.0).1,
    )

abbrev pub leaf_turn_by :
    {H L P : Type 0} → Ends H L P → LeafEnd L → List ℕ → LeafOutlook L P → Option (LeafEnd L × List ℕ)
leaf_turn_by e s x (LeafActs next sends) = Some (record { core = next; taken = s.taken }, written e.write sends)
leaf_turn_by e s x LeafWaits = leaf_after_take e s (e.first (drop s.taken x))
leaf_turn_by e s x LeafHalts = None

abbrev pub star_of : {H L P : Type 0} → Ends H L P → Star (HubEnd H) (LeafEnd L)
star_of e =
    record {
      hub_turn = λ s x. hub_turn_by e s x (e.hub_outlook s.core);
      leaf_turn = λ s x. leaf_turn_by e s x (e.leaf_outlook s.core);
    }

-- A written packet is the first one, whatever comes behind it.
abbrev pub IsReadBack : {P : Type 0} → (List ℕ → Option (P × ℕ)) → (P → List ℕ) → P → Type 0
IsReadBack first write m = (xs : List ℕ) → first (write m ++ xs) ≡ Some (m, length (write m))

-- A leaf with its packets: those sent to it that it has taken and that it has not, and those that it sent likewise.
pub record PacketLink (L P : Type 0) : Type 0 where
  pub leaf : L
  pub out_taken : List P
  pub out_waiting : List P
  pub back_taken : List P
  pub back_waiting : List P

pub record PacketWorld (H L P : Type 0) : Type 0 where
  pub hub : H
  pub links : List (PacketLink L P)

abbrev pub with_packet :
    {L P : Type 0} → List (PacketLink L P) → ℕ → P → Option (PacketLink L P) → List (PacketLink L P)
with_packet links p m None = links
with_packet links p m (Some q) = set links p (record q { out_waiting = q.out_waiting ++ m ∷ [] })

abbrev pub links_after_send : {H L P : Type 0} → PacketWorld H L P → Option (ℕ × P) → List (PacketLink L P)
links_after_send c None = c.links
links_after_send c (Some m) = with_packet c.links m.0 m.1 (slice_get c.links m.0)

abbrev pub hub_takes :
    {H L P : Type 0} → Ends H L P → PacketWorld H L P → ℕ → PacketLink L P → List P → PacketWorld H L P
hub_takes e c p q [] = c
hub_takes e c p q (m ∷ rest) = record {
  hub = e.hub_take c.hub p m;
  links = set c.links p (record q { back_taken = q.back_taken ++ m ∷ []; back_waiting = rest });
}

abbrev pub hub_waits_on :
    {H L P : Type 0} → Ends H L P → PacketWorld H L P → ℕ → Option (PacketLink L P) → PacketWorld H L P
hub_waits_on e c p None = c
hub_waits_on e c p (Some q) = hub_takes e c p q q.back_waiting

abbrev pub hub_packet_move :
    {H L P : Type 0} → Ends H L P → PacketWorld H L P → HubOutlook H P → PacketWorld H L P
hub_packet_move e c (HubActs next sends) = record { hub = next; links = links_after_send c sends }
hub_packet_move e c (HubWaits p) = hub_waits_on e c p (slice_get c.links p)
hub_packet_move e c HubHalts = c

abbrev pub leaf_takes :
    {H L P : Type 0} → Ends H L P → PacketWorld H L P → ℕ → PacketLink L P → List P → PacketWorld H L P
leaf_takes e c p q [] = c
leaf_takes e c p q (m ∷ rest) = record c {
  links = set c.links p (record q {
    leaf = (e.leaf_take q.leaf m).0;
    out_taken = q.out_taken ++ m ∷ [];
    out_waiting = rest;
    back_waiting = q.back_waiting ++ (e.leaf_take q.leaf m).1;
  });
}

abbrev pub leaf_packet_move :
    {H L P : Type 0} → Ends H L P → PacketWorld H L P → ℕ → PacketLink L P → LeafOutlook L P → PacketWorld H L P
leaf_packet_move e c p q (LeafActs next sends) = record c {
  links = set c.links p (record q { leaf = next; back_waiting = q.back_waiting ++ sends });
}
leaf_packet_move e c p q LeafWaits = leaf_takes e c p q q.out_waiting
leaf_packet_move e c p q LeafHalts = c

abbrev pub packet_move_at :
    {H L P : Type 0} → Ends H L P → PacketWorld H L P → ℕ → Option (PacketLink L P) → PacketWorld H L P
packet_move_at e c p None = c
packet_move_at e c p (Some q) = leaf_packet_move e c p q (e.leaf_outlook q.leaf)

abbrev pub packets_after : {H L P : Type 0} → Ends H L P → PacketWorld H L P → Move → PacketWorld H L P
packets_after e c HubMoves = hub_packet_move e c (e.hub_outlook c.hub)
packets_after e c (LeafMoves p) = packet_move_at e c p (slice_get c.links p)

abbrev pub packets_all : {H L P : Type 0} → Ends H L P → PacketWorld H L P → List Move → PacketWorld H L P
packets_all e c [] = c
packets_all e c (m ∷ ms) = packets_all e (packets_after e c m) ms

abbrev pub link_leaf : {H L P : Type 0} → Ends H L P → PacketLink L P → LeafEnd L
link_leaf e q = record { core = q.leaf; taken = length (written e.write q.out_taken) }

abbrev pub link_traffic : {H L P : Type 0} → Ends H L P → PacketLink L P → List ℕ × List ℕ
link_traffic e q =
    (written e.write (q.out_taken ++ q.out_waiting), written e.write (q.back_taken ++ q.back_waiting))

abbrev pub link_taken : {H L P : Type 0} → Ends H L P → PacketLink L P → ℕ
link_taken e q = length (written e.write q.back_taken)

-- The calm run of bytes that these packets make.
abbrev pub in_bytes : {H L P : Type 0} → Ends H L P → PacketWorld H L P → Calm (HubEnd H) (LeafEnd L)
in_bytes e c =
    record {
      hub = record { core = c.hub; taken = map (link_taken e) c.links };
      leaves = map (link_leaf e) c.links;
      traffic = map (link_traffic e) c.links;
    }

-- Each packet that waits when a move is made is read back as it was written.
abbrev pub IsReadable : {H L P : Type 0} → Ends H L P → PacketWorld H L P → Type 0
IsReadable {H} {L} {P} e c =
    (p : ℕ) (q : PacketLink L P) (m : P) (rest : List P) → slice_get c.links p ≡ Some q
    → (q.out_waiting ≡ m ∷ rest) ⊎ (q.back_waiting ≡ m ∷ rest) → IsReadBack e.first e.write m

abbrev pub AllReadable : {H L P : Type 0} → Ends H L P → PacketWorld H L P → List Move → Type 0
AllReadable e c [] = Unit {0}
AllReadable e c (m ∷ ms) = IsReadable e c × AllReadable e (packets_after e c m) ms

abbrev pub fresh_link : {L P : Type 0} → L → PacketLink L P
fresh_link l = record { leaf = l; out_taken = []; out_waiting = []; back_taken = []; back_waiting = [] }

abbrev pub packets_start : {H L P : Type 0} → H → List L → PacketWorld H L P
packets_start hub leaves = record { hub = hub; links = map fresh_link leaves }

abbrev pub fresh_hub : {H : Type 0} → H → ℕ → HubEnd H
fresh_hub h n = record { core = h; taken = replicate n 0 }

abbrev pub fresh_leaf : {L : Type 0} → L → LeafEnd L
fresh_leaf l = record { core = l; taken = 0 }

-- The hub has halted, each leaf waits or has halted, and each packet was taken.
pub record IsOver {H L P : Type 0} (e : Ends H L P) (c : PacketWorld H L P) : Type 0 where
  pub hub : e.hub_outlook c.hub ≡ HubHalts
  pub leaf :
      (p : ℕ) (q : PacketLink L P) → slice_get c.links p ≡ Some q
      → (e.leaf_outlook q.leaf ≡ LeafWaits) ⊎ (e.leaf_outlook q.leaf ≡ LeafHalts)
  pub out : (p : ℕ) (q : PacketLink L P) → slice_get c.links p ≡ Some q → q.out_waiting ≡ []
  pub back : (p : ℕ) (q : PacketLink L P) → slice_get c.links p ≡ Some q → q.back_waiting ≡ []

-- How many moves are turns.
abbrev pub waiting_count : {P : Type 0} → List P → ℕ
waiting_count [] = 0
waiting_count (m ∷ ms) = 1

abbrev pub back_count : {L P : Type 0} → Option (PacketLink L P) → ℕ
back_count None = 0
back_count (Some q) = waiting_count q.back_waiting

abbrev pub hub_count : {H L P : Type 0} → PacketWorld H L P → HubOutlook H P → ℕ
hub_count c (HubActs next sends) = 1
hub_count c (HubWaits p) = back_count (slice_get c.links p)
hub_count c HubHalts = 0

abbrev pub leaf_count : {L P : Type 0} → PacketLink L P → LeafOutlook L P → ℕ
leaf_count q (LeafActs next sends) = 1
leaf_count q LeafWaits = waiting_count q.out_waiting
leaf_count q LeafHalts = 0

abbrev pub leaf_count_at : {H L P : Type 0} → Ends H L P → Option (PacketLink L P) → ℕ
leaf_count_at e None = 0
leaf_count_at e (Some q) = leaf_count q (e.leaf_outlook q.leaf)

abbrev pub one_packet_move : {H L P : Type 0} → Ends H L P → PacketWorld H L P → Move → ℕ
one_packet_move e c HubMoves = hub_count c (e.hub_outlook c.hub)
one_packet_move e c (LeafMoves p) = leaf_count_at e (slice_get c.links p)

abbrev pub packet_turns : {H L P : Type 0} → Ends H L P → PacketWorld H L P → List Move → ℕ
packet_turns e c [] = 0
packet_turns e c (m ∷ ms) = one_packet_move e c m + packet_turns e (packets_after e c m) ms

-- A link after one packet: sent to the leaf, taken by the leaf, taken by the hub.
abbrev pub with_sent : {L P : Type 0} → PacketLink L P → P → PacketLink L P
with_sent q m = record q { out_waiting = q.out_waiting ++ m ∷ [] }

abbrev pub with_leaf : {L P : Type 0} → PacketLink L P → P → List P → L × List P → PacketLink L P
with_leaf q m rest r = record q {
  leaf = r.0;
  out_taken = q.out_taken ++ m ∷ [];
  out_waiting = rest;
  back_waiting = q.back_waiting ++ r.1;
}

abbrev pub with_taken : {L P : Type 0} → PacketLink L P → P → List P → PacketLink L P
with_taken q m rest = record q { back_taken = q.back_taken ++ m ∷ []; back_waiting = rest }

-- How many of them are turns of leaf p.
abbrev pub one_packet_leaf_move : {H L P : Type 0} → Ends H L P → PacketWorld H L P → ℕ → Move → ℕ
one_packet_leaf_move e c p HubMoves = 0
one_packet_leaf_move e c p (LeafMoves q) = if q == p then leaf_count_at e (slice_get c.links q) else 0

abbrev pub packet_leaf_turns : {H L P : Type 0} → Ends H L P → PacketWorld H L P → ℕ → List Move → ℕ
packet_leaf_turns e c p [] = 0
packet_leaf_turns e c p (m ∷ ms) = one_packet_leaf_move e c p m + packet_leaf_turns e (packets_after e c m) p ms

-- How many bytes leaf p has sent.
abbrev pub back_bytes : {H L P : Type 0} → Ends H L P → PacketWorld H L P → ℕ → ℕ
back_bytes e c p = length (traffic_at (in_bytes e c).traffic p).1

-- Leaf p takes no turn, or it sends in its last one, which comes after the moves `before`.
abbrev pub LeafEndsBySending : {H L P : Type 0} → Ends H L P → PacketWorld H L P → List Move → ℕ → Type 0
LeafEndsBySending e c moves p =
    (packet_leaf_turns e c p moves ≡ 0)
    ⊎ ((before : List Move) × AllReadable e c before
    × (packet_leaf_turns e c p moves ≡ suc (packet_leaf_turns e c p before))
    × (back_bytes e (packets_all e c before) p < back_bytes e (packets_all e c moves) p))
