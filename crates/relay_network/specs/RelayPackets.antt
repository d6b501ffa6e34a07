-- Relays that pass on whole packets, and a run of packets in which they do so.
use Rattle.std.specs.Prelude.{◌≡◌, ℕ, ◌+◌, Bool, true, false, List, [], ◌∷◌, ◌++◌, length, drop, set, map, Option, Some, None, slice_get}
use Rattle.process_network.specs.Network.{Network}
use Rattle.process_network.specs.CalmRun.{Calm, Move, traffic_at}
use Rattle.process_network.specs.CalmRun.Move.{HubMoves, LeafMoves}
use Rattle.process_network.specs.PacketStar.{HubOutlook, LeafOutlook, Ends, HubEnd, LeafEnd, star_of, written, IsReadBack, PacketLink, PacketWorld, link_leaf, link_taken, with_sent, with_leaf, with_taken, fresh_link, fresh_hub, fresh_leaf}
use Rattle.process_network.specs.PacketStar.HubOutlook.{HubActs, HubWaits, HubHalts}
use Rattle.process_network.specs.PacketStar.LeafOutlook.{LeafActs, LeafWaits, LeafHalts}
use Rattle.relay_network.specs.RelayStar.{RelayStar, RelayNode, RelayPort, RelayCalm, RelayMove, field_of, relay_network}
use Rattle.relay_network.specs.RelayStar.RelayMove.{MoveHub, MoveRelay, MoveLeaf}

pub data RelayOutlook : Type 0 where
  AwaitsHub : RelayOutlook
  AwaitsLeaf : RelayOutlook
  RelayHalts : RelayOutlook

-- `take r m` is the next state after packet m of the awaited side, and whether m is passed on to the other side. A
-- packet that is not passed on is a fault, and what took it halts.
pub record Relays (R P : Type 0) : Type 0 where
  pub outlook : R → RelayOutlook
  pub take : R → P → R × Bool

-- A relay with the number of bytes that it has taken from each side.
pub record RelayEnd (R : Type 0) : Type 0 where
  pub core : R
  pub from_hub : ℕ
  pub from_leaf : ℕ

abbrev pub passed_on : {P : Type 0} → (P → List ℕ) → P → Bool → List ℕ
passed_on write m true = write m
passed_on write m false = []

abbrev pub relay_takes_hub :
    {H R L P : Type 0} → Ends H L P → Relays R P → RelayEnd R → Option (P × ℕ)
    → Option (RelayEnd R × (List ℕ × List ℕ))
relay_takes_hub e k s None = None
relay_takes_hub e k s (Some r) = Some (
  record s { core = (k.take s.core r.0).0; from_hub = s.from_hub + r.1 },
  (passed_on e.write r.0 (k.take s.core r.0).1, []),
)

abbrev pub relay_takes_leaf :
    {H R L P : Type 0} → Ends H L P → Relays R P → RelayEnd R → Option (P × ℕ)
    → Option (RelayEnd R × (List ℕ × List ℕ))
relay_takes_leaf e k s None = None
relay_takes_leaf e k s (Some r) = Some (
  record s { core = (k.take s.core r.0).0; from_leaf = s.from_leaf + r.1 },
  ([], passed_on e.write r.0 (k.take s.core r.0).1),
)

abbrev pub relay_turn_by :
    {H R L P : Type 0} → Ends H L P → Relays R P → RelayEnd R → List ℕ → List ℕ → RelayOutlook
    → Option (RelayEnd R × (List ℕ × List ℕ))
relay_turn_by e k s x y AwaitsHub = relay_takes_hub e k s (e.first (drop s.from_hub x))
relay_turn_by e k s x y AwaitsLeaf = relay_takes_leaf e k s (e.first (drop s.from_leaf y))
relay_turn_by e k s x y RelayHalts = None

abbrev pub relay_star_of :
    {H R L P : Type 0} → Ends H L P → Relays R P → RelayStar (HubEnd H) (RelayEnd R) (LeafEnd L)
relay_star_of e k = record { star = star_of e; relay_turn = λ s x y. relay_turn_by e k s x y (k.outlook s.core) }

abbrev pub fresh_relay : {R : Type 0} → R → RelayEnd R
fresh_relay r = record { core = r; from_hub = 0; from_leaf = 0 }

-- A run of packets with a relay at each port, which passes on what the hub sends as soon as it is sent, and what the
-- leaf sent as soon as the hub is to take it.

pub record RelayedWorld (H R L P : Type 0) : Type 0 where
  pub hub : H
  pub links : List (PacketLink L P × R)

abbrev pub relayed_sent :
    {R L P : Type 0} → Relays R P → List (PacketLink L P × R) → ℕ → P → Option (PacketLink L P × R)
    → List (PacketLink L P × R)
relayed_sent k links p m None = links
relayed_sent k links p m (Some q) = set links p (with_sent q.0 m, (k.take q.1 m).0)

abbrev pub relayed_send :
    {H R L P : Type 0} → Relays R P → RelayedWorld H R L P → Option (ℕ × P) → List (PacketLink L P × R)
relayed_send k f None = f.links
relayed_send k f (Some m) = relayed_sent k f.links m.0 m.1 (slice_get f.links m.0)

abbrev pub relayed_takes :
    {H R L P : Type 0} → Ends H L P → Relays R P → RelayedWorld H R L P → ℕ → PacketLink L P × R → List P
    → RelayedWorld H R L P
relayed_takes e k f p q [] = f
relayed_takes e k f p q (m ∷ rest) = record {
  hub = e.hub_take f.hub p m;
  links = set f.links p (with_taken q.0 m rest, (k.take q.1 m).0);
}

abbrev pub relayed_waits :
    {H R L P : Type 0} → Ends H L P → Relays R P → RelayedWorld H R L P → ℕ → Option (PacketLink L P × R)
    → RelayedWorld H R L P
relayed_waits e k f p None = f
relayed_waits e k f p (Some q) = relayed_takes e k f p q q.0.back_waiting

abbrev pub relayed_hub :
    {H R L P : Type 0} → Ends H L P → Relays R P → RelayedWorld H R L P → HubOutlook H P → RelayedWorld H R L P
relayed_hub e k f (HubActs next sends) = record { hub = next; links = relayed_send k f sends }
relayed_hub e k f (HubWaits p) = relayed_waits e k f p (slice_get f.links p)
relayed_hub e k f HubHalts = f

abbrev pub relayed_gets :
    {H R L P : Type 0} → Ends H L P → RelayedWorld H R L P → ℕ → PacketLink L P × R → List P
    → RelayedWorld H R L P
relayed_gets e f p q [] = f
relayed_gets e f p q (m ∷ rest) =
    record f { links = set f.links p (with_leaf q.0 m rest (e.leaf_take q.0.leaf m), q.1) }

abbrev pub relayed_leaf :
    {H R L P : Type 0} → Ends H L P → RelayedWorld H R L P → ℕ → PacketLink L P × R → LeafOutlook L P
    → RelayedWorld H R L P
relayed_leaf e f p q (LeafActs next sends) = record f {
  links = set f.links p (record (q.0) { leaf = next; back_waiting = q.0.back_waiting ++ sends }, q.1);
}
relayed_leaf e f p q LeafWaits = relayed_gets e f p q q.0.out_waiting
relayed_leaf e f p q LeafHalts = f

abbrev pub relayed_leaf_at :
    {H R L P : Type 0} → Ends H L P → RelayedWorld H R L P → ℕ → Option (PacketLink L P × R)
    → RelayedWorld H R L P
relayed_leaf_at e f p None = f
relayed_leaf_at e f p (Some q) = relayed_leaf e f p q (e.leaf_outlook q.0.leaf)

abbrev pub relayed_after :
    {H R L P : Type 0} → Ends H L P → Relays R P → RelayedWorld H R L P → Move → RelayedWorld H R L P
relayed_after e k f HubMoves = relayed_hub e k f (e.hub_outlook f.hub)
relayed_after e k f (LeafMoves p) = relayed_leaf_at e f p (slice_get f.links p)

abbrev pub relayed_all :
    {H R L P : Type 0} → Ends H L P → Relays R P → RelayedWorld H R L P → List Move → RelayedWorld H R L P
relayed_all e k f [] = f
relayed_all e k f (m ∷ ms) = relayed_all e k (relayed_after e k f m) ms

abbrev pub relayed_start : {H R L P : Type 0} → H → R → List L → RelayedWorld H R L P
relayed_start hub relay leaves = record { hub = hub; links = map (λ l. (fresh_link l, relay)) leaves }

-- The relay awaits this side, and passes m on; and m is read back as it was written.
pub record IsPassed {H R L P : Type 0} (e : Ends H L P) (k : Relays R P) (r : R) (side : RelayOutlook) (m : P)
    : Type 0 where
  pub awaited : k.outlook r ≡ side
  pub passed : (k.take r m).1 ≡ true
  pub read : IsReadBack e.first e.write m

-- What a move passes.

abbrev pub HubPasses :
    {H R L P : Type 0} → Ends H L P → Relays R P → RelayedWorld H R L P → HubOutlook H P → Type 0
HubPasses e k f (HubActs next None) = Unit {0}
HubPasses {H} {R} {L} {P} e k f (HubActs next (Some m)) =
    (q : PacketLink L P × R) → slice_get f.links m.0 ≡ Some q → IsPassed e k q.1 AwaitsHub m.1
HubPasses {H} {R} {L} {P} e k f (HubWaits p) =
    (q : PacketLink L P × R) (m : P) (rest : List P) → slice_get f.links p ≡ Some q
    → q.0.back_waiting ≡ m ∷ rest
    → IsPassed e k q.1 AwaitsLeaf m
HubPasses e k f HubHalts = Unit {0}

abbrev pub MovePasses : {H R L P : Type 0} → Ends H L P → Relays R P → RelayedWorld H R L P → Move → Type 0
MovePasses e k f HubMoves = HubPasses e k f (e.hub_outlook f.hub)
MovePasses {H} {R} {L} {P} e k f (LeafMoves p) =
    (q : PacketLink L P × R) (m : P) (rest : List P) → slice_get f.links p ≡ Some q → q.0.out_waiting ≡ m ∷ rest
    → IsReadBack e.first e.write m

abbrev pub AllPass : {H R L P : Type 0} → Ends H L P → Relays R P → RelayedWorld H R L P → List Move → Type 0
AllPass e k f [] = Unit {0}
AllPass e k f (m ∷ ms) = MovePasses e k f m × AllPass e k (relayed_after e k f m) ms

-- The same run without the relays.
abbrev pub without_relays : {H R L P : Type 0} → RelayedWorld H R L P → PacketWorld H L P
without_relays f = record { hub = f.hub; links = map (λ q. q.0) f.links }

-- The same run in bytes.

abbrev pub port_in_bytes :
    {H R L P : Type 0} → Ends H L P → PacketLink L P × R → RelayPort (RelayEnd R) (LeafEnd L)
port_in_bytes e q = record {
  relay = record {
    core = q.1;
    from_hub = length (written e.write (q.0.out_taken ++ q.0.out_waiting));
    from_leaf = length (written e.write q.0.back_taken);
  };
  leaf = link_leaf e q.0;
  hub_relay = written e.write (q.0.out_taken ++ q.0.out_waiting);
  relay_leaf = written e.write (q.0.out_taken ++ q.0.out_waiting);
  leaf_relay = written e.write (q.0.back_taken ++ q.0.back_waiting);
  relay_hub = written e.write q.0.back_taken;
}

abbrev pub relays_in_bytes :
    {H R L P : Type 0} → Ends H L P → RelayedWorld H R L P → RelayCalm (HubEnd H) (RelayEnd R) (LeafEnd L)
relays_in_bytes e f = record {
  hub = record { core = f.hub; taken = map (λ q. link_taken e q.0) f.links };
  ports = map (port_in_bytes e) f.links;
}

-- The moves in bytes of a move of packets.

abbrev pub moves_of_send : {R L P : Type 0} → ℕ → Option (PacketLink L P × R) → List RelayMove
moves_of_send p None = MoveHub ∷ []
moves_of_send p (Some q) = MoveHub ∷ MoveRelay p ∷ []

abbrev pub moves_of_take : {P : Type 0} → ℕ → List P → List RelayMove
moves_of_take p [] = []
moves_of_take p (m ∷ rest) = MoveRelay p ∷ MoveHub ∷ []

abbrev pub moves_of_wait : {R L P : Type 0} → ℕ → Option (PacketLink L P × R) → List RelayMove
moves_of_wait p None = []
moves_of_wait p (Some q) = moves_of_take p q.0.back_waiting

abbrev pub moves_of_hub : {H R L P : Type 0} → RelayedWorld H R L P → HubOutlook H P → List RelayMove
moves_of_hub f (HubActs next None) = MoveHub ∷ []
moves_of_hub f (HubActs next (Some m)) = moves_of_send m.0 (slice_get f.links m.0)
moves_of_hub f (HubWaits p) = moves_of_wait p (slice_get f.links p)
moves_of_hub f HubHalts = []

abbrev pub moves_of_get : {P : Type 0} → ℕ → List P → List RelayMove
moves_of_get p [] = []
moves_of_get p (m ∷ rest) = MoveLeaf p ∷ []

abbrev pub moves_of_leaf : {L P : Type 0} → ℕ → PacketLink L P → LeafOutlook L P → List RelayMove
moves_of_leaf p q (LeafActs next sends) = MoveLeaf p ∷ []
moves_of_leaf p q LeafWaits = moves_of_get p q.out_waiting
moves_of_leaf p q LeafHalts = []

abbrev pub moves_of_leaf_at : {H R L P : Type 0} → Ends H L P → ℕ → Option (PacketLink L P × R) → List RelayMove
moves_of_leaf_at e p None = []
moves_of_leaf_at e p (Some q) = moves_of_leaf p q.0 (e.leaf_outlook q.0.leaf)

abbrev pub moves_of : {H R L P : Type 0} → Ends H L P → RelayedWorld H R L P → Move → List RelayMove
moves_of e f HubMoves = moves_of_hub f (e.hub_outlook f.hub)
moves_of e f (LeafMoves p) = moves_of_leaf_at e p (slice_get f.links p)

abbrev pub relayed_moves :
    {H R L P : Type 0} → Ends H L P → Relays R P → RelayedWorld H R L P → List Move → List RelayMove
relayed_moves e k f [] = []
relayed_moves e k f (m ∷ ms) = moves_of e f m ++ relayed_moves e k (relayed_after e k f m) ms

-- How many packets the hub has sent and taken.
abbrev pub passed_count : {R L P : Type 0} → List (PacketLink L P × R) → ℕ
passed_count [] = 0
passed_count (q ∷ qs) = length q.0.out_taken + length q.0.out_waiting + length q.0.back_taken + passed_count qs

-- How many packets were sent on all links, both ways.
abbrev pub packet_count : {L P : Type 0} → List (PacketLink L P) → ℕ
packet_count [] = 0
packet_count (q ∷ qs) =
    length q.out_taken + length q.out_waiting + length q.back_taken + length q.back_waiting + packet_count qs

-- Where a run with relays ends as one without them: the same hub and leaves, and all the traffic on both queues of each
-- way.
pub record IsSameEnd {H R L : Type 0} (final : RelayCalm H R L) (c : Calm H L) : Type 0 where
  pub hub : final.hub ≡ c.hub
  pub leaf : (p : ℕ) → field_of (λ q. Some q.leaf) None (slice_get final.ports p) ≡ slice_get c.leaves p
  pub hub_relay :
      (p : ℕ) → field_of (λ q. q.hub_relay) [] (slice_get final.ports p) ≡ (traffic_at c.traffic p).0
  pub relay_leaf :
      (p : ℕ) → field_of (λ q. q.relay_leaf) [] (slice_get final.ports p) ≡ (traffic_at c.traffic p).0
  pub leaf_relay :
      (p : ℕ) → field_of (λ q. q.leaf_relay) [] (slice_get final.ports p) ≡ (traffic_at c.traffic p).1
  pub relay_hub :
      (p : ℕ) → field_of (λ q. q.relay_hub) [] (slice_get final.ports p) ≡ (traffic_at c.traffic p).1

-- The network of fresh ends and relays of packets, and where a run of packets with relays leads, in bytes.

abbrev pub relayed_network : {H R L P : Type 0} → Ends H L P → Relays R P → H → R → List L
    → Network (RelayNode (HubEnd H) (RelayEnd R) (LeafEnd L))
relayed_network e k hub relay leaves =
    relay_network (relay_star_of e k) (fresh_hub hub (length leaves)) (fresh_relay relay) (map fresh_leaf leaves)

abbrev pub relayed_result : {H R L P : Type 0} → Ends H L P → Relays R P → H → R → List L → List Move
    → RelayCalm (HubEnd H) (RelayEnd R) (LeafEnd L)
relayed_result e k hub relay leaves moves = relays_in_bytes e (relayed_all e k (relayed_start hub relay leaves) moves)
