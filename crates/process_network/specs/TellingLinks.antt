-- One process over links that only tell what they give: more sent bytes give more, and nothing else is known of them.
use Rattle.std.specs.Prelude.{◌≡◌, ℕ, suc, ◌+◌, ◌<◌, ◌≤◌, ◌⊎◌, List, [], Option, Some, None}
use Rattle.process_network.specs.Network.{IsPrefix, Streams, Network, IsRun, IsMaximalRun, NodeTalk}
use Rattle.process_network.specs.Star.{Star, to_leaf}
use Rattle.process_network.specs.CalmRun.{one_if_some}
use Rattle.process_network.specs.PacketStar.{Ends, HubEnd, star_of, fresh_hub}
use Rattle.process_network.specs.PacketStar.HubOutlook.{HubActs, HubWaits}
use Rattle.process_network.specs.StarTalk.{IsHubRun, StarTalk}

-- `said j y` is all that link j gives for sent bytes y. It grows with y.
abbrev pub IsTelling : (ℕ → List ℕ → List ℕ) → Type 0
IsTelling said = (j : ℕ) (y z : List ℕ) → IsPrefix y z → IsPrefix (said j y) (said j z)

-- Over any received bytes node h comes to the end of its turns.
abbrev pub AlwaysEnds : {S : Type 0} → Network S → ℕ → Type 0
AlwaysEnds {S} net h = (x : Streams) → (k : ℕ) × (s : S) × (o : Streams) × IsMaximalRun net h x k s o

-- Node h sends a bounded number of messages, all to the first `ports` nodes: in each state that a run over any received
-- bytes comes to, no turn raises `left`, and one that sends lowers it.
pub record SendsBounded {S : Type 0} (net : Network S) (h ports : ℕ) : Type 0 where
  pub left : S → ℕ
  pub lowers : (x : Streams) (k : ℕ) (s : S) (o : Streams) → IsRun net h x k s o →
      (r : S × Streams) → net.turn h s x ≡ Some r →
      (left r.0 < left s) ⊎ ((left r.0 ≤ left s) × ((j : ℕ) → r.1 j ≡ []))
  pub few : (s : S) (x : Streams) (r : S × Streams) → net.turn h s x ≡ Some r → (j : ℕ) → ports ≤ j → r.1 j ≡ []

-- The links gave x, and for what was sent over it they give no more.
abbrev pub IsFixed : (ℕ → List ℕ → List ℕ) → Streams → Streams → Type 0
IsFixed said x o = (j : ℕ) → x j ≡ said j (o j)

-- Round k of the talk gives what the next one gives, and no earlier round does.
pub record IsFirstFixed {S : Type 0} (net : Network S) (h : ℕ) (said : ℕ → List ℕ → List ℕ) (k : ℕ) (x : Streams)
    (n : ℕ) (s : S) (o : Streams) : Type 0 where
  pub talk : NodeTalk net h said k x
  pub run : IsMaximalRun net h x n s o
  pub fixed : IsFixed said x o
  pub first :
      (i : ℕ) (y : Streams) (m : ℕ) (t : S) (u : Streams) → i < k → NodeTalk net h said i y
      → IsMaximalRun net h y m t u → IsFixed said y u → ⊥

-- The hub of a star alone: each node is it, and its neighbours are its ports.

abbrev pub by_port : {H : Type 0} → ℕ → Option (H × Option (ℕ × List ℕ)) → Option (H × Streams)
by_port n None = None
by_port n (Some r) = Some (r.0, λ p. to_leaf n r.1 (suc p))

abbrev pub hub_alone : {H L : Type 0} → Star H L → ℕ → H → Network H
hub_alone star n hub = record { start = λ i. hub; turn = λ i h x. by_port n (star.hub_turn h x) }

-- Over any received bytes the hub comes to the end of its turns.
abbrev pub HubAlwaysEnds : {H L : Type 0} → Star H L → ℕ → H → Type 0
HubAlwaysEnds {H} star n hub =
    (x : Streams) → (k : ℕ) × (h : H) × (o : Streams) × IsHubRun star n hub x k h o × (star.hub_turn h x ≡ None)

-- The hub takes a bounded number of turns: in each state that a run over any received bytes comes to, one lowers
-- `left`.
pub record HubTurnsBounded {H L : Type 0} (star : Star H L) (n : ℕ) (hub : H) : Type 0 where
  pub left : H → ℕ
  pub lowers :
      (x : Streams) (k : ℕ) (h : H) (o : Streams) → IsHubRun star n hub x k h o
      → (r : H × Option (ℕ × List ℕ)) → star.hub_turn h x ≡ Some r → left r.0 < left h

-- The hub sends a bounded number of messages: there no turn raises `left`, and one that sends lowers it.
pub record HubSendsBounded {H L : Type 0} (star : Star H L) (n : ℕ) (hub : H) : Type 0 where
  pub left : H → ℕ
  pub lowers :
      (x : Streams) (k : ℕ) (h : H) (o : Streams) → IsHubRun star n hub x k h o
      → (r : H × Option (ℕ × List ℕ)) → star.hub_turn h x ≡ Some r → left r.0 + one_if_some r.1 ≤ left h

-- Round k of the hub's talk gives what the next one gives, and no earlier round does.
pub record IsFirstFixedHub {H L : Type 0} (star : Star H L) (n : ℕ) (hub : H) (said : ℕ → List ℕ → List ℕ) (k : ℕ)
    (x : Streams) (turns : ℕ) (h : H) (o : Streams) : Type 0 where
  pub talk : StarTalk star n hub said k x
  pub run : IsHubRun star n hub x turns h o
  pub stop : star.hub_turn h x ≡ None
  pub fixed : IsFixed said x o
  pub first :
      (i : ℕ) (y : Streams) (m : ℕ) (g : H) (u : Streams) → i < k → StarTalk star n hub said i y
      → IsHubRun star n hub y m g u → star.hub_turn g y ≡ None → IsFixed said y u → ⊥

-- A hub of packets takes a bounded number of turns: there each one that it acts, and each one that takes a packet,
-- lowers `left`.
pub record HubWorkBounded {H L P : Type 0} (e : Ends H L P) (n : ℕ) (hub : H) : Type 0 where
  pub left : H → ℕ
  pub acts :
      (x : Streams) (k : ℕ) (h : HubEnd H) (o : Streams) → IsHubRun (star_of e) n (fresh_hub hub n) x k h o
      → (next : H) (sends : Option (ℕ × P)) → e.hub_outlook h.core ≡ HubActs next sends → left next < left h.core
  pub takes :
      (x : Streams) (k : ℕ) (h : HubEnd H) (o : Streams) → IsHubRun (star_of e) n (fresh_hub hub n) x k h o
      → (p : ℕ) (m : P) → e.hub_outlook h.core ≡ HubWaits p → left (e.hub_take h.core p m) < left h.core
