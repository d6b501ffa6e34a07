-- Some moves lead from one world of packets to another. Beside where they lead it is known how many of them neither send nor take a
-- packet, and that the machine end sends on a port only where the device end of it rests, with at most one packet not taken yet.
use Rattle.std.proofs.Common.{◌≡◌, ℕ, ◌+◌, ◌≤◌, ◌⊎◌, List, [], ◌∷◌, ◌++◌, Option, Some, None, slice_get, refl, sym, ap, ◌∙◌, subst, arith}
use Rattle.process_network.specs.CalmRun.{Move}
use Rattle.process_network.specs.CalmRun.Move.{HubMoves, LeafMoves}
use Rattle.process_network.specs.PacketStar.{Ends, HubOutlook, PacketLink, PacketWorld, packets_after, packets_all}
use Rattle.process_network.specs.PacketStar.HubOutlook.{HubActs, HubWaits, HubHalts}
use Rattle.process_network.specs.PacketStar.LeafOutlook.{LeafWaits}
use Rattle.process_network.proofs.MovesAtPort.{packets_append}
use Rattle.cosim_model.specs.Parts.{DeviceModel, MasterModel}
use Rattle.cosim_model.specs.Packets.{Packet, Decoded, Codec, body_size}
use Rattle.cosim_model.specs.Packets.Decoded.{Valid}
use Rattle.ends_model.specs.DeviceTurn.{DeviceEnd, device_outlook}
use Rattle.ends_model.specs.MachineTurn.{MachineEnd, machine_outlook}
use Rattle.ends_model.specs.World.{ends}

-- A port whose device end rests, and has sent at most one packet that was not taken, of at most 208 bytes.

abbrev pub HasFew : {F : Type 0} → List (Decoded F) → Type 0
HasFew ms = (ms ≡ []) ⊎ ((x : Packet) × (ms ≡ Valid x ∷ []) × (body_size x.body ≤ 208))

abbrev pub IsFew : {S F : Type 0} → PacketLink (DeviceEnd S F) (Decoded F) → Type 0
IsFew l = (device_outlook l.leaf ≡ LeafWaits) × (l.out_waiting ≡ []) × HasFew l.back_waiting

abbrev pub FewAt : {S F : Type 0} → Option (PacketLink (DeviceEnd S F) (Decoded F)) → Type 0
FewAt None = Unit {0}
FewAt (Some l) = IsFew l

abbrev pub SendsWell : {M S F : Type 0} → List (PacketLink (DeviceEnd S F) (Decoded F)) → HubOutlook (MachineEnd M F) (Decoded F) → Type 0
SendsWell links (HubActs next None) = Unit {0}
SendsWell links (HubActs next (Some m)) = FewAt (slice_get links m.0)
SendsWell links (HubWaits p) = Unit {0}
SendsWell links HubHalts = Unit {0}

-- A move of the machine end that sends and takes no packet of a port that is there.

abbrev pub lost : {L P : Type 0} → Option (PacketLink L P) → ℕ
lost None = 1
lost (Some l) = 0

abbrev pub silent_by : {H L P : Type 0} → List (PacketLink L P) → HubOutlook H P → ℕ
silent_by links (HubActs next None) = 1
silent_by links (HubActs next (Some m)) = lost (slice_get links m.0)
silent_by links (HubWaits p) = 0
silent_by links HubHalts = 0

module _ {M S F : Type 0} (k : MasterModel M) (d : DeviceModel S) (codec : Codec F) where
  abbrev W : Type 0
  W = PacketWorld (MachineEnd M F) (DeviceEnd S F) (Decoded F)

  abbrev e : Ends (MachineEnd M F) (DeviceEnd S F) (Decoded F)
  e = ends k d codec

  abbrev pub IsGentle : PacketWorld (MachineEnd M F) (DeviceEnd S F) (Decoded F) → Move → Type 0
  IsGentle c HubMoves = SendsWell c.links (machine_outlook k c.hub)
  IsGentle c (LeafMoves p) = Unit {0}

  abbrev pub AllGentle : PacketWorld (MachineEnd M F) (DeviceEnd S F) (Decoded F) → List Move → Type 0
  AllGentle c [] = Unit {0}
  AllGentle c (m ∷ ms) = IsGentle c m × AllGentle (packets_after (ends k d codec) c m) ms

  abbrev pub silent_move : PacketWorld (MachineEnd M F) (DeviceEnd S F) (Decoded F) → Move → ℕ
  silent_move c HubMoves = silent_by c.links (machine_outlook k c.hub)
  silent_move c (LeafMoves p) = 0

  abbrev pub silent_moves : PacketWorld (MachineEnd M F) (DeviceEnd S F) (Decoded F) → List Move → ℕ
  silent_moves c [] = 0
  silent_moves c (m ∷ ms) = silent_move c m + silent_moves (packets_after (ends k d codec) c m) ms

  -- n of the moves are silent
  abbrev pub LeadsBy : ℕ → PacketWorld (MachineEnd M F) (DeviceEnd S F) (Decoded F) → PacketWorld (MachineEnd M F) (DeviceEnd S F) (Decoded F) → Type 0
  LeadsBy n a b = (ms : List Move) × (packets_all (ends k d codec) a ms ≡ b) × AllGentle a ms × (silent_moves a ms ≡ n)

  gentle_append : (a : W) (ms ms' : List Move) → AllGentle a ms → AllGentle (packets_all e a ms) ms' → AllGentle a (ms ++ ms')
  gentle_append a [] ms' f g = g
  gentle_append a (m ∷ ms) ms' f g = (f.0, gentle_append (packets_after e a m) ms ms' f.1 g)

  silent_append : (a : W) (ms ms' : List Move) → silent_moves a (ms ++ ms') ≡ silent_moves a ms + silent_moves (packets_all e a ms) ms'
  silent_append a [] ms' = omega arith
  silent_append a (m ∷ ms) ms' = let r = silent_append (packets_after e a m) ms ms' in omega arith

  pub leads_by : (n n' : ℕ) (a b c : W) → LeadsBy n a b → LeadsBy n' b c → LeadsBy (n + n') a c
  leads_by n n' a b c f g = (
    f.0 ++ g.0,
    packets_append e a f.0 g.0 ∙ ap (λ t. packets_all e t g.0) f.1 ∙ g.1,
    gentle_append a f.0 g.0 f.2 (subst (λ t. AllGentle t g.0) (sym f.1) g.2),
    (let x = silent_append a f.0 g.0 in let y : silent_moves (packets_all e a f.0) g.0 ≡ n' = ap (λ t. silent_moves t g.0) f.1 ∙ g.3 in let z = f.3 in omega arith),
  )

  pub stay : (a b : W) → a ≡ b → LeadsBy 0 a b
  stay a b f = ([], f, tt, refl)

  pub arrives : (n : ℕ) (a b b' : W) → LeadsBy n a b → b ≡ b' → LeadsBy n a b'
  arrives n a b b' f g = (f.0, f.1 ∙ g, f.2, f.3)

  pub between : (n : ℕ) (a' a b b' : W) → a' ≡ a → LeadsBy n a b → b ≡ b' → LeadsBy n a' b'
  between n a' a b b' x f y = subst (λ (a : W). LeadsBy n a b') (sym x) (arrives n a b b' f y)

  pub recount : (n n' : ℕ) (a b : W) → n ≡ n' → LeadsBy n a b → LeadsBy n' a b
  recount n n' a b f g = (g.0, g.1, g.2, g.3 ∙ f)

  -- One move.

  pub hub_sends : (a b : W) (next : MachineEnd M F) (p : ℕ) (x : Packet) (l : PacketLink (DeviceEnd S F) (Decoded F)) → machine_outlook k a.hub ≡ HubActs next (Some (p, Valid x)) → slice_get a.links p ≡ Some l → IsFew l → packets_after (ends k d codec) a HubMoves ≡ b → LeadsBy 0 a b
  hub_sends a b next p x l o g few f = (
    HubMoves ∷ [],
    f,
    (subst (SendsWell {M = M} a.links) (sym o) (subst FewAt (sym g) few), tt),
    ap (λ v. silent_by a.links v + 0) o ∙ ap (λ l. lost l + 0) g,
  )

  pub hub_takes_it : (a b : W) (p : ℕ) → machine_outlook k a.hub ≡ HubWaits p → packets_after (ends k d codec) a HubMoves ≡ b → LeadsBy 0 a b
  hub_takes_it a b p o f = (HubMoves ∷ [], f, (subst (SendsWell {M = M} a.links) (sym o) tt, tt), ap (λ v. silent_by a.links v + 0) o)

  pub hub_alone : (a b : W) (next : MachineEnd M F) → machine_outlook k a.hub ≡ HubActs next None → packets_after (ends k d codec) a HubMoves ≡ b → LeadsBy 1 a b
  hub_alone a b next o f = (HubMoves ∷ [], f, (subst (SendsWell {M = M} a.links) (sym o) tt, tt), ap (λ v. silent_by a.links v + 0) o)

  pub leaf_moves : (a b : W) (p : ℕ) → packets_after (ends k d codec) a (LeafMoves p) ≡ b → LeadsBy 0 a b
  leaf_moves a b p f = (LeafMoves p ∷ [], f, (tt, tt), refl)
