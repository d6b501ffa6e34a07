-- A run of packets, seen at one port.
use Rattle.std.proofs.Common.{◌≡◌, ℕ, zero, suc, ◌<◌, List, [], ◌∷◌, ◌++◌, length, set, Option, Some, None, slice_get, refl, sym, ap, ◌∙◌, arith}
use Rattle.std.proofs.lemmas.List.{set-set}
use Rattle.std.proofs.lemmas.Option.{same_Some}
use Rattle.process_network.specs.CalmRun.{Move}
use Rattle.process_network.specs.CalmRun.Move.{HubMoves, LeafMoves}
use Rattle.process_network.specs.PacketStar.{Ends, PacketLink, PacketWorld, with_packet, hub_takes, hub_waits_on, hub_packet_move, leaf_takes, leaf_packet_move, packet_move_at, packets_after, packets_all, with_sent, with_leaf, with_taken}
use Rattle.process_network.specs.PacketStar.HubOutlook.{HubActs, HubWaits}
use Rattle.process_network.specs.PacketStar.LeafOutlook.{LeafWaits}

pub get_set : {A : Type 0} (xs : List A) (p : ℕ) (v : A) → p < length xs → slice_get (set xs p v) p ≡ Some v
get_set [] p v l = absurd (omega arith)
get_set (x ∷ xs) zero v l = refl
get_set (x ∷ xs) (suc p) v l = get_set xs p v (omega arith)

pub set_same : {A : Type 0} (xs : List A) (p : ℕ) (v : A) → slice_get xs p ≡ Some v → set xs p v ≡ xs
set_same [] p v e = refl
set_same (x ∷ xs) zero v e = ap (λ t. t ∷ xs) (sym (same_Some x v e))
set_same (x ∷ xs) (suc p) v e = ap (λ t. x ∷ t) (set_same xs p v e)

pub packets_append : {H L P : Type 0} (e : Ends H L P) (c : PacketWorld H L P) (xs ys : List Move) → packets_all e c (xs ++ ys) ≡ packets_all e (packets_all e c xs) ys
packets_append e c [] ys = refl
packets_append e c (x ∷ xs) ys = packets_append e (packets_after e c x) xs ys

-- `links` is what the links are but for port p, which has q.
abbrev pub focus : {H L P : Type 0} → List (PacketLink L P) → ℕ → H → PacketLink L P → PacketWorld H L P
focus links p h q = record { hub = h; links = set links p q }

module _ {H L P : Type 0} (e : Ends H L P) (links : List (PacketLink L P)) (p : ℕ) (inside : p < length links) where
  twice : (h : H) (q q' : PacketLink L P) → ◌≡◌ {A = PacketWorld H L P} (record { hub = h; links = set (set links p q) p q' }) (focus links p h q')
  twice h q q' = ap (λ t. record { hub = h; links = t }) (set-set links p q q')

  pub hub_local : (h h' : H) (q : PacketLink L P) → e.hub_outlook h ≡ HubActs h' None → packets_after e (focus links p h q) HubMoves ≡ focus links p h' q
  hub_local h h' q f = ap (hub_packet_move e (focus links p h q)) f

  pub hub_sends_one : (h h' : H) (q : PacketLink L P) (m : P) → e.hub_outlook h ≡ HubActs h' (Some (p, m)) → packets_after e (focus links p h q) HubMoves ≡ focus links p h' (with_sent q m)
  hub_sends_one h h' q m f =
      ap (hub_packet_move e (focus links p h q)) f
      ∙ ap (λ (o : Option (PacketLink L P)). record { hub = h'; links = with_packet (set links p q) p m o }) (get_set links p q inside)
      ∙ twice h' q (with_sent q m)

  pub leaf_takes_one : (h : H) (q : PacketLink L P) (m : P) (rest : List P) → e.leaf_outlook q.leaf ≡ LeafWaits → q.out_waiting ≡ m ∷ rest → packets_after e (focus links p h q) (LeafMoves p) ≡ focus links p h (with_leaf q m rest (e.leaf_take q.leaf m))
  leaf_takes_one h q m rest f g =
      ap (packet_move_at e (focus links p h q) p) (get_set links p q inside)
      ∙ ap (leaf_packet_move e (focus links p h q) p q) f
      ∙ ap (leaf_takes e (focus links p h q) p q) g
      ∙ twice h q (with_leaf q m rest (e.leaf_take q.leaf m))

  pub hub_takes_one : (h : H) (q : PacketLink L P) (m : P) (rest : List P) → e.hub_outlook h ≡ HubWaits p → q.back_waiting ≡ m ∷ rest → packets_after e (focus links p h q) HubMoves ≡ focus links p (e.hub_take h p m) (with_taken q m rest)
  hub_takes_one h q m rest f g =
      ap (hub_packet_move e (focus links p h q)) f
      ∙ ap (hub_waits_on e (focus links p h q) p) (get_set links p q inside)
      ∙ ap (hub_takes e (focus links p h q) p q) g
      ∙ twice (e.hub_take h p m) q (with_taken q m rest)
