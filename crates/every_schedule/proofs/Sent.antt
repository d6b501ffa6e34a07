-- Packets only gather: where all packets of the last state are read back, every packet of every state before it is.
use Rattle.std.proofs.Common.{◌≡◌, ℕ, zero, suc, ⊎_elim, List, [], ◌∷◌, ◌++◌, set, Option, Some, None, slice_get, refl, sym, subst, append_assoc}
use Rattle.std.proofs.lemmas.Option.{same_Some}
use Rattle.process_network.specs.CalmRun.{Move}
use Rattle.process_network.specs.CalmRun.Move.{HubMoves, LeafMoves}
use Rattle.process_network.specs.PacketStar.{HubOutlook, LeafOutlook, Ends, PacketLink, PacketWorld, with_packet, hub_takes, hub_waits_on, hub_packet_move, leaf_takes, leaf_packet_move, packet_move_at, packets_after, packets_all, IsReadBack, IsReadable, AllReadable, with_sent}
use Rattle.process_network.specs.PacketStar.HubOutlook.{HubActs, HubWaits, HubHalts}
use Rattle.process_network.specs.PacketStar.LeafOutlook.{LeafActs, LeafWaits, LeafHalts}
use Rattle.every_schedule.proofs.Lists.{Each, each_at}

each_left : {A : Type 0} (P : A → Type 0) (xs ys : List A) → Each P (xs ++ ys) → Each P xs
each_left P [] ys a = tt
each_left P (x ∷ xs) ys a = (a.0, each_left P xs ys a.1)

pub each_right : {A : Type 0} (P : A → Type 0) (xs ys : List A) → Each P (xs ++ ys) → Each P ys
each_right P [] ys a = a
each_right P (x ∷ xs) ys a = each_right P xs ys a.1

each_unset : {A : Type 0} (P : A → Type 0) (xs : List A) (p : ℕ) (x y : A) → slice_get xs p ≡ Some x → (P y → P x) → Each P (set xs p y) → Each P xs
each_unset P [] p x y e go a = a
each_unset P (z ∷ xs) zero x y e go a = (subst P (sym (same_Some z x e)) (go a.0), a.1)
each_unset P (z ∷ xs) (suc p) x y e go a = (a.0, each_unset P xs p x y e go a.1)

module _ {H L P : Type 0} (e : Ends H L P) (Q : P → Type 0) where
  abbrev pub Holds : PacketLink L P → Type 0
  Holds q = Each Q (q.out_taken ++ q.out_waiting) × Each Q (q.back_taken ++ q.back_waiting)

  abbrev pub AllHold : PacketWorld H L P → Type 0
  AllHold c = Each Holds c.links

  sent_before : (links : List (PacketLink L P)) (p : ℕ) (m : P) (o : Option (PacketLink L P)) → slice_get links p ≡ o → Each Holds (with_packet links p m o) → Each Holds links
  sent_before links p m None g a = a
  sent_before links p m (Some q) g a = each_unset Holds links p q (with_sent q m) g (λ h. (each_left Q (q.out_taken ++ q.out_waiting) (m ∷ []) (subst (Each Q) (sym (append_assoc q.out_taken q.out_waiting (m ∷ []))) h.0), h.1)) a

  hub_before : (c : PacketWorld H L P) (v : HubOutlook H P) → AllHold (hub_packet_move e c v) → AllHold c
  hub_before c (HubActs next None) a = a
  hub_before c (HubActs next (Some m)) a = sent_before c.links m.0 m.1 (slice_get c.links m.0) refl a
  hub_before c HubHalts a = a
  hub_before c (HubWaits p) a = at_port (slice_get c.links p) refl a
    where
      got : (q : PacketLink L P) (ms : List P) → slice_get c.links p ≡ Some q → q.back_waiting ≡ ms → AllHold (hub_takes e c p q ms) → AllHold c
      got q [] g n a = a
      got q (m ∷ rest) g n a = each_unset Holds c.links p q (record { leaf = q.leaf; out_taken = q.out_taken; out_waiting = q.out_waiting; back_taken = q.back_taken ++ m ∷ []; back_waiting = rest }) g (λ h. (h.0, subst (λ ms. Each Q (q.back_taken ++ ms)) (sym n) (subst (Each Q) (append_assoc q.back_taken (m ∷ []) rest) h.1))) a

      at_port : (o : Option (PacketLink L P)) → slice_get c.links p ≡ o → AllHold (hub_waits_on e c p o) → AllHold c
      at_port None g a = a
      at_port (Some q) g a = got q q.back_waiting g refl a

  leaf_before : (c : PacketWorld H L P) (p : ℕ) (o : Option (PacketLink L P)) → slice_get c.links p ≡ o → AllHold (packet_move_at e c p o) → AllHold c
  leaf_before c p None g a = a
  leaf_before c p (Some q) g a = by (e.leaf_outlook q.leaf) a
    where
      more : (ms : List P) → Each Q (q.back_taken ++ (q.back_waiting ++ ms)) → Each Q (q.back_taken ++ q.back_waiting)
      more ms h = each_left Q (q.back_taken ++ q.back_waiting) ms (subst (Each Q) (sym (append_assoc q.back_taken q.back_waiting ms)) h)

      got : (ms : List P) → q.out_waiting ≡ ms → AllHold (leaf_takes e c p q ms) → AllHold c
      got [] n a = a
      got (m ∷ rest) n a = each_unset Holds c.links p q (record { leaf = (e.leaf_take q.leaf m).0; out_taken = q.out_taken ++ m ∷ []; out_waiting = rest; back_taken = q.back_taken; back_waiting = q.back_waiting ++ (e.leaf_take q.leaf m).1 }) g (λ h. (subst (λ ms. Each Q (q.out_taken ++ ms)) (sym n) (subst (Each Q) (append_assoc q.out_taken (m ∷ []) rest) h.0), more (e.leaf_take q.leaf m).1 h.1)) a

      by : (v : LeafOutlook L P) → AllHold (leaf_packet_move e c p q v) → AllHold c
      by (LeafActs next sends) a = each_unset Holds c.links p q (record { leaf = next; out_taken = q.out_taken; out_waiting = q.out_waiting; back_taken = q.back_taken; back_waiting = q.back_waiting ++ sends }) g (λ h. (h.0, more sends h.1)) a
      by LeafWaits a = got q.out_waiting refl a
      by LeafHalts a = a

  move_before : (c : PacketWorld H L P) (m : Move) → AllHold (packets_after e c m) → AllHold c
  move_before c HubMoves a = hub_before c (e.hub_outlook c.hub) a
  move_before c (LeafMoves p) a = leaf_before c p (slice_get c.links p) refl a

  pub moves_before : (c : PacketWorld H L P) (ms : List Move) → AllHold (packets_all e c ms) → AllHold c
  moves_before c [] a = a
  moves_before c (m ∷ ms) a = move_before c m (moves_before (packets_after e c m) ms a)

  waiting_good : ((m : P) → Q m → IsReadBack e.first e.write m) → (c : PacketWorld H L P) → AllHold c → IsReadable e c
  waiting_good reads c a p q m rest g w = reads m (⊎_elim (λ n. front q.out_taken (subst (λ ms. Each Q (q.out_taken ++ ms)) n (each_at Holds c.links p q a g).0)) (λ n. front q.back_taken (subst (λ ms. Each Q (q.back_taken ++ ms)) n (each_at Holds c.links p q a g).1)) w)
    where
      front : (old : List P) → Each Q (old ++ m ∷ rest) → Q m
      front old h = (each_right Q old (m ∷ rest) h).0

  pub all_good : ((m : P) → Q m → IsReadBack e.first e.write m) → (c : PacketWorld H L P) (ms : List Move) → AllHold (packets_all e c ms) → AllReadable e c ms
  all_good reads c [] a = tt
  all_good reads c (m ∷ ms) a = (waiting_good reads c (move_before c m (moves_before (packets_after e c m) ms a)), all_good reads (packets_after e c m) ms a)
