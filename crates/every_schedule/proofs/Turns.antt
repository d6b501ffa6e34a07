-- The turns of a run of packets: each is a packet sent or taken, a hello of a device end, or a silent move.
use Rattle.std.proofs.Common.{◌≡◌, ℕ, zero, suc, ◌+◌, Bool, true, false, List, [], ◌∷◌, ◌++◌, length, set, map, Option, Some, None, slice_get, refl, sym, ap, ◌∙◌, subst, arith}
use Rattle.std.proofs.lemmas.List.{length-append}
use Rattle.std.proofs.lemmas.Option.{none-some, same_Some}
use Rattle.process_network.specs.CalmRun.{Move}
use Rattle.process_network.specs.CalmRun.Move.{HubMoves, LeafMoves}
use Rattle.process_network.specs.PacketStar.{Ends, HubOutlook, LeafOutlook, PacketLink, PacketWorld, fresh_link, packets_after, packets_all, with_packet, hub_takes, hub_waits_on, hub_packet_move, leaf_takes, leaf_packet_move, packet_move_at, waiting_count, back_count, hub_count, leaf_count, leaf_count_at, one_packet_move, packet_turns}
use Rattle.process_network.specs.PacketStar.HubOutlook.{HubActs, HubWaits, HubHalts}
use Rattle.process_network.specs.PacketStar.LeafOutlook.{LeafActs, LeafWaits, LeafHalts}
use Rattle.cosim_model.specs.declared.session.EndFault.{EndFault}
use Rattle.cosim_model.specs.Parts.{DeviceModel, MasterModel}
use Rattle.cosim_model.specs.Packets.{Decoded, Codec}
use Rattle.ends_model.specs.DeviceTurn.{DeviceEnd, device_outlook, device_looks}
use Rattle.ends_model.specs.MachineTurn.{MachineEnd, machine_outlook}
use Rattle.ends_model.specs.World.{ends}
use Rattle.every_schedule.proofs.Leads.{lost, silent_by, silent_move, silent_moves}
use Rattle.every_schedule.proofs.OutDevice.{one_if, takes_went}

-- the sum of a number over a list
abbrev pub sum_over : {A : Type 0} → (A → ℕ) → List A → ℕ
sum_over f [] = 0
sum_over f (x ∷ xs) = f x + sum_over f xs

sum_set : {A : Type 0} (f : A → ℕ) (xs : List A) (p : ℕ) (x y : A) → slice_get xs p ≡ Some x → sum_over f (set xs p y) + f x ≡ sum_over f xs + f y
sum_set f [] p x y g = absurd (none-some x g)
sum_set f (z ∷ xs) zero x y g = let e : f z ≡ f x = ap f (same_Some z x g) in omega arith
sum_set f (z ∷ xs) (suc p) x y g = let e = sum_set f xs p x y g in omega arith

module _ {M S F : Type 0} (k : MasterModel M) (d : DeviceModel S) (codec : Codec F) where
  abbrev H : Type 0
  H = MachineEnd M F

  abbrev L : Type 0
  L = DeviceEnd S F

  abbrev P : Type 0
  P = Decoded F

  abbrev e : Ends H L P
  e = ends k d codec

  -- What a port's turns have been: packets sent to it and taken by it, packets taken from it, and its hello.
  abbrev pub weight : PacketLink (DeviceEnd S F) (Decoded F) → ℕ
  weight q = length q.out_taken + length q.out_taken + length q.out_waiting + length q.back_taken + one_if q.leaf.session.hello_went

  abbrev pub all_weight : PacketWorld (MachineEnd M F) (DeviceEnd S F) (Decoded F) → ℕ
  all_weight c = sum_over weight c.links

  abbrev Counts : PacketWorld H L P → PacketWorld H L P → ℕ → ℕ → Type 0
  Counts c c' n silent = n + all_weight c ≡ all_weight c' + silent

  sends_one : (c : PacketWorld H L P) (next : H) (m : ℕ × P) (o : Option (PacketLink L P)) → slice_get c.links m.0 ≡ o → Counts c (record { hub = next; links = with_packet c.links m.0 m.1 o }) 1 (lost o)
  sends_one c next m None g = omega arith
  sends_one c next m (Some q) g =
      let q' : PacketLink L P = record { leaf = q.leaf; out_taken = q.out_taken; out_waiting = q.out_waiting ++ m.1 ∷ []; back_taken = q.back_taken; back_waiting = q.back_waiting } in
      let s = sum_set weight c.links m.0 q q' g in
      let n = length-append q.out_waiting (m.1 ∷ []) in
      omega arith

  takes_one : (c : PacketWorld H L P) (p : ℕ) (q : PacketLink L P) (ms : List P) → slice_get c.links p ≡ Some q → Counts c (hub_takes e c p q ms) (waiting_count ms) 0
  takes_one c p q [] g = omega arith
  takes_one c p q (m ∷ rest) g =
      let q' : PacketLink L P = record { leaf = q.leaf; out_taken = q.out_taken; out_waiting = q.out_waiting; back_taken = q.back_taken ++ m ∷ []; back_waiting = rest } in
      let s = sum_set weight c.links p q q' g in
      let n = length-append q.back_taken (m ∷ []) in
      omega arith

  waits_one : (c : PacketWorld H L P) (p : ℕ) (o : Option (PacketLink L P)) → slice_get c.links p ≡ o → Counts c (hub_waits_on e c p o) (back_count o) 0
  waits_one c p None g = omega arith
  waits_one c p (Some q) g = takes_one c p q q.back_waiting g

  hub_one : (c : PacketWorld H L P) (v : HubOutlook H P) → Counts c (hub_packet_move e c v) (hub_count c v) (silent_by c.links v)
  hub_one c (HubActs next None) = omega arith
  hub_one c (HubActs next (Some m)) = sends_one c next m (slice_get c.links m.0) refl
  hub_one c (HubWaits p) = waits_one c p (slice_get c.links p) refl
  hub_one c HubHalts = omega arith

  leaf_acts_one : (c : PacketWorld H L P) (p : ℕ) (q : PacketLink L P) (next : L) (sends : List P) → slice_get c.links p ≡ Some q → one_if next.session.hello_went ≡ 1 → q.leaf.session.hello_went ≡ false → Counts c (leaf_packet_move e c p q (LeafActs next sends)) 1 0
  leaf_acts_one c p q next sends g after before =
      let q' : PacketLink L P = record { leaf = next; out_taken = q.out_taken; out_waiting = q.out_waiting; back_taken = q.back_taken; back_waiting = q.back_waiting ++ sends } in
      let s = sum_set weight c.links p q q' g in
      let b : one_if q.leaf.session.hello_went ≡ 0 = ap one_if before in
      omega arith

  leaf_takes_one : (c : PacketWorld H L P) (p : ℕ) (q : PacketLink L P) (ms : List P) → q.out_waiting ≡ ms → slice_get c.links p ≡ Some q → Counts c (leaf_takes e c p q ms) (waiting_count ms) 0
  leaf_takes_one c p q [] w g = omega arith
  leaf_takes_one c p q (m ∷ rest) w g =
      let q' : PacketLink L P = record { leaf = (e.leaf_take q.leaf m).0; out_taken = q.out_taken ++ m ∷ []; out_waiting = rest; back_taken = q.back_taken; back_waiting = q.back_waiting ++ (e.leaf_take q.leaf m).1 } in
      let s = sum_set weight c.links p q q' g in
      let n = length-append q.out_taken (m ∷ []) in
      let was : length q.out_waiting ≡ suc (length rest) = ap length w in
      let b : one_if (e.leaf_take q.leaf m).0.session.hello_went ≡ one_if q.leaf.session.hello_went = ap one_if (takes_went d q.leaf m) in
      omega arith

  leaf_one : (c : PacketWorld H L P) (p : ℕ) (o : Option (PacketLink L P)) → slice_get c.links p ≡ o → Counts c (packet_move_at e c p o) (leaf_count_at e o) 0
  leaf_one c p None g = omega arith
  leaf_one c p (Some q) g = by q.leaf.fault q.leaf.session.hello_went refl refl
    where
      by : (f : Option (EndFault F)) (b : Bool) → q.leaf.fault ≡ f → q.leaf.session.hello_went ≡ b → Counts c (leaf_packet_move e c p q (device_outlook q.leaf)) (leaf_count q (device_outlook q.leaf)) 0
      by (Some x) b ef eb =
          let o : device_outlook q.leaf ≡ LeafHalts = ap (λ f. device_looks q.leaf f q.leaf.session.hello_went) ef in
          subst (λ (v : LeafOutlook L P). Counts c (leaf_packet_move e c p q v) (leaf_count q v) 0) (sym o) (omega arith)
      by None true ef eb =
          let o : device_outlook q.leaf ≡ LeafWaits = ap (λ f. device_looks q.leaf f q.leaf.session.hello_went) ef ∙ ap (device_looks q.leaf None) eb in
          subst (λ (v : LeafOutlook L P). Counts c (leaf_packet_move e c p q v) (leaf_count q v) 0) (sym o) (leaf_takes_one c p q q.out_waiting refl g)
      by None false ef eb =
          let o : device_outlook q.leaf ≡ device_looks q.leaf None false = ap (λ f. device_looks q.leaf f q.leaf.session.hello_went) ef ∙ ap (device_looks q.leaf None) eb in
          subst (λ (v : LeafOutlook L P). Counts c (leaf_packet_move e c p q v) (leaf_count q v) 0) (sym o) (leaf_acts_one c p q _ _ g refl eb)

  pub one_turn : (c : PacketWorld (MachineEnd M F) (DeviceEnd S F) (Decoded F)) (m : Move) → one_packet_move (ends k d codec) c m + all_weight c ≡ all_weight (packets_after (ends k d codec) c m) + silent_move k d codec c m
  one_turn c HubMoves = hub_one c (machine_outlook k c.hub)
  one_turn c (LeafMoves p) = leaf_one c p (slice_get c.links p) refl

  pub all_turns : (c : PacketWorld (MachineEnd M F) (DeviceEnd S F) (Decoded F)) (ms : List Move) → packet_turns (ends k d codec) c ms + all_weight c ≡ all_weight (packets_all (ends k d codec) c ms) + silent_moves k d codec c ms
  all_turns c [] = omega arith
  all_turns c (m ∷ ms) =
      let one = one_turn c m in
      let more = all_turns (packets_after e c m) ms in
      omega arith

  -- At the start there were none.
  pub none_yet : (ls : List (DeviceEnd S F)) → ((p : ℕ) (l : DeviceEnd S F) → slice_get ls p ≡ Some l → l.session.hello_went ≡ false) → sum_over weight (map fresh_link ls) ≡ 0
  none_yet [] h = refl
  none_yet (l ∷ ls) h =
      let a : one_if l.session.hello_went ≡ 0 = ap one_if (h 0 l refl) in
      let b = none_yet ls (λ p x g. h (suc p) x g) in
      omega arith
