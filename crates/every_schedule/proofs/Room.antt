-- The machine end sends on a port only where at most one packet of its device end is not taken.
use Rattle.std.proofs.Common.{◌≡◌, ℕ, zero, suc, ◌≤◌, ◌⊎◌, inl, inr, List, [], ◌∷◌, ◌++◌, length, drop, set, map, get_or, Option, Some, None, slice_get, refl, sym, ap, ◌∙◌, subst, arith, append_assoc, append-nil}
use Rattle.std.proofs.lemmas.Option.{none-some, same_Some, slice_get-map}
use Rattle.std.proofs.lemmas.List.{drop-append-le}
use Rattle.std.proofs.Math.Seq.{drop-append_seam, drop-length}
use Rattle.std.proofs.Math.ListN.{drop_of_length-le}
use Rattle.std.specs.Prelude.{option_map}
use Rattle.process_network.specs.Network.{IsPrefix, Streams}
use Rattle.process_network.specs.Star.{Star, IsStarMonotone, StarWorld, StarStep, leaf_turn_of, link, hub_received}
use Rattle.process_network.specs.CalmRun.{Calm, Move, calm_all, calm_after, calm_after_leaf, calm_leaf_turn, calm_start, no_traffic, traffic_at}
use Rattle.process_network.specs.CalmRun.Move.{HubMoves, LeafMoves}
use Rattle.process_network.specs.PacketStar.{Ends, HubOutlook, HubEnd, LeafEnd, PacketLink, PacketWorld, star_of, written, in_bytes, link_leaf, link_traffic, link_taken, packets_all, packets_after, AllReadable, hub_after_take, hub_turn_by, leaf_after_take, leaf_turn_by}
use Rattle.process_network.specs.PacketStar.HubOutlook.{HubActs, HubWaits, HubHalts}
use Rattle.process_network.proofs.CalmRuns.{calm_append}
use Rattle.process_network.proofs.MovesAtPort.{packets_append}
use Rattle.process_network.proofs.PacketRuns.{ends_monotone, mapped_at, mapped_get, packets_in_bytes, start_in_bytes, written_append}
use Rattle.process_network.proofs.StatesOnTheWay.{hub_occurs, hub_sees}
use Rattle.cosim_model.specs.declared.values.Plan.{Plan}
use Rattle.cosim_model.specs.Parts.{DeviceModel, MasterModel, IsDevice, IsMaster}
use Rattle.cosim_model.specs.Packets.{Packet, Decoded, Codec, IsCodec, IsWritable, body_size}
use Rattle.cosim_model.specs.Packets.Decoded.{Valid}
use Rattle.ends_model.specs.DeviceTurn.{DeviceEnd}
use Rattle.ends_model.specs.MachineTurn.{MachineEnd, machine_outlook}
use Rattle.ends_model.specs.World.{Side, ends, machine_start, Fit, world}
use Rattle.every_schedule.specs.Schedules.{untaken, IsOneAtMost, HasRoom}
use Rattle.every_schedule.proofs.Bounded.{nothing_first}
use Rattle.every_schedule.proofs.Greeting.{leaves_of}
use Rattle.every_schedule.proofs.Headline.{IsSound, hub_start, leaf_starts, begins, run_moves, run_posts, good_moves, run_rests, run_gentle, all_holds}
use Rattle.every_schedule.proofs.Leads.{HasFew, IsFew, FewAt, SendsWell, AllGentle}
use Rattle.every_schedule.proofs.Lists.{Each, each_at}
use Rattle.every_schedule.proofs.Sent.{Holds, AllHold, moves_before, each_right}

-- Moves of device ends alone.

abbrev AllLeaves : List Move → Type 0
AllLeaves [] = Unit {0}
AllLeaves (HubMoves ∷ ms) = ⊥
AllLeaves (LeafMoves p ∷ ms) = AllLeaves ms

-- up to the machine end's next move
abbrev NextHub : List Move → Type 0
NextHub ms = AllLeaves ms ⊎ ((more : List Move) × (rest : List Move) × (more ++ HubMoves ∷ rest ≡ ms) × AllLeaves more)

next_hub : (ms : List Move) → NextHub ms
next_hub [] = inl tt
next_hub (HubMoves ∷ ms) = inr ([], ms, refl, tt)
next_hub (LeafMoves p ∷ ms) = by (next_hub ms)
  where
    by : NextHub ms → NextHub (LeafMoves p ∷ ms)
    by (inl a) = inl a
    by (inr r) = inr (LeafMoves p ∷ r.0, r.1, ap (λ t. LeafMoves p ∷ t) r.2, r.3)

module _ {H L : Type 0} (star : Star H L) where
  out_stays : (ts : List (List ℕ × List ℕ)) (p q : ℕ) (x : List ℕ) → (traffic_at (set ts p ((traffic_at ts p).0, x)) q).0 ≡ (traffic_at ts q).0
  out_stays [] p q x = refl
  out_stays (t ∷ ts) zero zero x = refl
  out_stays (t ∷ ts) zero (suc q) x = refl
  out_stays (t ∷ ts) (suc p) zero x = refl
  out_stays (t ∷ ts) (suc p) (suc q) x = out_stays ts p q x

  leaf_stays : (c : Calm H L) (p : ℕ) (o : Option (L × List ℕ)) → ((calm_after_leaf c p o).hub ≡ c.hub) × ((q : ℕ) → (traffic_at (calm_after_leaf c p o).traffic q).0 ≡ (traffic_at c.traffic q).0)
  leaf_stays c p None = (refl, λ q. refl)
  leaf_stays c p (Some r) = (refl, λ q. out_stays c.traffic p q _)

  leaves_stay : (c : Calm H L) (ms : List Move) → AllLeaves ms → ((calm_all star c ms).hub ≡ c.hub) × ((q : ℕ) → (traffic_at (calm_all star c ms).traffic q).0 ≡ (traffic_at c.traffic q).0)
  leaves_stay c [] a = (refl, λ q. refl)
  leaves_stay c (HubMoves ∷ ms) a = absurd a
  leaves_stay c (LeafMoves p ∷ ms) a =
      let one = leaf_stays c p (calm_leaf_turn star c p) in
      let more = leaves_stay (calm_after star c (LeafMoves p)) ms a in
      (more.0 ∙ one.0, λ q. more.1 q ∙ one.1 q)

module _ {M S F : Type 0} (k : MasterModel M) (d : DeviceModel S) (codec : Codec F) (plan : Plan) (laws : IsDevice d) (laws' : IsMaster k) (coded : IsCodec codec) (m : M) (xs : List (Side × S)) (fit : Fit k d plan m xs) where
  abbrev H : Type 0
  H = HubEnd (MachineEnd M F)

  abbrev L : Type 0
  L = LeafEnd (DeviceEnd S F)

  abbrev Q : Type 0
  Q = PacketLink (DeviceEnd S F) (Decoded F)

  abbrev e : Ends (MachineEnd M F) (DeviceEnd S F) (Decoded F)
  e = ends k d codec

  abbrev hub0 : H
  hub0 = hub_start k d codec plan laws laws' coded m xs fit

  abbrev leaves0 : List L
  leaves0 = leaf_starts k d codec plan laws laws' coded m xs fit

  abbrev ms : List Move
  ms = run_moves k d codec plan laws laws' coded m xs fit

  abbrev c0 : PacketWorld (MachineEnd M F) (DeviceEnd S F) (Decoded F)
  c0 = begins k d codec plan laws laws' coded m xs fit

  steady : IsStarMonotone (star_of e)
  steady = ends_monotone e coded.decided

  abbrev calm : List Move → Calm H L
  calm before = calm_all (star_of e) (calm_start hub0 leaves0) before

  readable_split : (c : PacketWorld (MachineEnd M F) (DeviceEnd S F) (Decoded F)) (a b : List Move) → AllReadable e c (a ++ b) → AllReadable e c a
  readable_split c [] b r = tt
  readable_split c (x ∷ a) b r = (r.0, readable_split (packets_after e c x) a b r.1)

  gentle_split : (c : PacketWorld (MachineEnd M F) (DeviceEnd S F) (Decoded F)) (a b : List Move) → AllGentle k d codec c (a ++ b) → AllGentle k d codec (packets_all e c a) b
  gentle_split c [] b g = g
  gentle_split c (x ∷ a) b g = gentle_split (packets_after e c x) a b g.1

  -- the calm world of bytes after some of the moves
  calm_is : (before behind : List Move) → before ++ behind ≡ ms → calm before ≡ in_bytes e (packets_all e c0 before)
  calm_is before behind f =
      ap (λ c. calm_all (star_of e) c before) (start_in_bytes e coded.decided (machine_start F m (length xs) plan) (leaves_of k d codec plan xs))
      ∙ packets_in_bytes e coded.decided c0 before (readable_split c0 before behind (subst (AllReadable e c0) (sym f) (good_moves k d codec plan laws laws' coded m xs fit)))

  -- every packet on the way can be written
  holds_there : (before behind : List Move) → before ++ behind ≡ ms → AllHold e IsSound (packets_all e c0 before)
  holds_there before behind f = moves_before e IsSound (packets_all e c0 before) behind
      (subst (AllHold e IsSound) (sym (run_posts k d codec plan laws laws' coded m xs fit) ∙ ap (packets_all e c0) (sym f) ∙ packets_append e c0 before behind) (all_holds k d codec plan laws laws' coded m xs fit))

  rests : (q : Q) → IsFew q → (star_of e).leaf_turn (link_leaf e q) (link_traffic e q).0 ≡ None
  rests q few =
      ap (leaf_turn_by e (link_leaf e q) (link_traffic e q).0) few.0
      ∙ ap (λ (w : List (Decoded F)). leaf_after_take e (link_leaf e q) (codec.first (drop (length (written e.write q.out_taken)) (written e.write (q.out_taken ++ w))))) few.1
      ∙ ap (λ (w : List (Decoded F)). leaf_after_take e (link_leaf e q) (codec.first (drop (length (written e.write q.out_taken)) (written e.write w)))) (append-nil q.out_taken)
      ∙ ap (λ (bs : List ℕ). leaf_after_take e (link_leaf e q) (codec.first bs)) (drop-length (written e.write q.out_taken))
      ∙ ap (leaf_after_take e (link_leaf e q)) (nothing_first codec coded)

  -- what is behind a number of bytes of a prefix
  drop_prefix : (n : ℕ) (xs ys : List ℕ) → IsPrefix xs ys → IsPrefix (drop n xs) (drop n ys) ⊎ (drop n xs ≡ [])
  drop_prefix n xs ys r = by (le_or n (length xs))
    where
      le_or : (a b : ℕ) → (a ≤ b) ⊎ (b ≤ a)
      le_or zero b = inl (omega arith)
      le_or (suc a) zero = inr (omega arith)
      le_or (suc a) (suc b) = both (le_or a b)
        where
          both : (a ≤ b) ⊎ (b ≤ a) → (suc a ≤ suc b) ⊎ (suc b ≤ suc a)
          both (inl l) = inl (omega arith)
          both (inr l) = inr (omega arith)

      by : (n ≤ length xs) ⊎ (length xs ≤ n) → IsPrefix (drop n xs) (drop n ys) ⊎ (drop n xs ≡ [])
      by (inl l) = inl (r.0, sym (drop-append-le n xs r.0 l) ∙ ap (drop n) r.1)
      by (inr l) = inr (drop_of_length-le xs l)

  module _ (ss : List StarStep) (p : ℕ) where
    abbrev w : StarWorld H L
    w = world k d codec plan m xs ss

    abbrev Goal : Type 0
    Goal = IsOneAtMost k d codec plan m xs (untaken k d codec plan m xs w p)

    -- where the machine end is as far on the run, and sends there
    module _ (before rest : List Move) (f : before ++ HubMoves ∷ rest ≡ ms) (same : (calm before).hub ≡ w.hub) (out : (q : ℕ) → (traffic_at (calm before).traffic q).0 ≡ (link w q).out) where
      abbrev c : PacketWorld (MachineEnd M F) (DeviceEnd S F) (Decoded F)
      c = packets_all e c0 before

      is : calm before ≡ in_bytes e c
      is = calm_is before (HubMoves ∷ rest) f

      taken : get_or w.hub.taken p 0 ≡ get_or (map (link_taken e) c.links) p 0
      taken = ap (λ (h : H). get_or h.taken p 0) (sym same) ∙ ap (λ (c : Calm H L). get_or c.hub.taken p 0) is

      sees : calm_leaf_turn (star_of e) (in_bytes e c) p ≡ None → IsPrefix (link w p).back (traffic_at (in_bytes e c).traffic p).1
      sees stop = subst (λ (c : Calm H L). IsPrefix (link w p).back (traffic_at c.traffic p).1) is
          (hub_sees (star_of e) steady hub0 leaves0 ms (run_rests k d codec plan laws laws' coded m xs fit) ss before out p (ap (λ c. calm_leaf_turn (star_of e) c p) is ∙ stop))

      writable : (x : Packet) → IsSound {F = F} (Valid x) → IsWritable x
      writable x s = let same_x : x ≡ s.0 = ap packet_of s.1 in subst IsWritable (sym same_x) s.2
        where
          packet_of : Decoded F → Packet
          packet_of (Valid y) = y
          packet_of _ = x

      short : (x : Packet) → IsSound {F = F} (Valid x) → body_size x.body ≤ 208 → length (codec.write x) ≤ 208
      short x s l = let z = coded.sizes x (writable x s) in omega arith

      at_link : (o : Option Q) → slice_get c.links p ≡ o → FewAt o → Goal
      at_link None g few =
          let stop = ap (λ (o : Option L). leaf_turn_of (star_of e) o (traffic_at (in_bytes e c).traffic p).0) (slice_get-map (link_leaf e) c.links p ∙ ap (option_map (link_leaf e)) g) in
          inl (no_back (link w p).back (subst (IsPrefix (link w p).back) (ap (λ (t : List ℕ × List ℕ). t.1) (no_link c.links p g)) (sees stop)))
        where
          no_link : (ls : List Q) (p : ℕ) → slice_get ls p ≡ None → traffic_at (map (link_traffic e) ls) p ≡ no_traffic
          no_link [] p g = refl
          no_link (l ∷ ls) zero g = absurd (none-some l (sym g))
          no_link (l ∷ ls) (suc p) g = no_link ls p g

          no_back : (back : List ℕ) → IsPrefix back [] → drop (get_or w.hub.taken p 0) back ≡ []
          no_back [] r = drop_of_length-le [] (omega arith)
          no_back (b ∷ bs) r = absurd (cons_nil r.1)
            where
              cons_nil : b ∷ bs ++ r.0 ≡ [] → ⊥
              cons_nil z = cc
      at_link (Some q) g few = by (drop_prefix n (link w p).back (written e.write q.back_taken ++ written e.write q.back_waiting) seen)
        where
          n : ℕ
          n = get_or w.hub.taken p 0

          stop : calm_leaf_turn (star_of e) (in_bytes e c) p ≡ None
          stop =
              ap (λ (o : Option L). leaf_turn_of (star_of e) o (traffic_at (in_bytes e c).traffic p).0) (mapped_get (link_leaf e) c.links p q g)
              ∙ ap (λ (t : List ℕ × List ℕ). (star_of e).leaf_turn (link_leaf e q) t.0) (mapped_at (link_traffic e) c.links p q no_traffic g)
              ∙ rests q few

          seen : IsPrefix (link w p).back (written e.write q.back_taken ++ written e.write q.back_waiting)
          seen = subst (IsPrefix (link w p).back) (ap (λ (t : List ℕ × List ℕ). t.1) (mapped_at (link_traffic e) c.links p q no_traffic g) ∙ written_append e.write q.back_taken q.back_waiting) (sees stop)

          rest_is : drop n (written e.write q.back_taken ++ written e.write q.back_waiting) ≡ written e.write q.back_waiting
          rest_is =
              ap (λ n. drop n (written e.write q.back_taken ++ written e.write q.back_waiting)) (taken ∙ mapped_at (link_taken e) c.links p q 0 g)
              ∙ drop-append_seam (written e.write q.back_taken) (written e.write q.back_waiting)

          sound : (x : Packet) → q.back_waiting ≡ Valid x ∷ [] → IsSound {F = F} (Valid x)
          sound x z = (subst (Each IsSound) z (each_right IsSound q.back_taken q.back_waiting (each_at (Holds e IsSound) c.links p q (holds_there before (HubMoves ∷ rest) f) g).1)).0

          at_most : HasFew q.back_waiting → IsPrefix (untaken k d codec plan m xs w p) (written e.write q.back_waiting) → Goal
          at_most (inl z) r = inl (none_of (untaken k d codec plan m xs w p) (subst (λ (b : List (Decoded F)). IsPrefix (untaken k d codec plan m xs w p) (written e.write b)) z r))
            where
              none_of : (bs : List ℕ) → IsPrefix bs [] → bs ≡ []
              none_of [] r = refl
              none_of (b ∷ bs) r = absurd (cons_nil r.1)
                where
                  cons_nil : b ∷ bs ++ r.0 ≡ [] → ⊥
                  cons_nil z = cc
          at_most (inr x) r = inr (
            x.0,
            writable x.0 (sound x.0 x.1),
            subst (IsPrefix (untaken k d codec plan m xs w p)) (ap (written e.write) x.1 ∙ append-nil (codec.write x.0)) r,
            short x.0 (sound x.0 x.1) x.2,
          )

          by : IsPrefix (drop n (link w p).back) (drop n (written e.write q.back_taken ++ written e.write q.back_waiting)) ⊎ (drop n (link w p).back ≡ []) → Goal
          by (inl r) = at_most few.2 (subst (IsPrefix (untaken k d codec plan m xs w p)) rest_is r)
          by (inr z) = inl z

  -- what the machine end is about to send
  sent_on : (h : H) (x : Streams) (v : HubOutlook (MachineEnd M F) (Decoded F)) (next : H) (p : ℕ) (bytes : List ℕ) → hub_turn_by e h x v ≡ Some (next, Some (p, bytes)) → (nx : MachineEnd M F) × (y : Decoded F) × (v ≡ HubActs nx (Some (p, y)))
  sent_on h x (HubActs nx None) next p bytes t = absurd (none-some (p, bytes) (ap (λ (r : H × Option (ℕ × List ℕ)). r.1) (same_Some _ (next, Some (p, bytes)) t)))
  sent_on h x (HubActs nx (Some y)) next p bytes t =
      let there : y.0 ≡ p = ap (λ (s : ℕ × List ℕ). s.0) (same_Some _ (p, bytes) (ap (λ (r : H × Option (ℕ × List ℕ)). r.1) (same_Some _ (next, Some (p, bytes)) t))) in
      (nx, y.1, ap (λ p. HubActs nx (Some (p, y.1))) there)
  sent_on h x (HubWaits q) next p bytes t = took (codec.first (drop (get_or h.taken q 0) (x q))) t
    where
      took : (o : Option (Decoded F × ℕ)) → hub_after_take e h q o ≡ Some (next, Some (p, bytes)) → (nx : MachineEnd M F) × (y : Decoded F) × ◌≡◌ {A = HubOutlook (MachineEnd M F) (Decoded F)} (HubWaits q) (HubActs nx (Some (p, y)))
      took None t = absurd (none-some (next, Some (p, bytes)) t)
      took (Some r) t = absurd (none-some (p, bytes) (ap (λ (r : H × Option (ℕ × List ℕ)). r.1) (same_Some _ (next, Some (p, bytes)) t)))
  sent_on h x HubHalts next p bytes t = absurd (none-some (next, Some (p, bytes)) t)

  some_none : {A : Type 0} (a : A) (o : Option A) → o ≡ None → o ≡ Some a → ⊥
  some_none a o n s = none-some a (sym n ∙ s)

  pub has_room : HasRoom k d codec plan m xs
  has_room ss next p bytes t = found (next_hub occurs.1)
    where
      acts : (nx : MachineEnd M F) × (y : Decoded F) × (machine_outlook k (world k d codec plan m xs ss).hub.core ≡ HubActs nx (Some (p, y)))
      acts = sent_on (world k d codec plan m xs ss).hub (hub_received (world k d codec plan m xs ss)) (machine_outlook k (world k d codec plan m xs ss).hub.core) next p bytes t

      occurs : (before : List Move) × (behind : List Move) × (before ++ behind ≡ ms) × ((calm before).hub ≡ (world k d codec plan m xs ss).hub) × ((q : ℕ) → (traffic_at (calm before).traffic q).0 ≡ (link (world k d codec plan m xs ss) q).out)
      occurs = hub_occurs (star_of e) steady hub0 leaves0 ms (run_rests k d codec plan laws laws' coded m xs fit) ss

      -- the run ends where the machine end acts no more
      no_end : AllLeaves occurs.1 → ⊥
      no_end a =
          let stays = leaves_stay (star_of e) (calm occurs.0) occurs.1 a in
          let ends_at : calm ms ≡ calm_all (star_of e) (calm occurs.0) occurs.1 = ap calm (sym occurs.2) ∙ calm_append (star_of e) (calm_start hub0 leaves0) occurs.0 occurs.1 in
          let same : (calm ms).hub ≡ (world k d codec plan m xs ss).hub = ap (λ (c : Calm H L). c.hub) ends_at ∙ stays.0 ∙ occurs.3 in
          let x : Streams = λ q. (traffic_at (calm ms).traffic q).1 in
          some_none _ ((star_of e).hub_turn (calm ms).hub x) (run_rests k d codec plan laws laws' coded m xs fit).hub
          (ap (λ (h : H). (star_of e).hub_turn h x) same ∙ ap (hub_turn_by e (world k d codec plan m xs ss).hub x) acts.2)

      found : NextHub occurs.1 → IsOneAtMost k d codec plan m xs (untaken k d codec plan m xs (world k d codec plan m xs ss) p)
      found (inl a) = absurd (no_end a)
      found (inr r) = at_link ss p (occurs.0 ++ r.0) r.1 f same out (slice_get there.links p) refl few
        where
          there : PacketWorld (MachineEnd M F) (DeviceEnd S F) (Decoded F)
          there = packets_all e c0 (occurs.0 ++ r.0)

          f : (occurs.0 ++ r.0) ++ HubMoves ∷ r.1 ≡ ms
          f = append_assoc occurs.0 r.0 (HubMoves ∷ r.1) ∙ ap (λ t. occurs.0 ++ t) r.2 ∙ occurs.2

          further : calm (occurs.0 ++ r.0) ≡ calm_all (star_of e) (calm occurs.0) r.0
          further = calm_append (star_of e) (calm_start hub0 leaves0) occurs.0 r.0

          same : (calm (occurs.0 ++ r.0)).hub ≡ (world k d codec plan m xs ss).hub
          same = ap (λ (c : Calm H L). c.hub) further ∙ (leaves_stay (star_of e) (calm occurs.0) r.0 r.3).0 ∙ occurs.3

          out : (q : ℕ) → (traffic_at (calm (occurs.0 ++ r.0)).traffic q).0 ≡ (link (world k d codec plan m xs ss) q).out
          out q = ap (λ (c : Calm H L). (traffic_at c.traffic q).0) further ∙ (leaves_stay (star_of e) (calm occurs.0) r.0 r.3).1 q ∙ occurs.4 q

          core : there.hub ≡ (world k d codec plan m xs ss).hub.core
          core = ap (λ (c : Calm H L). c.hub.core) (sym (calm_is (occurs.0 ++ r.0) (HubMoves ∷ r.1) f)) ∙ ap (λ (h : H). h.core) same

          gentle : SendsWell {M = M} there.links (machine_outlook k there.hub)
          gentle = (gentle_split c0 (occurs.0 ++ r.0) (HubMoves ∷ r.1) (subst (AllGentle k d codec c0) (sym f) (run_gentle k d codec plan laws laws' coded m xs fit))).0

          few : FewAt (slice_get there.links p)
          few = subst (SendsWell {M = M} there.links) (ap (machine_outlook k) core ∙ acts.2) gentle
