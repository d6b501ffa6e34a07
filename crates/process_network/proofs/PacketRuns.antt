-- A calm run of packets is a calm run of bytes.
use Rattle.std.proofs.Common.{◌≡◌, ℕ, zero, suc, ◌+◌, ◌≤◌, inl, inr, ⊎_elim, List, [], ◌∷◌, ◌++◌, length, drop, get_or, set, map, replicate, Option, Some, None, slice_get, option_map, refl, sym, ap, ap₂, ◌∙◌, subst, arith, append_assoc, append-nil, length-append}
use Rattle.std.specs.Prelude.{◌==◌, if◌then◌else◌}
use Rattle.std.proofs.lemmas.List.{map-set, set_past, get_or_past, length-map}
use Rattle.std.proofs.lemmas.Option.{none-some, same_Some, slice_get-map}
use Rattle.process_network.specs.Network.{Streams, Below, IsPrefix}
use Rattle.process_network.specs.PacketProcesses.{IsDecided}
use Rattle.process_network.specs.Star.{IsStarMonotone, leaf_turn_of}
use Rattle.process_network.specs.CalmRun.{Calm, Move, no_traffic, traffic_at, calm_leaf_turn, calm_after_hub, calm_after_leaf, calm_after, calm_all, calm_start, IsAtRest, IsCalmResult, one_if_some, one_move, moves_taken, leaf_moves_taken}
use Rattle.process_network.specs.CalmRun.Move.{HubMoves, LeafMoves}
use Rattle.process_network.specs.PacketStar.{HubOutlook, LeafOutlook, Ends, written, HubEnd, LeafEnd, sends_bytes, hub_after_take, hub_turn_by, leaf_after_take, leaf_turn_by, star_of, IsReadBack, PacketLink, PacketWorld, with_packet, links_after_send, hub_takes, hub_waits_on, hub_packet_move, leaf_takes, leaf_packet_move, packet_move_at, packets_after, packets_all, link_leaf, link_traffic, link_taken, in_bytes, IsReadable, AllReadable, fresh_link, packets_start, fresh_hub, fresh_leaf, IsOver, waiting_count, back_count, hub_count, leaf_count, leaf_count_at, one_packet_move, packet_turns, packet_leaf_turns}
use Rattle.process_network.specs.PacketStar.HubOutlook.{HubActs, HubWaits, HubHalts}
use Rattle.process_network.specs.PacketStar.LeafOutlook.{LeafActs, LeafWaits, LeafHalts}
use Rattle.process_network.proofs.PacketProcesses.{still}
use Rattle.process_network.proofs.HubHalted.{none_past}
use Rattle.process_network.proofs.CalmRuns.{every_calm}

-- More bytes change no turn, from the law of `first` alone.

hub_take_same : {H L P : Type 0} (e : Ends H L P) (s : HubEnd H) (p : ℕ) (a b : Option (P × ℕ)) (r : HubEnd H × Option (ℕ × List ℕ)) → ((m : P × ℕ) → a ≡ Some m → b ≡ Some m) → hub_after_take e s p a ≡ Some r → hub_after_take e s p b ≡ Some r
hub_take_same {H} e s p None b r keep t = absurd (none-some {A = HubEnd H × Option (ℕ × List ℕ)} r t)
hub_take_same e s p (Some m) b r keep t = ap (hub_after_take e s p) (keep m refl) ∙ t

leaf_take_same : {H L P : Type 0} (e : Ends H L P) (s : LeafEnd L) (a b : Option (P × ℕ)) (r : LeafEnd L × List ℕ) → ((m : P × ℕ) → a ≡ Some m → b ≡ Some m) → leaf_after_take e s a ≡ Some r → leaf_after_take e s b ≡ Some r
leaf_take_same {H} {L} e s None b r keep t = absurd (none-some {A = LeafEnd L × List ℕ} r t)
leaf_take_same e s (Some m) b r keep t = ap (leaf_after_take e s) (keep m refl) ∙ t

hub_turn_same : {H L P : Type 0} (e : Ends H L P) → IsDecided e.first → (s : HubEnd H) (x y : Streams) (v : HubOutlook H P) (r : HubEnd H × Option (ℕ × List ℕ)) → Below x y → hub_turn_by e s x v ≡ Some r → hub_turn_by e s y v ≡ Some r
hub_turn_same e decided s x y (HubActs next sends) r b t = t
hub_turn_same e decided s x y (HubWaits p) r b t = hub_take_same e s p (e.first (drop (get_or s.taken p 0) (x p))) (e.first (drop (get_or s.taken p 0) (y p))) r (still e.first decided (get_or s.taken p 0) (x p) (y p) (b p)) t
hub_turn_same e decided s x y HubHalts r b t = t

leaf_turn_same : {H L P : Type 0} (e : Ends H L P) → IsDecided e.first → (s : LeafEnd L) (x y : List ℕ) (v : LeafOutlook L P) (r : LeafEnd L × List ℕ) → IsPrefix x y → leaf_turn_by e s x v ≡ Some r → leaf_turn_by e s y v ≡ Some r
leaf_turn_same e decided s x y (LeafActs next sends) r b t = t
leaf_turn_same e decided s x y LeafWaits r b t = leaf_take_same e s (e.first (drop s.taken x)) (e.first (drop s.taken y)) r (still e.first decided s.taken x y b) t
leaf_turn_same e decided s x y LeafHalts r b t = t

pub ends_monotone : {H L P : Type 0} (e : Ends H L P) → IsDecided e.first → IsStarMonotone (star_of e)
ends_monotone e decided = (λ s x y r b t. hub_turn_same e decided s x y (e.hub_outlook s.core) r b t, λ s x y r b t. leaf_turn_same e decided s x y (e.leaf_outlook s.core) r b t)

-- Packets in bytes.

pub written_append : {P : Type 0} (write : P → List ℕ) (a b : List P) → written write (a ++ b) ≡ written write a ++ written write b
written_append write [] b = refl
written_append write (m ∷ a) b = ap (λ t. write m ++ t) (written_append write a b) ∙ sym (append_assoc (write m) (written write a) (written write b))

pub drop_front : (xs ys : List ℕ) → drop (length xs) (xs ++ ys) ≡ ys
drop_front [] ys = refl
drop_front (x ∷ xs) ys = drop_front xs ys

unread : {P : Type 0} (write : P → List ℕ) (old new : List P) → drop (length (written write old)) (written write (old ++ new)) ≡ written write new
unread write old new = ap (drop (length (written write old))) (written_append write old new) ∙ drop_front (written write old) (written write new)

first_nil : {P : Type 0} (first : List ℕ → Option (P × ℕ)) → IsDecided first → first [] ≡ None
first_nil {P} first decided = go (first []) refl
  where
    go : (r : Option (P × ℕ)) → first [] ≡ r → first [] ≡ None
    go None e = e
    go (Some r) e = let d = decided [] [] r e in absurd (omega arith)

pub mapped_at : {A B : Type 0} (f : A → B) (xs : List A) (p : ℕ) (q : A) (d : B) → slice_get xs p ≡ Some q → get_or (map f xs) p d ≡ f q
mapped_at f [] p q d e = absurd (none-some q e)
mapped_at f (x ∷ xs) zero q d e = ap f (same_Some x q e)
mapped_at f (x ∷ xs) (suc p) q d e = mapped_at f xs p q d e

pub mapped_get : {A B : Type 0} (f : A → B) (xs : List A) (p : ℕ) (q : A) → slice_get xs p ≡ Some q → slice_get (map f xs) p ≡ Some (f q)
mapped_get f [] p q e = absurd (none-some q e)
mapped_get f (x ∷ xs) zero q e = ap (λ t. Some (f t)) (same_Some x q e)
mapped_get f (x ∷ xs) (suc p) q e = mapped_get f xs p q e

-- what a change at p does not touch
pub mapped_kept : {A B : Type 0} (f : A → B) (xs : List A) (p : ℕ) (q q' : A) → slice_get xs p ≡ Some q → f q' ≡ f q → map f (set xs p q') ≡ map f xs
mapped_kept f [] p q q' e same = refl
mapped_kept f (x ∷ xs) zero q q' e same = ap (λ t. t ∷ map f xs) (same ∙ sym (ap f (same_Some x q e)))
mapped_kept f (x ∷ xs) (suc p) q q' e same = ap (λ t. f x ∷ t) (mapped_kept f xs p q q' e same)

same_calm : {H L : Type 0} (core : H) (taken taken' : List ℕ) (leaves leaves' : List (LeafEnd L)) (traffic traffic' : List (List ℕ × List ℕ)) → taken ≡ taken' → leaves ≡ leaves' → traffic ≡ traffic' → ◌≡◌ {A = Calm (HubEnd H) (LeafEnd L)} (record { hub = record { core = core; taken = taken }; leaves = leaves; traffic = traffic }) (record { hub = record { core = core; taken = taken' }; leaves = leaves'; traffic = traffic' })
same_calm core taken taken' leaves leaves' traffic traffic' a b c = λ d. record { hub = record { core = core; taken = a d }; leaves = b d; traffic = c d }

module _ {H L P : Type 0} (e : Ends H L P) (decided : IsDecided e.first) where
  hub_sends : (c : PacketWorld H L P) (next : H) (sends : Option (ℕ × P)) → calm_after_hub (in_bytes e c) (Some (record { core = next; taken = map (link_taken e) c.links }, sends_bytes e sends)) ≡ in_bytes e (record { hub = next; links = links_after_send c sends })
  hub_sends c next None = refl
  hub_sends c next (Some m) = go (slice_get c.links m.0) refl
    where
      go : (o : Option (PacketLink L P)) → slice_get c.links m.0 ≡ o → calm_after_hub (in_bytes e c) (Some (record { core = next; taken = map (link_taken e) c.links }, Some (m.0, e.write m.1))) ≡ in_bytes e (record { hub = next; links = with_packet c.links m.0 m.1 o })
      go None t = same_calm next _ _ _ _ _ _ refl refl (set_past (map (link_traffic e) c.links) m.0 _ (subst (λ k. k ≤ m.0) (sym (length-map c.links (link_traffic e))) (none_past c.links m.0 t)))
      go (Some q) t =
          let q' : PacketLink L P = record { leaf = q.leaf; out_taken = q.out_taken; out_waiting = q.out_waiting ++ m.1 ∷ []; back_taken = q.back_taken; back_waiting = q.back_waiting } in
          same_calm next _ _ _ _ _ _
          (sym (mapped_kept (link_taken e) c.links m.0 q q' t refl))
          (sym (mapped_kept (link_leaf e) c.links m.0 q q' t refl))
          (ap (λ (v : List ℕ × List ℕ). set (map (link_traffic e) c.links) m.0 (v.0 ++ e.write m.1, v.1)) (mapped_at (link_traffic e) c.links m.0 q no_traffic t)
          ∙ ap (λ (v : List ℕ). set (map (link_traffic e) c.links) m.0 (v, written e.write (q.back_taken ++ q.back_waiting)))
          (ap (λ t. written e.write (q.out_taken ++ q.out_waiting) ++ t) (sym (append-nil (e.write m.1))) ∙ sym (written_append e.write (q.out_taken ++ q.out_waiting) (m.1 ∷ [])) ∙ ap (written e.write) (append_assoc q.out_taken q.out_waiting (m.1 ∷ [])))
          ∙ sym (map-set (link_traffic e) c.links m.0 q'))

  -- what is first behind what was taken
  pub next_is : (old : List P) (m : P) (rest : List P) → IsReadBack e.first e.write m → e.first (drop (length (written e.write old)) (written e.write (old ++ m ∷ rest))) ≡ Some (m, length (e.write m))
  next_is old m rest back = ap e.first (unread e.write old (m ∷ rest)) ∙ back (written e.write rest)

  pub none_is : (old : List P) → e.first (drop (length (written e.write old)) (written e.write (old ++ []))) ≡ None
  none_is old = ap e.first (unread e.write old []) ∙ first_nil e.first decided

  pub longer : (old : List P) (m : P) → length (written e.write old) + length (e.write m) ≡ length (written e.write (old ++ m ∷ []))
  longer old m =
      let a : length (written e.write (old ++ m ∷ [])) ≡ length (written e.write old) + length (e.write m ++ []) = ap length (written_append e.write old (m ∷ [])) ∙ length-append (written e.write old) (e.write m ++ []) in
      let b : length (e.write m ++ []) ≡ length (e.write m) = ap length (append-nil (e.write m)) in
      omega arith

  hub_waits : (c : PacketWorld H L P) (p : ℕ) → ((q : PacketLink L P) (m : P) (rest : List P) → slice_get c.links p ≡ Some q → q.back_waiting ≡ m ∷ rest → IsReadBack e.first e.write m) → calm_after_hub (in_bytes e c) (hub_turn_by e (in_bytes e c).hub (λ a. (traffic_at (map (link_traffic e) c.links) a).1) (HubWaits p)) ≡ in_bytes e (hub_waits_on e c p (slice_get c.links p))
  hub_waits c p good = go (slice_get c.links p) refl
    where
      taken_is : (q : PacketLink L P) → slice_get c.links p ≡ Some q → get_or (map (link_taken e) c.links) p 0 ≡ length (written e.write q.back_taken)
      taken_is q t = mapped_at (link_taken e) c.links p q 0 t

      back_is : (q : PacketLink L P) → slice_get c.links p ≡ Some q → (traffic_at (map (link_traffic e) c.links) p).1 ≡ written e.write (q.back_taken ++ q.back_waiting)
      back_is q t = ap (λ (v : List ℕ × List ℕ). v.1) (mapped_at (link_traffic e) c.links p q no_traffic t)

      delivered : (q : PacketLink L P) (ms : List P) → slice_get c.links p ≡ Some q → q.back_waiting ≡ ms → calm_after_hub (in_bytes e c) (hub_after_take e (in_bytes e c).hub p (e.first (drop (get_or (map (link_taken e) c.links) p 0) (traffic_at (map (link_traffic e) c.links) p).1))) ≡ in_bytes e (hub_takes e c p q ms)
      delivered q [] t f = ap (λ r. calm_after_hub (in_bytes e c) (hub_after_take e (in_bytes e c).hub p r)) (ap₂ (λ (k : ℕ) (v : List ℕ). e.first (drop k v)) (taken_is q t) (back_is q t ∙ ap (λ (ms : List P). written e.write (q.back_taken ++ ms)) f) ∙ none_is q.back_taken)
      delivered q (m ∷ rest) t f =
          let q' : PacketLink L P = record { leaf = q.leaf; out_taken = q.out_taken; out_waiting = q.out_waiting; back_taken = q.back_taken ++ m ∷ []; back_waiting = rest } in
          ap (λ r. calm_after_hub (in_bytes e c) (hub_after_take e (in_bytes e c).hub p r)) (ap₂ (λ (k : ℕ) (v : List ℕ). e.first (drop k v)) (taken_is q t) (back_is q t ∙ ap (λ (ms : List P). written e.write (q.back_taken ++ ms)) f) ∙ next_is q.back_taken m rest (good q m rest t f))
          ∙ same_calm (e.hub_take c.hub p m) _ _ _ _ _ _
          (ap (λ k. set (map (link_taken e) c.links) p k) (ap (λ k. k + length (e.write m)) (taken_is q t) ∙ longer q.back_taken m) ∙ sym (map-set (link_taken e) c.links p q'))
          (sym (mapped_kept (link_leaf e) c.links p q q' t refl))
          (sym (mapped_kept (link_traffic e) c.links p q q' t (ap (λ (v : List P). (written e.write (q.out_taken ++ q.out_waiting), written e.write v)) (append_assoc q.back_taken (m ∷ []) rest ∙ ap (λ (ms : List P). q.back_taken ++ ms) (sym f)))))

      go : (o : Option (PacketLink L P)) → slice_get c.links p ≡ o → calm_after_hub (in_bytes e c) (hub_after_take e (in_bytes e c).hub p (e.first (drop (get_or (map (link_taken e) c.links) p 0) (traffic_at (map (link_traffic e) c.links) p).1))) ≡ in_bytes e (hub_waits_on e c p o)
      go (Some q) t = delivered q q.back_waiting t refl
      go None t =
          let past : length (map (link_traffic e) c.links) ≤ p = subst (λ k. k ≤ p) (sym (length-map c.links (link_traffic e))) (none_past c.links p t) in
          let past' : length (map (link_taken e) c.links) ≤ p = subst (λ k. k ≤ p) (sym (length-map c.links (link_taken e))) (none_past c.links p t) in
          ap (λ r. calm_after_hub (in_bytes e c) (hub_after_take e (in_bytes e c).hub p r)) (ap₂ (λ (k : ℕ) (v : List ℕ × List ℕ). e.first (drop k v.1)) (get_or_past (map (link_taken e) c.links) p 0 past') (get_or_past (map (link_traffic e) c.links) p no_traffic past) ∙ first_nil e.first decided)

  hub_in_packets : (c : PacketWorld H L P) (v : HubOutlook H P) → ((p : ℕ) → v ≡ HubWaits p → (q : PacketLink L P) (m : P) (rest : List P) → slice_get c.links p ≡ Some q → q.back_waiting ≡ m ∷ rest → IsReadBack e.first e.write m) → calm_after_hub (in_bytes e c) (hub_turn_by e (in_bytes e c).hub (λ a. (traffic_at (map (link_traffic e) c.links) a).1) v) ≡ in_bytes e (hub_packet_move e c v)
  hub_in_packets c (HubActs next sends) good = hub_sends c next sends
  hub_in_packets c (HubWaits p) good = hub_waits c p (good p refl)
  hub_in_packets c HubHalts good = refl

  -- a leaf that moved
  leaf_update : (c : PacketWorld H L P) (p : ℕ) (q q' : PacketLink L P) (bytes : List ℕ) → slice_get c.links p ≡ Some q → link_taken e q' ≡ link_taken e q → (link_traffic e q').0 ≡ (link_traffic e q).0 → (link_traffic e q').1 ≡ (link_traffic e q).1 ++ bytes → calm_after_leaf (in_bytes e c) p (Some (link_leaf e q', bytes)) ≡ in_bytes e (record { hub = c.hub; links = set c.links p q' })
  leaf_update c p q q' bytes t same out back = same_calm c.hub _ _ _ _ _ _
      (sym (mapped_kept (link_taken e) c.links p q q' t same))
      (sym (map-set (link_leaf e) c.links p q'))
      (ap (λ (v : List ℕ × List ℕ). set (map (link_traffic e) c.links) p (v.0, v.1 ++ bytes)) (mapped_at (link_traffic e) c.links p q no_traffic t)
      ∙ ap₂ (λ (a b : List ℕ). set (map (link_traffic e) c.links) p (a, b)) (sym out) (sym back)
      ∙ sym (map-set (link_traffic e) c.links p q'))

  more_back : (q : PacketLink L P) (ms : List P) → written e.write (q.back_taken ++ (q.back_waiting ++ ms)) ≡ written e.write (q.back_taken ++ q.back_waiting) ++ written e.write ms
  more_back q ms = ap (written e.write) (sym (append_assoc q.back_taken q.back_waiting ms)) ∙ written_append e.write (q.back_taken ++ q.back_waiting) ms

  leaf_in_packets : (c : PacketWorld H L P) (p : ℕ) (q : PacketLink L P) → slice_get c.links p ≡ Some q → (v : LeafOutlook L P) → ((m : P) (rest : List P) → q.out_waiting ≡ m ∷ rest → IsReadBack e.first e.write m) → calm_after_leaf (in_bytes e c) p (leaf_turn_by e (link_leaf e q) (traffic_at (map (link_traffic e) c.links) p).0 v) ≡ in_bytes e (leaf_packet_move e c p q v)
  leaf_in_packets c p q t (LeafActs next sends) good = leaf_update c p q (record { leaf = next; out_taken = q.out_taken; out_waiting = q.out_waiting; back_taken = q.back_taken; back_waiting = q.back_waiting ++ sends }) (written e.write sends) t refl refl (more_back q sends)
  leaf_in_packets c p q t LeafHalts good = refl
  leaf_in_packets c p q t LeafWaits good = delivered q.out_waiting refl
    where
      out_is : (traffic_at (map (link_traffic e) c.links) p).0 ≡ written e.write (q.out_taken ++ q.out_waiting)
      out_is = ap (λ (v : List ℕ × List ℕ). v.0) (mapped_at (link_traffic e) c.links p q no_traffic t)

      delivered : (ms : List P) → q.out_waiting ≡ ms → calm_after_leaf (in_bytes e c) p (leaf_after_take e (link_leaf e q) (e.first (drop (length (written e.write q.out_taken)) (traffic_at (map (link_traffic e) c.links) p).0))) ≡ in_bytes e (leaf_takes e c p q ms)
      delivered [] f = ap (λ r. calm_after_leaf (in_bytes e c) p (leaf_after_take e (link_leaf e q) r)) (ap (λ (v : List ℕ). e.first (drop (length (written e.write q.out_taken)) v)) (out_is ∙ ap (λ (ms : List P). written e.write (q.out_taken ++ ms)) f) ∙ none_is q.out_taken)
      delivered (m ∷ rest) f =
          let q' : PacketLink L P = record { leaf = (e.leaf_take q.leaf m).0; out_taken = q.out_taken ++ m ∷ []; out_waiting = rest; back_taken = q.back_taken; back_waiting = q.back_waiting ++ (e.leaf_take q.leaf m).1 } in
          ap (λ r. calm_after_leaf (in_bytes e c) p (leaf_after_take e (link_leaf e q) r)) (ap (λ (v : List ℕ). e.first (drop (length (written e.write q.out_taken)) v)) (out_is ∙ ap (λ (ms : List P). written e.write (q.out_taken ++ ms)) f) ∙ next_is q.out_taken m rest (good m rest f))
          ∙ ap (λ k. calm_after_leaf (in_bytes e c) p (Some (record { core = (e.leaf_take q.leaf m).0; taken = k }, written e.write (e.leaf_take q.leaf m).1))) (longer q.out_taken m)
          ∙ leaf_update c p q q' (written e.write (e.leaf_take q.leaf m).1) t refl (ap (written e.write) (append_assoc q.out_taken (m ∷ []) rest ∙ ap (λ (ms : List P). q.out_taken ++ ms) (sym f))) (more_back q (e.leaf_take q.leaf m).1)

  -- A move of packets is a move of bytes.
  pub packet_move : (c : PacketWorld H L P) → IsReadable e c → (m : Move) → calm_after (star_of e) (in_bytes e c) m ≡ in_bytes e (packets_after e c m)
  packet_move c good HubMoves = hub_in_packets c (e.hub_outlook c.hub) (λ p _ q m rest t f. good p q m rest t (inr f))
  packet_move c good (LeafMoves p) = go (slice_get c.links p) refl
    where
      go : (o : Option (PacketLink L P)) → slice_get c.links p ≡ o → calm_after_leaf (in_bytes e c) p (calm_leaf_turn (star_of e) (in_bytes e c) p) ≡ in_bytes e (packet_move_at e c p o)
      go None t = ap (λ (o : Option (LeafEnd L)). calm_after_leaf (in_bytes e c) p (leaf_turn_of (star_of e) o (traffic_at (map (link_traffic e) c.links) p).0)) (slice_get-map (link_leaf e) c.links p ∙ ap (option_map (link_leaf e)) t)
      go (Some q) t =
          ap (λ (o : Option (LeafEnd L)). calm_after_leaf (in_bytes e c) p (leaf_turn_of (star_of e) o (traffic_at (map (link_traffic e) c.links) p).0)) (mapped_get (link_leaf e) c.links p q t)
          ∙ leaf_in_packets c p q t (e.leaf_outlook q.leaf) (λ m rest f. good p q m rest t (inl f))

  pub packets_in_bytes : (c : PacketWorld H L P) (ms : List Move) → AllReadable e c ms → calm_all (star_of e) (in_bytes e c) ms ≡ in_bytes e (packets_all e c ms)
  packets_in_bytes c [] good = refl
  packets_in_bytes c (m ∷ ms) good = ap (λ v. calm_all (star_of e) v ms) (packet_move c good.0 m) ∙ packets_in_bytes (packets_after e c m) ms good.1

  -- The counts of turns agree.
  hub_count_is : (c : PacketWorld H L P) (v : HubOutlook H P) → ((p : ℕ) → v ≡ HubWaits p → (q : PacketLink L P) (m : P) (rest : List P) → slice_get c.links p ≡ Some q → q.back_waiting ≡ m ∷ rest → IsReadBack e.first e.write m) → one_if_some (hub_turn_by e (in_bytes e c).hub (λ a. (traffic_at (map (link_traffic e) c.links) a).1) v) ≡ hub_count c v
  hub_count_is c (HubActs next sends) good = refl
  hub_count_is c HubHalts good = refl
  hub_count_is c (HubWaits p) good = go (slice_get c.links p) refl
    where
      found : Option (P × ℕ)
      found = e.first (drop (get_or (map (link_taken e) c.links) p 0) (traffic_at (map (link_traffic e) c.links) p).1)

      of : (q : PacketLink L P) (ms : List P) → slice_get c.links p ≡ Some q → q.back_waiting ≡ ms → found ≡ e.first (drop (length (written e.write q.back_taken)) (written e.write (q.back_taken ++ ms)))
      of q ms t f = ap₂ (λ (k : ℕ) (v : List ℕ). e.first (drop k v)) (mapped_at (link_taken e) c.links p q 0 t) (ap (λ (v : List ℕ × List ℕ). v.1) (mapped_at (link_traffic e) c.links p q no_traffic t) ∙ ap (λ (ms : List P). written e.write (q.back_taken ++ ms)) f)

      delivered : (q : PacketLink L P) (ms : List P) → slice_get c.links p ≡ Some q → q.back_waiting ≡ ms → one_if_some (hub_after_take e (in_bytes e c).hub p found) ≡ waiting_count ms
      delivered q [] t f = ap (λ r. one_if_some (hub_after_take e (in_bytes e c).hub p r)) (of q [] t f ∙ none_is q.back_taken)
      delivered q (m ∷ rest) t f = ap (λ r. one_if_some (hub_after_take e (in_bytes e c).hub p r)) (of q (m ∷ rest) t f ∙ next_is q.back_taken m rest (good p refl q m rest t f))

      go : (o : Option (PacketLink L P)) → slice_get c.links p ≡ o → one_if_some (hub_after_take e (in_bytes e c).hub p found) ≡ back_count o
      go (Some q) t = delivered q q.back_waiting t refl
      go None t =
          let past : length (map (link_traffic e) c.links) ≤ p = subst (λ k. k ≤ p) (sym (length-map c.links (link_traffic e))) (none_past c.links p t) in
          let past' : length (map (link_taken e) c.links) ≤ p = subst (λ k. k ≤ p) (sym (length-map c.links (link_taken e))) (none_past c.links p t) in
          ap (λ r. one_if_some (hub_after_take e (in_bytes e c).hub p r)) (ap₂ (λ (k : ℕ) (v : List ℕ × List ℕ). e.first (drop k v.1)) (get_or_past (map (link_taken e) c.links) p 0 past') (get_or_past (map (link_traffic e) c.links) p no_traffic past) ∙ first_nil e.first decided)

  leaf_count_is : (c : PacketWorld H L P) (p : ℕ) (q : PacketLink L P) → slice_get c.links p ≡ Some q → (v : LeafOutlook L P) → ((m : P) (rest : List P) → q.out_waiting ≡ m ∷ rest → IsReadBack e.first e.write m) → one_if_some (leaf_turn_by e (link_leaf e q) (traffic_at (map (link_traffic e) c.links) p).0 v) ≡ leaf_count q v
  leaf_count_is c p q t (LeafActs next sends) good = refl
  leaf_count_is c p q t LeafHalts good = refl
  leaf_count_is c p q t LeafWaits good = delivered q.out_waiting refl
    where
      of : (ms : List P) → q.out_waiting ≡ ms → e.first (drop (length (written e.write q.out_taken)) (traffic_at (map (link_traffic e) c.links) p).0) ≡ e.first (drop (length (written e.write q.out_taken)) (written e.write (q.out_taken ++ ms)))
      of ms f = ap (λ (v : List ℕ). e.first (drop (length (written e.write q.out_taken)) v)) (ap (λ (v : List ℕ × List ℕ). v.0) (mapped_at (link_traffic e) c.links p q no_traffic t) ∙ ap (λ (ms : List P). written e.write (q.out_taken ++ ms)) f)

      delivered : (ms : List P) → q.out_waiting ≡ ms → one_if_some (leaf_after_take e (link_leaf e q) (e.first (drop (length (written e.write q.out_taken)) (traffic_at (map (link_traffic e) c.links) p).0))) ≡ waiting_count ms
      delivered [] f = ap (λ r. one_if_some (leaf_after_take e (link_leaf e q) r)) (of [] f ∙ none_is q.out_taken)
      delivered (m ∷ rest) f = ap (λ r. one_if_some (leaf_after_take e (link_leaf e q) r)) (of (m ∷ rest) f ∙ next_is q.out_taken m rest (good m rest f))

  pub one_count : (c : PacketWorld H L P) → IsReadable e c → (m : Move) → one_move (star_of e) (in_bytes e c) m ≡ one_packet_move e c m
  one_count c good HubMoves = hub_count_is c (e.hub_outlook c.hub) (λ p _ q m rest t f. good p q m rest t (inr f))
  one_count c good (LeafMoves p) = go (slice_get c.links p) refl
    where
      go : (o : Option (PacketLink L P)) → slice_get c.links p ≡ o → one_if_some (calm_leaf_turn (star_of e) (in_bytes e c) p) ≡ leaf_count_at e o
      go None t = ap (λ (o : Option (LeafEnd L)). one_if_some (leaf_turn_of (star_of e) o (traffic_at (map (link_traffic e) c.links) p).0)) (slice_get-map (link_leaf e) c.links p ∙ ap (option_map (link_leaf e)) t)
      go (Some q) t =
          ap (λ (o : Option (LeafEnd L)). one_if_some (leaf_turn_of (star_of e) o (traffic_at (map (link_traffic e) c.links) p).0)) (mapped_get (link_leaf e) c.links p q t)
          ∙ leaf_count_is c p q t (e.leaf_outlook q.leaf) (λ m rest f. good p q m rest t (inl f))

  pub turns_in_bytes : (c : PacketWorld H L P) (ms : List Move) → AllReadable e c ms → moves_taken (star_of e) (in_bytes e c) ms ≡ packet_turns e c ms
  turns_in_bytes c [] good = refl
  turns_in_bytes c (m ∷ ms) good = ap₂ ◌+◌ (one_count c good.0 m) (ap (λ v. moves_taken (star_of e) v ms) (packet_move c good.0 m) ∙ turns_in_bytes (packets_after e c m) ms good.1)

  -- So do those of one leaf.
  pub leaf_turns_in_bytes : (c : PacketWorld H L P) (p : ℕ) (ms : List Move) → AllReadable e c ms → leaf_moves_taken (star_of e) (in_bytes e c) p ms ≡ packet_leaf_turns e c p ms
  leaf_turns_in_bytes c p [] good = refl
  leaf_turns_in_bytes c p (HubMoves ∷ ms) good = ap (λ t. 0 + t) (ap (λ v. leaf_moves_taken (star_of e) v p ms) (packet_move c good.0 HubMoves) ∙ leaf_turns_in_bytes (packets_after e c HubMoves) p ms good.1)
  leaf_turns_in_bytes c p (LeafMoves q ∷ ms) good = ap₂ (λ (a b : ℕ). (if q == p then a else 0) + b) (one_count c good.0 (LeafMoves q)) (ap (λ v. leaf_moves_taken (star_of e) v p ms) (packet_move c good.0 (LeafMoves q)) ∙ leaf_turns_in_bytes (packets_after e c (LeafMoves q)) p ms good.1)

  -- A run that is over is at rest.
  pub over_rests : (c : PacketWorld H L P) → IsOver e c → IsAtRest (star_of e) (in_bytes e c)
  over_rests c over = record {
    hub = ap (hub_turn_by e (in_bytes e c).hub (λ a. (traffic_at (map (link_traffic e) c.links) a).1)) over.hub;
    leaf = λ p. go p (slice_get c.links p) refl;
  }
    where
      go : (p : ℕ) (o : Option (PacketLink L P)) → slice_get c.links p ≡ o → calm_leaf_turn (star_of e) (in_bytes e c) p ≡ None
      go p None t = ap (λ (o : Option (LeafEnd L)). leaf_turn_of (star_of e) o (traffic_at (map (link_traffic e) c.links) p).0) (slice_get-map (link_leaf e) c.links p ∙ ap (option_map (link_leaf e)) t)
      go p (Some q) t =
          ap (λ (o : Option (LeafEnd L)). leaf_turn_of (star_of e) o (traffic_at (map (link_traffic e) c.links) p).0) (mapped_get (link_leaf e) c.links p q t)
          ∙ ⊎_elim
          (λ w. ap (leaf_turn_by e (link_leaf e q) (traffic_at (map (link_traffic e) c.links) p).0) w
          ∙ ap (λ (v : List ℕ). leaf_after_take e (link_leaf e q) (e.first (drop (length (written e.write q.out_taken)) v))) (ap (λ (v : List ℕ × List ℕ). v.0) (mapped_at (link_traffic e) c.links p q no_traffic t) ∙ ap (λ (ms : List P). written e.write (q.out_taken ++ ms)) (over.out p q t))
          ∙ ap (leaf_after_take e (link_leaf e q)) (none_is q.out_taken))
          (λ w. ap (leaf_turn_by e (link_leaf e q) (traffic_at (map (link_traffic e) c.links) p).0) w)
          (over.leaf p q t)

  pub start_in_bytes : (hub : H) (leaves : List L) → calm_start (fresh_hub hub (length leaves)) (map fresh_leaf leaves) ≡ in_bytes e (packets_start hub leaves)
  start_in_bytes hub leaves = same_calm hub _ _ _ _ _ _ (zeros leaves) (ends leaves) (ap (λ n. replicate n no_traffic) (length-map leaves fresh_leaf) ∙ nothing leaves)
    where
      zeros : (ls : List L) → replicate (length ls) 0 ≡ map (link_taken e) (map fresh_link ls)
      zeros [] = refl
      zeros (l ∷ ls) = ap (λ t. 0 ∷ t) (zeros ls)

      ends : (ls : List L) → map fresh_leaf ls ≡ map (link_leaf e) (map fresh_link ls)
      ends [] = refl
      ends (l ∷ ls) = ap (λ t. fresh_leaf l ∷ t) (ends ls)

      nothing : (ls : List L) → replicate (length ls) no_traffic ≡ map (link_traffic e) (map fresh_link ls)
      nothing [] = refl
      nothing (l ∷ ls) = ap (λ t. no_traffic ∷ t) (nothing ls)

  -- Where the run ends, in bytes, nothing can move.
  pub packet_run_ends : (hub : H) (leaves : List L) (moves : List Move) → AllReadable e (packets_start hub leaves) moves → calm_all (star_of e) (calm_start (fresh_hub hub (length leaves)) (map fresh_leaf leaves)) moves ≡ in_bytes e (packets_all e (packets_start hub leaves) moves)
  packet_run_ends hub leaves moves good = ap (λ c. calm_all (star_of e) c moves) (start_in_bytes hub leaves) ∙ packets_in_bytes (packets_start hub leaves) moves good

  pub packet_run_rests : (hub : H) (leaves : List L) (moves : List Move) → AllReadable e (packets_start hub leaves) moves → IsOver e (packets_all e (packets_start hub leaves) moves) → IsAtRest (star_of e) (calm_all (star_of e) (calm_start (fresh_hub hub (length leaves)) (map fresh_leaf leaves)) moves)
  packet_run_rests hub leaves moves good over = subst (λ c. IsAtRest (star_of e) c) (sym (packet_run_ends hub leaves moves good)) (over_rests (packets_all e (packets_start hub leaves) moves) over)

  -- The theorem on every schedule, from a run of packets.
  pub every_packet_run : (hub : H) (leaves : List L) (moves : List Move) → AllReadable e (packets_start hub leaves) moves → IsOver e (packets_all e (packets_start hub leaves) moves) → IsCalmResult (star_of e) (fresh_hub hub (length leaves)) (map fresh_leaf leaves) moves (in_bytes e (packets_all e (packets_start hub leaves) moves))
  every_packet_run hub leaves moves good over =
      let ends = ap (λ c. calm_all (star_of e) c moves) (start_in_bytes hub leaves) ∙ packets_in_bytes (packets_start hub leaves) moves good in
      subst (λ c. IsCalmResult (star_of e) (fresh_hub hub (length leaves)) (map fresh_leaf leaves) moves c) ends
      (every_calm (star_of e) (ends_monotone e decided) (fresh_hub hub (length leaves)) (map fresh_leaf leaves) moves
      (subst (λ c. IsAtRest (star_of e) c) (sym ends) (over_rests (packets_all e (packets_start hub leaves) moves) over)))
