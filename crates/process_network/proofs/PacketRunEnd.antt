-- The end of a run of packets.
use Rattle.std.proofs.Common.{◌≡◌, ℕ, zero, suc, ◌<◌, ◌≤◌, inl, inr, ⊎_elim, List, [], ◌∷◌, ◌++◌, length, get_or, map, Option, Some, None, slice_get, refl, sym, ap, ◌∙◌, subst, append-nil}
use Rattle.std.proofs.lemmas.List.{length-map, get_or_past}
use Rattle.std.proofs.lemmas.Option.{none-some, same_Some}
use Rattle.process_network.specs.PacketProcesses.{IsDecided}
use Rattle.process_network.specs.Star.{StarStep, star_all, star_start}
use Rattle.process_network.specs.CalmRun.{Calm, Move, no_traffic, traffic_at, calm_all, calm_start, IsAtRest, IsHubLast, leaf_moves_taken, all_delivered}
use Rattle.process_network.specs.PacketStar.{Ends, written, HubEnd, LeafEnd, hub_turn_by, star_of, PacketLink, PacketWorld, packets_all, link_leaf, link_traffic, link_taken, in_bytes, AllReadable, packets_start, fresh_hub, fresh_leaf, IsOver, packet_leaf_turns, LeafEndsBySending}
use Rattle.process_network.specs.PacketStar.HubOutlook.{HubHalts}
use Rattle.process_network.proofs.CalmRuns.{halted_calm}
use Rattle.process_network.proofs.HubHalted.{none_past}
use Rattle.process_network.proofs.PacketRuns.{ends_monotone, packets_in_bytes, start_in_bytes, over_rests, mapped_at, mapped_get, leaf_turns_in_bytes}
use Rattle.process_network.proofs.PacketCursors.{packet_cursors}

module _ {H L P : Type 0} (e : Ends H L P) (decided : IsDecided e.first) where
  -- Where each leaf ends by sending, every schedule is at the run's end as soon as the hub has halted.
  pub packets_halted : (hub : H) (leaves : List L) (moves : List Move) → AllReadable e (packets_start hub leaves) moves → IsOver e (packets_all e (packets_start hub leaves) moves) → ((p : ℕ) → p < length leaves → LeafEndsBySending e (packets_start hub leaves) moves p) → (ss : List StarStep) → e.hub_outlook (star_all (star_of e) (star_start (fresh_hub hub (length leaves)) (map fresh_leaf leaves)) ss).hub.core ≡ HubHalts → star_all (star_of e) (star_start (fresh_hub hub (length leaves)) (map fresh_leaf leaves)) ss ≡ all_delivered (in_bytes e (packets_all e (packets_start hub leaves) moves))
  packets_halted hub leaves moves good over ends ss halted =
      halted_calm (star_of e) (ends_monotone e decided) (fresh_hub hub (length leaves)) (map fresh_leaf leaves) moves rest (packet_cursors e decided hub (length leaves) leaves) hub_last ss
      (λ x. ap (hub_turn_by e (star_all (star_of e) (star_start (fresh_hub hub (length leaves)) (map fresh_leaf leaves)) ss).hub x) halted)
      ∙ ap all_delivered run_ends
    where
      c₀ : PacketWorld H L P
      c₀ = packets_start hub leaves

      c : PacketWorld H L P
      c = packets_all e c₀ moves

      from : (ms : List Move) → AllReadable e c₀ ms → calm_all (star_of e) (calm_start (fresh_hub hub (length leaves)) (map fresh_leaf leaves)) ms ≡ in_bytes e (packets_all e c₀ ms)
      from ms g = ap (λ v. calm_all (star_of e) v ms) (start_in_bytes e decided hub leaves) ∙ packets_in_bytes e decided c₀ ms g

      run_ends : calm_all (star_of e) (calm_start (fresh_hub hub (length leaves)) (map fresh_leaf leaves)) moves ≡ in_bytes e c
      run_ends = from moves good

      rest : IsAtRest (star_of e) (calm_all (star_of e) (calm_start (fresh_hub hub (length leaves)) (map fresh_leaf leaves)) moves)
      rest = subst (λ v. IsAtRest (star_of e) v) (sym run_ends) (over_rests e decided c over)

      count : (p : ℕ) (ms : List Move) → AllReadable e c₀ ms → leaf_moves_taken (star_of e) (calm_start (fresh_hub hub (length leaves)) (map fresh_leaf leaves)) p ms ≡ packet_leaf_turns e c₀ p ms
      count p ms g = ap (λ v. leaf_moves_taken (star_of e) v p ms) (start_in_bytes e decided hub leaves) ∙ leaf_turns_in_bytes e decided c₀ p ms g

      hub_at : (p : ℕ) (o : Option (PacketLink L P)) → slice_get c.links p ≡ o → get_or (map (link_taken e) c.links) p 0 ≡ length (traffic_at (map (link_traffic e) c.links) p).1
      hub_at p (Some q) t =
          mapped_at (link_taken e) c.links p q 0 t
          ∙ ap (λ (ms : List P). length (written e.write ms)) (sym (append-nil q.back_taken) ∙ ap (λ (ms : List P). q.back_taken ++ ms) (sym (over.back p q t)))
          ∙ ap (λ (v : List ℕ × List ℕ). length v.1) (sym (mapped_at (link_traffic e) c.links p q no_traffic t))
      hub_at p None t =
          get_or_past (map (link_taken e) c.links) p 0 (subst (λ k. k ≤ p) (sym (length-map c.links (link_taken e))) (none_past c.links p t))
          ∙ ap (λ (v : List ℕ × List ℕ). length v.1) (sym (get_or_past (map (link_traffic e) c.links) p no_traffic (subst (λ k. k ≤ p) (sym (length-map c.links (link_traffic e))) (none_past c.links p t))))

      leaf_at : (p : ℕ) (l : LeafEnd L) (o : Option (PacketLink L P)) → slice_get c.links p ≡ o → slice_get (map (link_leaf e) c.links) p ≡ Some l → l.taken ≡ length (traffic_at (map (link_traffic e) c.links) p).0
      leaf_at p l (Some q) t g =
          ap (λ (v : LeafEnd L). v.taken) (sym (same_Some {A = LeafEnd L} _ l (sym (mapped_get (link_leaf e) c.links p q t) ∙ g)))
          ∙ ap (λ (ms : List P). length (written e.write ms)) (sym (append-nil q.out_taken) ∙ ap (λ (ms : List P). q.out_taken ++ ms) (sym (over.out p q t)))
          ∙ ap (λ (v : List ℕ × List ℕ). length v.0) (sym (mapped_at (link_traffic e) c.links p q no_traffic t))
      leaf_at p l None t g = absurd (none-some {A = LeafEnd L} l (sym (none_mapped c.links p t) ∙ g))
        where
          none_mapped : (xs : List (PacketLink L P)) (p : ℕ) → slice_get xs p ≡ None → slice_get (map (link_leaf e) xs) p ≡ None
          none_mapped [] p t = refl
          none_mapped (x ∷ xs) zero t = absurd (none-some {A = PacketLink L P} x (sym t))
          none_mapped (x ∷ xs) (suc p) t = none_mapped xs p t

      hub_last : IsHubLast (star_of e) (fresh_hub hub (length leaves)) (map fresh_leaf leaves) (packet_cursors e decided hub (length leaves) leaves) moves
      hub_last = record {
        hub_all = λ p. subst (λ (v : Calm (HubEnd H) (LeafEnd L)). get_or v.hub.taken p 0 ≡ length (traffic_at v.traffic p).1) (sym run_ends) (hub_at p (slice_get c.links p) refl);
        leaf_all = λ p l. subst (λ (v : Calm (HubEnd H) (LeafEnd L)). slice_get v.leaves p ≡ Some l → l.taken ≡ length (traffic_at v.traffic p).0) (sym run_ends) (leaf_at p l (slice_get c.links p) refl);
        ends = λ p l. ⊎_elim
            (λ nothing. inl (count p moves good ∙ nothing))
            (λ last. inr (
              last.0,
              count p moves good ∙ last.2 ∙ ap suc (sym (count p last.0 last.1)),
              subst (λ v. length (traffic_at v.traffic p).1 < length (traffic_at (calm_all (star_of e) (calm_start (fresh_hub hub (length leaves)) (map fresh_leaf leaves)) moves).traffic p).1) (sym (from last.0 last.1))
                  (subst (λ v. length (traffic_at (in_bytes e (packets_all e c₀ last.0)).traffic p).1 < length (traffic_at v.traffic p).1) (sym run_ends) last.3),
            ))
            (ends p (subst (λ k. p < k) (length-map leaves fresh_leaf) l));
      }
