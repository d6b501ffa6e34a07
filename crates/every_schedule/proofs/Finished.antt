-- When the machine end is done, all is at its end.
use Rattle.std.proofs.Common.{◌≡◌, ℕ, zero, suc, ◌<◌, List, [], ◌∷◌, ◌++◌, length, map, get_or, Some, None, slice_get, refl, sym, ap, ◌∙◌, subst}
use Rattle.std.proofs.lemmas.List.{append-nil}
use Rattle.std.proofs.lemmas.Option.{none-some, same_Some}
use Rattle.process_network.specs.Star.{IsStarMonotone, StarStep, Cursors}
use Rattle.process_network.specs.Network.{Streams}
use Rattle.process_network.specs.CalmRun.{Calm, all_delivered, traffic_at, no_traffic, calm_all, calm_start, EndsBySending}
use Rattle.process_network.specs.PacketStar.{Ends, HubEnd, LeafEnd, PacketLink, star_of, written, in_bytes, link_traffic, link_leaf, link_taken, hub_turn_by}
use Rattle.process_network.proofs.CalmRuns.{halted_calm}
use Rattle.process_network.proofs.PacketCursors.{packet_cursors}
use Rattle.process_network.proofs.PacketRuns.{ends_monotone}
use Rattle.cosim_model.specs.Parts.{DeviceModel, MasterModel, IsDevice, IsMaster}
use Rattle.cosim_model.specs.Packets.{Decoded, Codec, IsCodec}
use Rattle.ends_model.specs.DeviceTurn.{DeviceEnd}
use Rattle.cosim_model.specs.declared.values.Plan.{Plan}
use Rattle.ends_model.specs.MachineTurn.{MachineEnd}
use Rattle.ends_model.specs.declared.ends.Phase.TheVariants.{Done}
use Rattle.ends_model.specs.World.{Side}
use Rattle.ends_model.specs.World.{ends, machine_start, Fit, world}
use Rattle.every_schedule.specs.Mirror.{post_of}
use Rattle.every_schedule.specs.Schedules.{IsEnd, IsDelivered, IsEverySchedule}
use Rattle.every_schedule.proofs.Lists.{unmapped, each_at}
use Rattle.every_schedule.proofs.Whole.{IsSpent}
use Rattle.every_schedule.proofs.Greeting.{leaves_of}
use Rattle.every_schedule.proofs.Headline.{hub_start, leaf_starts, run_moves, run_rests, run_ends, last, ran, mirrored, unread_none}
use Rattle.every_schedule.proofs.Schedules.{schedules, no_fault, final_is_end, final_delivered}
use Rattle.every_schedule.proofs.EndsSending.{each_ends}
use Rattle.every_schedule.proofs.Outlooks.{machine_looks, phase_outlook}

module _ {M S F : Type 0} (k : MasterModel M) (d : DeviceModel S) (codec : Codec F) (plan : Plan) (laws : IsDevice d) (laws' : IsMaster k) (coded : IsCodec codec) (m : M) (xs : List (Side × S)) (fit : Fit k d plan m xs) where
  abbrev e : Ends (MachineEnd M F) (DeviceEnd S F) (Decoded F)
  e = ends k d codec

  abbrev final : Calm (HubEnd (MachineEnd M F)) (LeafEnd (DeviceEnd S F))
  final = in_bytes e (last k d codec plan laws laws' coded m xs fit)

  abbrev links : List (PacketLink (DeviceEnd S F) (Decoded F))
  links = (last k d codec plan laws laws' coded m xs fit).links

  abbrev hub0 : HubEnd (MachineEnd M F)
  hub0 = hub_start k d codec plan laws laws' coded m xs fit

  abbrev leaves0 : List (LeafEnd (DeviceEnd S F))
  leaves0 = leaf_starts k d codec plan laws laws' coded m xs fit

  steady : IsStarMonotone (star_of e)
  steady = ends_monotone e coded.decided

  abbrev cursors : Cursors (star_of e) hub0 leaves0
  cursors = packet_cursors e coded.decided (machine_start F m (length xs) plan) (length (leaves_of k d codec plan xs)) (leaves_of k d codec plan xs)

  nothing_unread : (p : ℕ) (q : PacketLink (DeviceEnd S F) (Decoded F)) → slice_get links p ≡ Some q → q.back_waiting ≡ []
  nothing_unread p q g =
      let u = unmapped (post_of F d) (ran k d codec plan laws laws' coded m xs fit).devices p q g in
      ap (λ (q : PacketLink (DeviceEnd S F) (Decoded F)). q.back_waiting) (sym u.2) ∙ unread_none k d codec plan laws laws' coded m xs fit u.0 (each_at (IsSpent k d codec plan laws laws') (ran k d codec plan laws laws' coded m xs fit).devices p u.0 (mirrored k d codec plan laws laws' coded m xs fit).1 u.1)

  out_none : (p : ℕ) (q : PacketLink (DeviceEnd S F) (Decoded F)) → slice_get links p ≡ Some q → q.out_waiting ≡ []
  out_none p q g =
      let u = unmapped (post_of F d) (ran k d codec plan laws laws' coded m xs fit).devices p q g in
      ap (λ (q : PacketLink (DeviceEnd S F) (Decoded F)). q.out_waiting) (sym u.2)

  -- all was taken
  hub_all_of : (qs : List (PacketLink (DeviceEnd S F) (Decoded F))) (p : ℕ) → ((q : PacketLink (DeviceEnd S F) (Decoded F)) → slice_get qs p ≡ Some q → q.back_waiting ≡ []) → get_or (map (link_taken e) qs) p 0 ≡ length (get_or (map (link_traffic e) qs) p no_traffic).1
  hub_all_of [] p h = refl
  hub_all_of (q ∷ qs) zero h = ap (λ (ms : List (Decoded F)). length (written e.write ms)) (sym (ap (λ (ms : List (Decoded F)). q.back_taken ++ ms) (h q refl) ∙ append-nil q.back_taken))
  hub_all_of (q ∷ qs) (suc p) h = hub_all_of qs p h

  leaf_all_of : (qs : List (PacketLink (DeviceEnd S F) (Decoded F))) (p : ℕ) (l : LeafEnd (DeviceEnd S F)) → ((q : PacketLink (DeviceEnd S F) (Decoded F)) → slice_get qs p ≡ Some q → q.out_waiting ≡ []) → slice_get (map (link_leaf e) qs) p ≡ Some l → l.taken ≡ length (get_or (map (link_traffic e) qs) p no_traffic).0
  leaf_all_of [] p l h g = absurd (none-some l g)
  leaf_all_of (q ∷ qs) zero l h g = ap (λ (l : LeafEnd (DeviceEnd S F)). l.taken) (sym (same_Some (link_leaf e q) l g)) ∙ ap (λ (ms : List (Decoded F)). length (written e.write ms)) (sym (ap (λ (ms : List (Decoded F)). q.out_taken ++ ms) (h q refl) ∙ append-nil q.out_taken))
  leaf_all_of (q ∷ qs) (suc p) l h g = leaf_all_of qs p l h g

  abbrev Tidy : Calm (HubEnd (MachineEnd M F)) (LeafEnd (DeviceEnd S F)) → Type 0
  Tidy c = ((p : ℕ) → get_or c.hub.taken p 0 ≡ length (traffic_at c.traffic p).1) × ((p : ℕ) (l : LeafEnd (DeviceEnd S F)) → slice_get c.leaves p ≡ Some l → l.taken ≡ length (traffic_at c.traffic p).0)

  all_taken : Tidy (calm_all (star_of e) (calm_start hub0 leaves0) (run_moves k d codec plan laws laws' coded m xs fit))
  all_taken = subst Tidy (sym (run_ends k d codec plan laws laws' coded m xs fit)) ((λ p. hub_all_of links p (λ q g. nothing_unread p q g)), (λ p l g. leaf_all_of links p l (λ q g. out_none p q g) g))

  -- Each device's last move sends.
  abbrev pub EachEndsBySending : Type 0
  EachEndsBySending = (p : ℕ) → p < length leaves0 → EndsBySending (star_of e) hub0 leaves0 (run_moves k d codec plan laws laws' coded m xs fit) p

  done_halts : (ss : List StarStep) → (world k d codec plan m xs ss).hub.core.phase ≡ Done → (x : Streams) → (star_of e).hub_turn (world k d codec plan m xs ss).hub x ≡ None
  done_halts ss f x =
      ap (λ o. hub_turn_by e (world k d codec plan m xs ss).hub x (machine_looks k (world k d codec plan m xs ss).hub.core o)) (no_fault k d codec plan laws laws' coded m xs fit ss)
      ∙ ap (λ ph. hub_turn_by e (world k d codec plan m xs ss).hub x (phase_outlook k (world k d codec plan m xs ss).hub.core ph)) f

  pub done_is_end : EachEndsBySending → (ss : List StarStep) → (world k d codec plan m xs ss).hub.core.phase ≡ Done → world k d codec plan m xs ss ≡ all_delivered final
  done_is_end each ss f =
      halted_calm (star_of e) steady hub0 leaves0 (run_moves k d codec plan laws laws' coded m xs fit) (run_rests k d codec plan laws laws' coded m xs fit) cursors (record { hub_all = all_taken.0; leaf_all = all_taken.1; ends = each }) ss (done_halts ss f)
      ∙ ap all_delivered (run_ends k d codec plan laws laws' coded m xs fit)

  done_well : (ss : List StarStep) → (world k d codec plan m xs ss).hub.core.phase ≡ Done → IsEnd k d codec plan m xs (world k d codec plan m xs ss) × IsDelivered k d codec plan m xs (world k d codec plan m xs ss)
  done_well ss f =
      let same = done_is_end (each_ends k d codec plan laws laws' coded m xs fit) ss f in (
        subst (IsEnd k d codec plan m xs) (sym same) (final_is_end k d codec plan laws laws' coded m xs fit),
        subst (IsDelivered k d codec plan m xs) (sym same) (final_delivered k d codec plan laws laws' coded m xs fit),
      )

  pub every_schedule : IsEverySchedule k d codec plan m xs
  every_schedule = schedules k d codec plan laws laws' coded m xs fit done_well
