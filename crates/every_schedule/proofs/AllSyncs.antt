-- All syncs of a boundary.
use Rattle.std.proofs.Common.{◌≡◌, ℕ, suc, ◌+◌, ◌<◌, Bool, true, false, List, [], ◌∷◌, ◌++◌, length, set, map, Some, slice_get, refl, sym, ap, ap₂, ◌∙◌, subst, arith}
use Rattle.std.specs.Prelude.{nat_lt}
use Rattle.std.proofs.lemmas.List.{map-set, length-map}
use Rattle.std.proofs.lemmas.Bool.{le-ltb, lt-ltb}
use Rattle.std.proofs.lemmas.List.{length-append, append_assoc}
use Rattle.std.proofs.lemmas.Option.{slice_get_within}
use Rattle.process_network.specs.PacketStar.{PacketWorld}
use Rattle.process_network.proofs.MovesAtPort.{get_set, focus}
use Rattle.cosim_model.specs.declared.values.Call.{Call}
use Rattle.cosim_model.specs.Parts.{DeviceModel, MasterModel, IsDevice}
use Rattle.cosim_model.specs.Packets.{Decoded, Codec}
use Rattle.ends_model.specs.DeviceTurn.{DeviceEnd}
use Rattle.ends_model.specs.declared.ends.Phase.{Phase}
use Rattle.cosim_model.specs.declared.values.Plan.{Plan}
use Rattle.ends_model.specs.MachineTurn.{MachineEnd, with_wait}
use Rattle.ends_model.specs.declared.ends.Phase.TheVariants.{SyncTo, Gather}
use Rattle.every_schedule.specs.Wires.{Wire}
use Rattle.ends_model.specs.World.{ends}
use Rattle.every_schedule.specs.Mirror.{port_of, post_of}
use Rattle.every_schedule.proofs.Lists.{map_both, get_mid, set_mid, get_mapped, Each}
use Rattle.every_schedule.proofs.AtPort.{IsFine}
use Rattle.every_schedule.proofs.Syncs.{state, enter, leave, synced_hub, half, restarted, sync_at}
use Rattle.every_schedule.proofs.Leads.{between}
use Rattle.every_schedule.proofs.Moves.{still_there, arrive, Leads, leads_on, frame}
use Rattle.every_schedule.proofs.Outlooks.{sync_outlook}

pub nat_lt_self : (n : ℕ) → nat_lt n n ≡ false
nat_lt_self n = le-ltb n n (omega arith)

pub nat_lt_more : (n k : ℕ) → n < k → nat_lt n k ≡ true
nat_lt_more n k l = lt-ltb n k l

module _ {M S F : Type 0} (k : MasterModel M) (d : DeviceModel S) (codec : Codec F) (plan : Plan) (laws : IsDevice d) (m : M) (calls : List Call) (t : ℕ) (mk : Bool) where
  abbrev st : Phase → List (Wire S) → PacketWorld (MachineEnd M F) (DeviceEnd S F) (Decoded F)
  st phase ws = state k d codec plan laws phase m calls t mk ws

  abbrev Lead : PacketWorld (MachineEnd M F) (DeviceEnd S F) (Decoded F) → PacketWorld (MachineEnd M F) (DeviceEnd S F) (Decoded F) → Type 0
  Lead = Leads k d codec plan

  abbrev after : List (Wire S) → ℕ → Bool → PacketWorld (MachineEnd M F) (DeviceEnd S F) (Decoded F)
  after ws p true = st (SyncTo (suc p)) ws
  after ws p false = st Gather (map restarted ws)

  leaves : (ws : List (Wire S)) (p : ℕ) (w : Wire S) (b : Bool) → focus (map (post_of F d) ws) p (synced_hub k d codec plan laws m calls t mk (set (map (port_of F d) ws) p (port_of F d w)) p b) (post_of F d w) ≡ after (set ws p w) p b
  leaves ws p w true = leave k d codec plan laws (SyncTo (suc p)) m calls t mk ws p w
  leaves ws p w false = λ i. record { hub = frame k d codec plan Gather m calls t mk (ports_are i); links = posts_are i }
    where
      ports_are : map with_wait (set (map (port_of F d) ws) p (port_of F d w)) ≡ map (port_of F d) (map restarted (set ws p w))
      ports_are = ap (map with_wait) (sym (map-set (port_of F d) ws p w)) ∙ map_both with_wait (port_of F d) (λ w. port_of F d (restarted w)) (λ w. refl) (set ws p w) ∙ sym (map_both (port_of F d) restarted (λ w. port_of F d (restarted w)) (λ w. refl) (set ws p w))

      posts_are : set (map (post_of F d) ws) p (post_of F d w) ≡ map (post_of F d) (map restarted (set ws p w))
      posts_are = sym (map-set (post_of F d) ws p w) ∙ sym (map_both (post_of F d) restarted (post_of F d) (λ w. refl) (set ws p w))

  sync_step : (phase : Phase) (ws : List (Wire S)) (p : ℕ) (w : Wire S) → slice_get ws p ≡ Some w → IsFine d t w → ((ends k d codec).hub_outlook (frame k d codec plan phase m calls t mk (set (map (port_of F d) ws) p (port_of F d w))) ≡ sync_outlook k (frame k d codec plan phase m calls t mk (set (map (port_of F d) ws) p (port_of F d w))) p (Some (port_of F d w))) → Lead (st phase ws) (after (set ws p (half F d w t)) p (nat_lt (suc p) (length ws)))
  sync_step phase ws p w g fine f =
      let inside : p < length ws = slice_get_within ws p w g in
      let r = sync_at k d codec plan laws (map (post_of F d) ws) (map (port_of F d) ws) p (subst (λ n. p < n) (sym (length-map ws (post_of F d))) inside) (subst (λ n. p < n) (sym (length-map ws (port_of F d))) inside) phase m calls t mk w fine f in
      between k d codec 0 _ _ _ _ (enter k d codec plan laws phase m calls t mk ws p w g) r (
      leaves ws p (half F d w t) (nat_lt (suc p) (length (map (port_of F d) ws)))
      ∙ ap (λ n. after (set ws p (half F d w t)) p (nat_lt (suc p) n)) (length-map ws (port_of F d))
      )

  abbrev halves : List (Wire S) → List (Wire S)
  halves ws = map (λ w. half F d w t) ws

  pub sync_rest : (a : List (Wire S)) (w : Wire S) (b : List (Wire S)) → Each (IsFine d t) (w ∷ b) → (phase : Phase) → ((ends k d codec).hub_outlook (frame k d codec plan phase m calls t mk (set (map (port_of F d) (a ++ w ∷ b)) (length a) (port_of F d w))) ≡ sync_outlook k (frame k d codec plan phase m calls t mk (set (map (port_of F d) (a ++ w ∷ b)) (length a) (port_of F d w))) (length a) (Some (port_of F d w))) → Lead (st phase (a ++ w ∷ b)) (st Gather (map restarted (a ++ halves (w ∷ b))))
  sync_rest a w [] fine phase f =
      let r = sync_step phase (a ++ w ∷ []) (length a) w (get_mid a [] w) fine.0 f in
      arrive k d codec plan _ _ _ r (
      ap (after (set (a ++ w ∷ []) (length a) (half F d w t)) (length a)) (ap (nat_lt (suc (length a))) (length-append a (w ∷ [])) ∙ le-ltb (suc (length a)) (length a + 1) (omega arith))
      ∙ ap (λ ws. st Gather (map restarted ws)) (set_mid a [] w (half F d w t))
      )
  sync_rest a w (w' ∷ b) fine phase f =
      let r = sync_step phase (a ++ w ∷ w' ∷ b) (length a) w (get_mid a (w' ∷ b) w) fine.0 f in
      let hw : Wire S = half F d w t in
      let len : length (a ++ w ∷ w' ∷ b) ≡ length a + suc (suc (length b)) = length-append a (w ∷ w' ∷ b) in
      let moved : Lead (st phase (a ++ w ∷ w' ∷ b)) (st (SyncTo (suc (length a))) (a ++ hw ∷ w' ∷ b)) = arrive k d codec plan _ _ _ r (
      ap (after (set (a ++ w ∷ w' ∷ b) (length a) hw) (length a)) (lt-ltb (suc (length a)) (length (a ++ w ∷ w' ∷ b)) (omega arith))
      ∙ ap (st (SyncTo (suc (length a)))) (set_mid a (w' ∷ b) w hw)
      ) in
      let more = sync_rest (a ++ hw ∷ []) w' b fine.1 (SyncTo (length (a ++ hw ∷ [])))
      (ap (sync_outlook k (frame k d codec plan (SyncTo (length (a ++ hw ∷ []))) m calls t mk (set (map (port_of F d) ((a ++ hw ∷ []) ++ w' ∷ b)) (length (a ++ hw ∷ [])) (port_of F d w'))) (length (a ++ hw ∷ [])))
      (get_set (map (port_of F d) ((a ++ hw ∷ []) ++ w' ∷ b)) (length (a ++ hw ∷ [])) (port_of F d w') (slice_get_within (map (port_of F d) ((a ++ hw ∷ []) ++ w' ∷ b)) (length (a ++ hw ∷ [])) (port_of F d w') (get_mapped (port_of F d) ((a ++ hw ∷ []) ++ w' ∷ b) (length (a ++ hw ∷ [])) w' (get_mid (a ++ hw ∷ []) b w'))))) in
      let next : suc (length a) ≡ length (a ++ hw ∷ []) = sym (length-append a (hw ∷ []) ∙ omega arith) in
      leads_on k d codec plan _ _ _ moved
      (leads_on k d codec plan _ _ _ (still_there k d codec plan _ _ (ap₂ (λ n ws. st (SyncTo n) ws) next (sym (append_assoc a (hw ∷ []) (w' ∷ b)))))
      (leads_on k d codec plan _ _ _ more (still_there k d codec plan _ _ (ap (λ ws. st Gather (map restarted ws)) (append_assoc a (hw ∷ []) (halves (w' ∷ b)))))))
