-- An access at a port, whatever its device wants.
use Rattle.every_schedule.proofs.Short.{want_short}
use Rattle.std.proofs.Common.{◌≡◌, ℕ, suc, ◌<◌, ◌≤◌, ◌⊎◌, inl, inr, Bool, true, false, ◌&&◌, List, [], ◌∷◌, ◌++◌, length, Option, Some, None, refl, sym, ap, ◌∙◌, subst, arith}
use Rattle.std.proofs.lemmas.Option.{none-some, same_Some}
use Rattle.process_network.specs.PacketStar.{PacketLink, PacketWorld}
use Rattle.cosim_model.specs.declared.values.Access.{Access}
use Rattle.cosim_model.specs.declared.values.Answer.{Answer}
use Rattle.cosim_model.specs.declared.values.Want.{Want}
use Rattle.cosim_model.specs.declared.values.Call.{Call}
use Rattle.cosim_model.specs.Values.{plain}
use Rattle.cosim_model.specs.declared.values.Call.TheVariants as call
use Rattle.cosim_model.specs.Parts.{DeviceModel, MasterModel, IsAccess, IsDevice}
use Rattle.cosim_model.specs.Packets.{Packet, Decoded, Codec}
use Rattle.ends_model.specs.DeviceTurn.{DeviceEnd, settled, is_answered}
use Rattle.ends_model.specs.declared.ends.Phase.{Phase}
use Rattle.cosim_model.specs.declared.values.Plan.{Plan}
use Rattle.ends_model.specs.MachineTurn.{MachineEnd, PortEnd, is_boundary_due}
use Rattle.ends_model.specs.declared.ends.Phase.TheVariants.{Run}
use Rattle.ends_model.specs.World.{Side}
use Rattle.every_schedule.specs.Wires.{Wire, unsettled, behind, access_wire}
use Rattle.every_schedule.proofs.Settles.{settles_idle, settles_waiting}
use Rattle.every_schedule.proofs.PacketFacts.{IsClear}
use Rattle.every_schedule.proofs.Accesses.{asking_leaf, asking_packet, port_with, post_with, access_with, settles_asks, quiet, crossed, kept_held}
use Rattle.every_schedule.proofs.Posted.{posted_quiet, posted_asking}
use Rattle.every_schedule.proofs.Moves.{Leads, here}

-- A port between two boundaries, at tick t.
pub record IsFine {S : Type 0} (d : DeviceModel S) (t : ℕ) (w : Wire S) : Type 0 where
  pub seen : d.seen w.device ≤ t
  pub last : w.last ≤ t
  pub heard : w.heard ≤ d.due w.device
  pub synced : w.synced ≡ false
  pub held : w.held ≡ true → (v : Want) × (d.want w.device ≡ Some v) × (is_answered (w.side.offer.posted && w.side.answered_lines) v ≡ true)

abbrev pub IsQuiet : {S : Type 0} → (F : Type 0) → DeviceModel S → Wire S → Type 0
IsQuiet F d w = (w.held ≡ false) × (settled {F = F} d (unsettled w) ≡ (unsettled w, []))

abbrev pub IsAsking : {S : Type 0} → DeviceModel S → Wire S → Type 0
IsAsking d w = (v : Want) × (d.want w.device ≡ Some v) × (is_answered (w.side.offer.posted && w.side.answered_lines) v ≡ true)

true_false : true ≡ false → ⊥
true_false e = cc

pub kind_of : {S : Type 0} (F : Type 0) (d : DeviceModel S) (t : ℕ) (w : Wire S) → IsFine d t w → IsQuiet F d w ⊎ IsAsking d w
kind_of {S} F d t w fine = go (d.want w.device) refl
  where
    unheld : ((v : Want) → d.want w.device ≡ Some v → is_answered (w.side.offer.posted && w.side.answered_lines) v ≡ false) → w.held ≡ false
    unheld never = by w.held refl
      where
        by : (h : Bool) → w.held ≡ h → h ≡ false
        by false e = refl
        by true e = let f = fine.held e in absurd (true_false (sym f.2 ∙ never f.0 f.1))

    answered : (v : Want) → d.want w.device ≡ Some v → (a : Bool) → is_answered (w.side.offer.posted && w.side.answered_lines) v ≡ a → IsQuiet F d w ⊎ IsAsking d w
    answered v e true f = inr (v, e, f)
    answered v e false f = inl (unheld (λ u g. ap (is_answered (w.side.offer.posted && w.side.answered_lines)) (same_Some u v (sym g ∙ e)) ∙ f), settles_waiting F d w v fine.synced e f)

    go : (o : Option Want) → d.want w.device ≡ o → IsQuiet F d w ⊎ IsAsking d w
    go None e = inl (unheld (λ u g. absurd (none-some u (sym e ∙ g))), settles_idle F d w fine.synced e)
    go (Some v) e = answered v e (is_answered (w.side.offer.posted && w.side.answered_lines) v) refl

module _ {M S F : Type 0} (k : MasterModel M) (d : DeviceModel S) (codec : Codec F) (plan : Plan) (laws : IsDevice d) (links : List (PacketLink (DeviceEnd S F) (Decoded F))) (ports : List PortEnd) (p : ℕ) (inside : p < length links) (inside' : p < length ports)
    (m : M) (calls : List Call) (t : ℕ) (mk : Bool) (due : is_boundary_due k plan m t mk ≡ false) where
  abbrev at : Phase → M → List Call → ℕ → Bool → PortEnd → PacketLink (DeviceEnd S F) (Decoded F) → PacketWorld (MachineEnd M F) (DeviceEnd S F) (Decoded F)
  at phase m calls t b q l = here k d codec plan links ports p inside inside' phase m calls t b q l

  -- from a port whose settling gives r to one whose settling gives r'
  abbrev moved : Access → Answer → Wire S → DeviceEnd S F × List Packet → Wire S → DeviceEnd S F × List Packet → Type 0
  moved a x w r w' r' = Leads k d codec plan (at Run m calls t mk (port_with w w.held r) (post_with w w.held r)) (at Run (k.finish (k.issue m).0 x) (calls ++ call.Access t p a x ∷ []) (suc t) false (port_with w' w'.held r') (post_with w' w'.held r'))

  abbrev done : Access → Answer → Wire S → Wire S → Type 0
  done a x w w' = moved a x w (settled {F = F} d (unsettled w)) w' (settled {F = F} d (unsettled w'))

  abbrev still : Wire S → Bool → Wire S
  still w h = record w { held = h; synced = false }

  module _ (b : Access) (w : Wire S) (fine : IsFine d t w) where
    is_still : (h : Bool) → w.held ≡ h → w ≡ still w h
    is_still h e = λ i. record w { held = e i; synced = fine.synced i }

    late : d.due w.device ≤ t
    late = let s = laws.due_seen w.device in let u = fine.seen in omega arith

    kept_want : (a : Access) (v : Want) → d.want w.device ≡ Some v → (d.want (d.access w.device t a).0 ≡ Some v) × (d.due (d.access w.device t a).0 ≡ d.due w.device)
    kept_want a v e = laws.access_keeps w.device t a v fine.seen e

    -- answered
    module _ (wr : Bool) (la : IsAccess (record b { write = wr; posted = false })) (clear : IsClear w.side.offer (record b { write = wr; posted = false })) (issues : (k.issue m).1 ≡ Some (record { port = p; access = record b { write = wr; posted = false } })) where
      abbrev a : Access
      a = record b { write = wr; posted = false }

      abbrev x : Answer
      x = plain a (d.access w.device t a).1

      at_quiet : IsQuiet F d w → done a x w (access_wire F d w t a false)
      at_quiet e = subst (λ u. done a x u (access_wire F d u t a false)) (sym (is_still false e.0)) (subst (λ r. moved a x (still w false) r (access_with F d (still w false) t a (behind false r.1)) (settled {F = F} d (unsettled (access_with F d (still w false) t a (behind false r.1))))) (sym is_quiet) (quiet k d codec plan links ports p inside inside' wr b w m calls t mk fine.last la clear due issues))
        where
          is_quiet : settled {F = F} d (unsettled (still w false)) ≡ (unsettled (still w false), [])
          is_quiet = subst (λ u. settled {F = F} d (unsettled u) ≡ (unsettled u, [])) (is_still false e.0) e.1

      at_asking : (h : Bool) → w.held ≡ h → (v : Want) → d.want w.device ≡ Some v → is_answered (w.side.offer.posted && w.side.answered_lines) v ≡ true → done a x w (access_wire F d w t a false)
      at_asking h eh v e ask = subst (λ u. done a x u (access_wire F d u t a false)) (sym (is_still h eh)) (subst (λ r. moved a x (still w h) r (access_with F d (still w h) t a (behind h r.1)) (settled {F = F} d (unsettled (access_with F d (still w h) t a (behind h r.1))))) (sym begins) (by h))
        where
          ask_m : Packet
          ask_m = asking_packet w.side.offer w.asks (d.due w.device) v

          begins : settled {F = F} d (unsettled (still w h)) ≡ (asking_leaf F (still w h) v, ask_m ∷ [])
          begins = settles_asks F d (still w h) v e ask

          after : (h : Bool) → Wire S
          after h = access_with F d (still w h) t a (behind h (ask_m ∷ []))

          ends_at : (u : Wire S) → u.device ≡ (d.access w.device t a).0 → u.side ≡ w.side → u.asks ≡ w.asks → settled {F = F} d (unsettled u) ≡ (asking_leaf F u v, ask_m ∷ [])
          ends_at u ed es ea = settles_asks F d u v (ap d.want ed ∙ (kept_want a v e).0) (ap (λ (s : Side). is_answered (s.offer.posted && s.answered_lines) v) es ∙ ask)
              ∙ ap (λ (q : Packet). (asking_leaf F u v, q ∷ [])) (λ i. asking_packet ((es i).offer) (ea i) ((ap d.due ed ∙ (kept_want a v e).1) i) v)

          by : (h : Bool) → moved a x (still w h) (asking_leaf F (still w h) v, ask_m ∷ []) (after h) (settled {F = F} d (unsettled (after h)))
          by false = subst (λ r. moved a x (still w false) (asking_leaf F (still w false) v, ask_m ∷ []) (after false) r) (sym (ends_at (after false) refl refl refl)) (crossed k d codec plan links ports p inside inside' v wr b w m calls t mk fine.last late fine.heard la clear ask (want_short w.side.offer (d.needs w.device) (d.due w.device) v (laws.want_is w.device v e)) due issues)
          by true = subst (λ r. moved a x (still w true) (asking_leaf F (still w true) v, ask_m ∷ []) (after true) r) (sym (ends_at (after true) refl refl refl)) (kept_held k d codec plan links ports p inside inside' v wr b w m calls t mk fine.last late fine.heard la clear ask (want_short w.side.offer (d.needs w.device) (d.due w.device) v (laws.want_is w.device v e)) due issues)

      pub access_answered : done a x w (access_wire F d w t a false)
      access_answered = by (kind_of F d t w fine)
        where
          by : IsQuiet F d w ⊎ IsAsking d w → done a x w (access_wire F d w t a false)
          by (inl q) = at_quiet q
          by (inr q) = at_asking w.held refl q.0 q.1 q.2

    -- posted
    module _ (la : IsAccess (record b { write = true; posted = true })) (clear : IsClear w.side.offer (record b { write = true; posted = true })) (issues : (k.issue m).1 ≡ Some (record { port = p; access = record b { write = true; posted = true } })) where
      abbrev ap_a : Access
      ap_a = record b { write = true; posted = true }

      abbrev ok : Answer
      ok = record { code = 0; value = 0 }

      pub access_posted : done ap_a ok w (access_wire F d w t ap_a true)
      access_posted = by (kind_of F d t w fine)
        where
          at_quiet_p : IsQuiet F d w → done ap_a ok w (access_wire F d w t ap_a true)
          at_quiet_p e = subst (λ u. done ap_a ok u (access_wire F d u t ap_a true)) (sym (is_still false e.0)) (subst (λ r. moved ap_a ok (still w false) r (access_wire F d (still w false) t ap_a true) (settled {F = F} d (unsettled (access_wire F d (still w false) t ap_a true)))) (sym (subst (λ u. settled {F = F} d (unsettled u) ≡ (unsettled u, [])) (is_still false e.0) e.1)) (posted_quiet k d codec plan links ports p inside inside' b w m calls t mk fine.last la clear due issues))

          ends_at : (h : Bool) (v : Want) → d.want w.device ≡ Some v → is_answered (w.side.offer.posted && w.side.answered_lines) v ≡ true → settled {F = F} d (unsettled (access_wire F d (still w h) t ap_a true)) ≡ (asking_leaf F (access_wire F d (still w h) t ap_a true) v, asking_packet w.side.offer w.asks (d.due w.device) v ∷ [])
          ends_at h v e ask = settles_asks F d (access_wire F d (still w h) t ap_a true) v (kept_want ap_a v e).0 ask ∙ ap (λ (n : ℕ). (asking_leaf F (access_wire F d (still w h) t ap_a true) v, asking_packet w.side.offer w.asks n v ∷ [])) (kept_want ap_a v e).1

          at_asking_p : (h : Bool) → w.held ≡ h → (v : Want) → d.want w.device ≡ Some v → is_answered (w.side.offer.posted && w.side.answered_lines) v ≡ true → done ap_a ok w (access_wire F d w t ap_a true)
          at_asking_p h eh v e ask = subst (λ u. done ap_a ok u (access_wire F d u t ap_a true)) (sym (is_still h eh)) (subst (λ r. moved ap_a ok (still w h) r (access_wire F d (still w h) t ap_a true) (settled {F = F} d (unsettled (access_wire F d (still w h) t ap_a true)))) (sym (settles_asks F d (still w h) v e ask)) (subst (λ r. moved ap_a ok (still w h) (asking_leaf F (still w h) v, asking_packet w.side.offer w.asks (d.due w.device) v ∷ []) (access_wire F d (still w h) t ap_a true) r) (sym (ends_at h v e ask)) (posted_asking k d codec plan links ports p inside inside' b w m calls t mk fine.last la clear due issues v h (want_short w.side.offer (d.needs w.device) (d.due w.device) v (laws.want_is w.device v e)))))

          by : IsQuiet F d w ⊎ IsAsking d w → done ap_a ok w (access_wire F d w t ap_a true)
          by (inl q) = at_quiet_p q
          by (inr q) = at_asking_p w.held refl q.0 q.1 q.2

  abbrev goal : Wire S → Access → Type 0
  goal w a = IsAccess a → IsClear w.side.offer a → (k.issue m).1 ≡ Some (record { port = p; access = a }) → done a (plain a (d.access w.device t a).1) w (access_wire F d w t a a.posted)

  -- an access of either kind
  pub access_at : (a : Access) (w : Wire S) → IsFine d t w → IsAccess a → IsClear w.side.offer a → (k.issue m).1 ≡ Some (record { port = p; access = a }) → done a (plain a (d.access w.device t a).1) w (access_wire F d w t a a.posted)
  access_at a w fine la clear issues = by a.write a.posted la.posted refl refl la clear issues
    where
      answered : goal w (record a { posted = false })
      answered la clear issues = access_answered a w fine a.write la clear issues

      posted : goal w (record a { write = true; posted = true })
      posted la clear issues = access_posted a w fine la clear issues

      by : (wr po : Bool) → (a.posted ≡ true → a.write ≡ true) → a.write ≡ wr → a.posted ≡ po → goal w a
      by wr false only ew ep = subst (goal w) (λ i. record a { posted = sym ep i }) answered
      by true true only ew ep = subst (goal w) (λ i. record a { write = sym ew i; posted = sym ep i }) posted
      by false true only ew ep = absurd (true_false (sym (only ep) ∙ ew))
