-- The run mirrors the direct machine.
use Rattle.ends_model.specs.World.{Side}
use Rattle.every_schedule.proofs.Leads.{arrives}
use Rattle.every_schedule.proofs.Counted.{IsCount, Counted, counted_on}
use Rattle.every_schedule.proofs.WireTraffic.{unit_sides, boundary_sides}
use Rattle.std.proofs.Common.{◌≡◌, ℕ, zero, suc, ◌+◌, ◌^◌, ◌<◌, ◌≤◌, ◌⊎◌, inl, inr, Bool, true, false, ◌&&◌, List, [], ◌∷◌, length, map, take, add-zero, Option, Some, None, is_some, slice_get, refl, sym, ap, ◌∙◌, subst, arith}
use Rattle.std.specs.Prelude.{nat_eq, nat_le, if◌then◌else◌}
use Rattle.std.proofs.lemmas.Bool.{or_right, or_left, or_from}
use Rattle.std.proofs.lemmas.List.{length-set, length-map}
use Rattle.process_network.specs.PacketStar.{PacketWorld}
use Rattle.cosim_model.specs.declared.values.Want.{Want}
use Rattle.cosim_model.specs.declared.values.Reply.{Reply}
use Rattle.cosim_model.specs.Values.{bits_of}
use Rattle.cosim_model.specs.declared.values.Want.TheVariants.{Fetch, Store, Line}
use Rattle.cosim_model.specs.Parts.{DeviceModel, MasterModel, IsDevice, IsMaster, served, lined}
use Rattle.cosim_model.specs.Packets.{Packet, Decoded, Codec}
use Rattle.ends_model.specs.DeviceTurn.{DeviceEnd}
use Rattle.cosim_model.specs.declared.values.Plan.{Plan}
use Rattle.ends_model.specs.MachineTurn.{MachineEnd, is_last_boundary, at_quantum, least}
use Rattle.ends_model.specs.declared.ends.Phase.TheVariants.{Run, Done}
use Rattle.ends_model.specs.World.{Side}
use Rattle.every_schedule.specs.Wires.{Wire, sends_of, unread, sync_sent, wired, gathered_by, fed_wire}
use Rattle.cosim_model.specs.Direct.{Direct, mark, unit, boundary, boundary_if, met_quantum, direct_from, advance_all, serve_all, serve_one, serve_next, serve_device, serve_want, all_left, want_time}
use Rattle.every_schedule.proofs.Base.{same_number, other_number}
use Rattle.every_schedule.proofs.Lists.{Each, each_at, each_set, each_map}
use Rattle.every_schedule.proofs.Runs.{IsReady, at, boundary_leads}
use Rattle.every_schedule.proofs.Units.{IsRich, IsGoing, unit_leads}
use Rattle.every_schedule.proofs.Spelt.{HasTail}
use Rattle.every_schedule.proofs.Moves.{Leads}

true_false : true ≡ false → ⊥
true_false e = cc

module _ {M S F : Type 0} (k : MasterModel M) (d : DeviceModel S) (codec : Codec F) (plan : Plan) (laws : IsDevice d) (laws' : IsMaster k) where
  abbrev Lead : PacketWorld (MachineEnd M F) (DeviceEnd S F) (Decoded F) → PacketWorld (MachineEnd M F) (DeviceEnd S F) (Decoded F) → Type 0
  Lead = Leads k d codec plan

  -- What serving keeps.
  abbrev KeepsMaster : M → M → Type 0
  KeepsMaster m m' = (k.stopped m' ≡ k.stopped m) × (k.reach m' ≤ k.reach m) × (k.full m ≡ true → k.full m' ≡ true)

  abbrev Keeps : Direct M (Wire S) → Direct M (Wire S) → Type 0
  Keeps r r' = KeepsMaster r.master r'.master × (length r'.devices ≡ length r.devices) × (Each IsRich r.devices → Each IsRich r'.devices)

  served_keeps : (m : M) (v : Want) → KeepsMaster m (served k m v).0
  served_keeps m (Fetch addr size) = (refl, (omega arith), λ f. f)
  served_keeps m (Store addr size bytes mask) = let w = laws'.write_keeps m addr (take size bytes) (bits_of mask size) in (w.0, w.2, w.3)
  served_keeps m (Line number level) = by (nat_le number 31)
    where
      by : (b : Bool) → KeepsMaster m (lined k m number level b)
      by true = let w = laws'.line_keeps m number level in (w.0, w.2, w.3)
      by false = (refl, (omega arith), λ f. f)

  keeps_on : (r r' r'' : Direct M (Wire S)) → Keeps r r' → Keeps r' r'' → Keeps r r''
  keeps_on r r' r'' a b = ((b.0.0 ∙ a.0.0, (let x = a.0.1 in let y = b.0.1 in omega arith), λ f. b.0.2 (a.0.2 f)), b.1 ∙ a.1, λ f. b.2 (a.2 f))

  keeps_itself : (r : Direct M (Wire S)) → Keeps r r
  keeps_itself r = ((refl, (omega arith), λ f. f), refl, λ f. f)

  gathered_side : (w : Wire S) (h : Bool) (o : Option Want) (ms : List Packet) → (gathered_by w h o ms).side ≡ w.side
  gathered_side w true o ms = refl
  gathered_side w false None [] = refl
  gathered_side w false None (m ∷ ms) = refl
  gathered_side w false (Some v) [] = refl
  gathered_side w false (Some v) (m ∷ ms) = refl

  fed_side : (w : Wire S) (r : Reply) (o : Option Want) (ms : List Packet) → (fed_wire F d w r o ms).side ≡ w.side
  fed_side w r None ms = refl
  fed_side w r (Some v) [] = refl
  fed_side w r (Some v) (m ∷ ms) = refl

  feed_rich : (w : Wire S) (r : Reply) → IsRich w → IsRich ((wired F d).feed w r)
  feed_rich w r f = subst (λ (s : Side). s.offer.base && s.offer.enables ≡ true) (sym (gathered_side (fed w) (fed w).held (d.want (fed w).device) (unread F d (fed w)) ∙ fed_side w r (d.want w.device) (sends_of F d w))) f
    where
      fed : Wire S → Wire S
      fed w = fed_wire F d w r (d.want w.device) (sends_of F d w)

  serve_keeps : (r : Direct M (Wire S)) → Keeps r (serve_one k (wired F d) plan r)
  serve_keeps r = by (least (map (want_time k (wired F d) plan) r.devices))
    where
      wanted : (p : ℕ) (w : Wire S) → slice_get r.devices p ≡ Some w → (o : Option Want) → Keeps r (serve_want k (wired F d) plan r p w o)
      wanted p w g None = keeps_itself r
      wanted p w g (Some v) = (served_keeps r.master v, length-set r.devices p ((wired F d).feed w (served k r.master v).1), λ f. each_set IsRich r.devices p ((wired F d).feed w (served k r.master v).1) f (feed_rich w (served k r.master v).1 (each_at IsRich r.devices p w f g)))

      at_port : (p : ℕ) (o : Option (Wire S)) → slice_get r.devices p ≡ o → Keeps r (serve_device k (wired F d) plan r p o)
      at_port p None g = keeps_itself r
      at_port p (Some w) g = wanted p w g (d.want w.device)

      by : (l : Option (ℕ × ℕ)) → Keeps r (serve_next k (wired F d) plan r l)
      by None = keeps_itself r
      by (Some q) = at_port q.0 (slice_get r.devices q.0) refl

  serves_keep : (n : ℕ) (r : Direct M (Wire S)) → Keeps r (serve_all k (wired F d) plan n r)
  serves_keep zero r = keeps_itself r
  serves_keep (suc n) r = keeps_on r (serve_one k (wired F d) plan r) (serve_all k (wired F d) plan n (serve_one k (wired F d) plan r)) (serve_keeps r) (serves_keep n (serve_one k (wired F d) plan r))

  advance_rich : (t : ℕ) (w : Wire S) → IsRich w → IsRich ((wired F d).advance w t)
  advance_rich t w f = subst (λ (s : Side). s.offer.base && s.offer.enables ≡ true) (sym (gathered_side (sync_sent F d w t) w.held (d.want (d.advance w.device t)) (unread F d (sync_sent F d w t)))) f

  boundary_keeps : (r : Direct M (Wire S)) → Keeps r (boundary k (wired F d) plan r)
  boundary_keeps r = keeps_on r (advance_all k (wired F d) plan (mark k (wired F d) plan r)) (boundary k (wired F d) plan r) ((refl, (omega arith), λ f. f), length-map r.devices (λ w. (wired F d).advance w r.tick), λ f. each_map IsRich IsRich (λ w. (wired F d).advance w r.tick) (advance_rich r.tick) r.devices f) (serves_keep (all_left k (wired F d) plan (advance_all k (wired F d) plan (mark k (wired F d) plan r)).devices) (advance_all k (wired F d) plan (mark k (wired F d) plan r)))

  boundary_going : (r : Direct M (Wire S)) → Each (IsReady d r.tick) (boundary k (wired F d) plan r).devices → (boundary k (wired F d) plan r).tick ≡ r.tick → IsGoing k d codec plan laws laws' r → IsGoing k d codec plan laws laws' (boundary k (wired F d) plan r)
  boundary_going r ready same going =
      let kept = boundary_keeps r in (
        subst (λ t. Each (IsReady d t) (boundary k (wired F d) plan r).devices) (sym same) ready,
        (let a = kept.0.1 in let b = going.1 in let c = kept.1 in omega arith),
        rich going.2,
      )
    where
      rich : (k.full r.master ≡ true) ⊎ Each IsRich r.devices → (k.full (boundary k (wired F d) plan r).master ≡ true) ⊎ Each IsRich (boundary k (wired F d) plan r).devices
      rich (inl f) = inl ((boundary_keeps r).0.2 f)
      rich (inr f) = inr ((boundary_keeps r).2 f)

  -- A port where all is done.
  abbrev pub IsSpent : Wire S → Type 0
  IsSpent w = (t : ℕ) × (IsReady d t w × (d.want w.device ≡ None) × HasTail w)

  -- The last boundary.
  last_leads : (sides : List Side) (r : Direct M (Wire S)) → map (λ (w : Wire S). w.side) r.devices ≡ sides → r.tick < 2 ^ 64 → IsGoing k d codec plan laws laws' r → (is_last_boundary k plan r.master r.tick ≡ true) → (is_last_boundary k plan (boundary k (wired F d) plan r).master r.tick ≡ true) → Counted k d codec sides r.tick (boundary k (wired F d) plan r).tick r.history (boundary k (wired F d) plan r).history (at k d codec plan laws laws' Run false r) (at k d codec plan laws laws' Done true (boundary k (wired F d) plan r)) × Each IsSpent (boundary k (wired F d) plan r).devices
  last_leads sides r same small going last last' =
      let b = boundary_leads k d codec plan laws laws' sides r small (or_left (is_last_boundary k plan r.master r.tick) (at_quantum plan r.tick) last) same going.0 in (
        (b.0.0, arrives k d codec b.0.0 _ _ _ b.0.1 (ap (λ c. at k d codec plan laws laws' (if c then Done else Run) true (boundary k (wired F d) plan r)) last'), subst (λ t. IsCount sides b.0.0 r.tick t r.history (boundary k (wired F d) plan r).history) (sym b.2) b.0.2),
        spent (boundary k (wired F d) plan r).devices b.1 b.3 b.4,
      )
    where
      spent : (ws : List (Wire S)) → Each (IsReady d r.tick) ws → Each (λ w. d.want w.device ≡ None) ws → Each HasTail ws → Each IsSpent ws
      spent [] f e g = tt
      spent (w ∷ ws) f e g = ((r.tick, (f.0, e.0, g.0)), spent ws f.1 e.1 g.1)

  abbrev Ends_in : List Side → Direct M (Wire S) → Direct M (Wire S) → Type 0
  Ends_in sides r r' = Counted k d codec sides r.tick r'.tick r.history r'.history (at k d codec plan laws laws' Run false r) (at k d codec plan laws laws' Done true r') × Each IsSpent r'.devices

  pub run_leads : (sides : List Side) → plan.units < 2 ^ 32 → (n : ℕ) (r : Direct M (Wire S)) → map (λ (w : Wire S). w.side) r.devices ≡ sides → r.tick + n ≡ plan.units → IsGoing k d codec plan laws laws' r → Ends_in sides r (direct_from k (wired F d) plan n r)
  run_leads sides bounded zero r same_sides e going =
      let same : nat_eq r.tick plan.units ≡ true = ap (nat_eq r.tick) (sym e ∙ add-zero r.tick) ∙ same_number r.tick in
      last_leads sides r same_sides (omega arith) going (or_right (is_some (k.stopped r.master)) (nat_eq r.tick plan.units) same) (or_right (is_some (k.stopped (boundary k (wired F d) plan r).master)) (nat_eq r.tick plan.units) same)
  run_leads sides bounded (suc n) r same_sides e going = by (is_some (k.stopped r.master)) refl (λ r' s' e' g'. run_leads sides bounded n r' s' e' g')
    where
      small : r.tick < 2 ^ 64
      small = omega arith

      before : nat_eq r.tick plan.units ≡ false
      before = other_number r.tick plan.units (omega arith)

      goes : (r₁ : Direct M (Wire S)) → r₁.tick ≡ r.tick → map (λ (w : Wire S). w.side) r₁.devices ≡ sides → Counted k d codec sides r.tick r.tick r.history r₁.history (at k d codec plan laws laws' Run false r) (at k d codec plan laws laws' Run true r₁) → IsGoing k d codec plan laws laws' r₁ → ((r' : Direct M (Wire S)) → map (λ (w : Wire S). w.side) r'.devices ≡ sides → r'.tick + n ≡ plan.units → IsGoing k d codec plan laws laws' r' → Ends_in sides r' (direct_from k (wired F d) plan n r')) → Ends_in sides r (direct_from k (wired F d) plan n (unit k (wired F d) plan r₁))
      goes r₁ same sided first g more =
          let one = unit_leads k d codec plan laws laws' sides r₁ true (let s = small in omega arith) refl g in
          let all = more (unit k (wired F d) plan r₁) (unit_sides F k d plan laws r₁ ∙ sided) (let u = one.2 in omega arith) one.1 in
          let first' : Counted k d codec sides r.tick r₁.tick r.history r₁.history (at k d codec plan laws laws' Run false r) (at k d codec plan laws laws' Run true r₁) = subst (λ t. Counted k d codec sides r.tick t r.history r₁.history (at k d codec plan laws laws' Run false r) (at k d codec plan laws laws' Run true r₁)) (sym same) first in
          let last' : Counted k d codec sides (suc r₁.tick) (direct_from k (wired F d) plan n (unit k (wired F d) plan r₁)).tick (unit k (wired F d) plan r₁).history (direct_from k (wired F d) plan n (unit k (wired F d) plan r₁)).history (at k d codec plan laws laws' Run false (unit k (wired F d) plan r₁)) (at k d codec plan laws laws' Done true (direct_from k (wired F d) plan n (unit k (wired F d) plan r₁))) = subst (λ t. Counted k d codec sides t (direct_from k (wired F d) plan n (unit k (wired F d) plan r₁)).tick (unit k (wired F d) plan r₁).history (direct_from k (wired F d) plan n (unit k (wired F d) plan r₁)).history (at k d codec plan laws laws' Run false (unit k (wired F d) plan r₁)) (at k d codec plan laws laws' Done true (direct_from k (wired F d) plan n (unit k (wired F d) plan r₁)))) one.2 all.0 in
          (counted_on k d codec sides _ _ _ _ _ _ _ _ _ first' (counted_on k d codec sides _ _ _ _ _ _ _ _ _ one.0 last'), all.1)

      on : is_some (k.stopped r.master) ≡ false → (q : Bool) → at_quantum plan r.tick ≡ q → ((r' : Direct M (Wire S)) → map (λ (w : Wire S). w.side) r'.devices ≡ sides → r'.tick + n ≡ plan.units → IsGoing k d codec plan laws laws' r' → Ends_in sides r' (direct_from k (wired F d) plan n r')) → Ends_in sides r (direct_from k (wired F d) plan n (unit k (wired F d) plan (boundary_if k (wired F d) plan (at_quantum plan r.tick) r)))
      on s true q more = subst (λ b. Ends_in sides r (direct_from k (wired F d) plan n (unit k (wired F d) plan (boundary_if k (wired F d) plan b r)))) (sym q)
          (let b = boundary_leads k d codec plan laws laws' sides r small (or_right (is_last_boundary k plan r.master r.tick) (at_quantum plan r.tick) q) same_sides going.0 in
          let not_last : is_last_boundary k plan (boundary k (wired F d) plan r).master r.tick ≡ false = or_from (is_some (k.stopped (boundary k (wired F d) plan r).master)) (nat_eq r.tick plan.units) (ap is_some (boundary_keeps r).0.0 ∙ s) before in
          goes (boundary k (wired F d) plan r) b.2 (boundary_sides F k d plan laws r ∙ same_sides) (b.0.0, arrives k d codec b.0.0 _ _ _ b.0.1 (ap (λ c. at k d codec plan laws laws' (if c then Done else Run) true (boundary k (wired F d) plan r)) not_last), b.0.2) (boundary_going r b.1 b.2 going) more)
      on s false q more = subst (λ b. Ends_in sides r (direct_from k (wired F d) plan n (unit k (wired F d) plan (boundary_if k (wired F d) plan b r)))) (sym q)
          (let one = unit_leads k d codec plan laws laws' sides r false small (or_from (is_last_boundary k plan r.master r.tick) (at_quantum plan r.tick) (or_from (is_some (k.stopped r.master)) (nat_eq r.tick plan.units) s before) q) going in
          let all = more (unit k (wired F d) plan r) (unit_sides F k d plan laws r ∙ same_sides) (let u = one.2 in omega arith) one.1 in
          let last' : Counted k d codec sides (suc r.tick) (direct_from k (wired F d) plan n (unit k (wired F d) plan r)).tick (unit k (wired F d) plan r).history (direct_from k (wired F d) plan n (unit k (wired F d) plan r)).history (at k d codec plan laws laws' Run false (unit k (wired F d) plan r)) (at k d codec plan laws laws' Done true (direct_from k (wired F d) plan n (unit k (wired F d) plan r))) = subst (λ t. Counted k d codec sides t (direct_from k (wired F d) plan n (unit k (wired F d) plan r)).tick (unit k (wired F d) plan r).history (direct_from k (wired F d) plan n (unit k (wired F d) plan r)).history (at k d codec plan laws laws' Run false (unit k (wired F d) plan r)) (at k d codec plan laws laws' Done true (direct_from k (wired F d) plan n (unit k (wired F d) plan r)))) one.2 all.0 in
          (counted_on k d codec sides _ _ _ _ _ _ _ _ _ one.0 last', all.1))

      by : (s : Bool) → is_some (k.stopped r.master) ≡ s → ((r' : Direct M (Wire S)) → map (λ (w : Wire S). w.side) r'.devices ≡ sides → r'.tick + n ≡ plan.units → IsGoing k d codec plan laws laws' r' → Ends_in sides r' (direct_from k (wired F d) plan n r')) → Ends_in sides r (if is_some (k.stopped r.master) then boundary k (wired F d) plan r else direct_from k (wired F d) plan n (unit k (wired F d) plan (met_quantum k (wired F d) plan r)))
      by true s more = subst (λ b. Ends_in sides r (if b then boundary k (wired F d) plan r else direct_from k (wired F d) plan n (unit k (wired F d) plan (met_quantum k (wired F d) plan r)))) (sym s)
          (last_leads sides r same_sides small going (or_left (is_some (k.stopped r.master)) (nat_eq r.tick plan.units) s) (or_left (is_some (k.stopped (boundary k (wired F d) plan r).master)) (nat_eq r.tick plan.units) (ap is_some (boundary_keeps r).0.0 ∙ s)))
      by false s more = subst (λ b. Ends_in sides r (if b then boundary k (wired F d) plan r else direct_from k (wired F d) plan n (unit k (wired F d) plan (met_quantum k (wired F d) plan r)))) (sym s) (on s (at_quantum plan r.tick) refl more)
