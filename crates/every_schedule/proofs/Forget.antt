-- The direct machine of devices that keep their wires is the direct machine.
use Rattle.std.proofs.Common.{◌≡◌, ℕ, zero, suc, ◌+◌, Bool, true, false, List, [], ◌∷◌, ◌++◌, set, map, Option, Some, None, is_some, slice_get, refl, sym, ap, ap₂, ◌∙◌}
use Rattle.std.specs.Prelude.{option_map, if◌then◌else◌}
use Rattle.std.proofs.lemmas.List.{map-set}
use Rattle.std.proofs.lemmas.Option.{none-some, slice_get-map}
use Rattle.cosim_model.specs.declared.values.Access.{Access}
use Rattle.cosim_model.specs.declared.values.Want.{Want}
use Rattle.cosim_model.specs.declared.values.Reply.{Reply}
use Rattle.cosim_model.specs.declared.values.Bus.{Bus}
use Rattle.cosim_model.specs.Values.{plain}
use Rattle.cosim_model.specs.declared.values.Call.TheVariants as call
use Rattle.cosim_model.specs.Parts.{DeviceModel, MasterModel, served}
use Rattle.cosim_model.specs.Packets.{Packet}
use Rattle.cosim_model.specs.declared.values.Plan.{Plan}
use Rattle.ends_model.specs.MachineTurn.{least, at_quantum}
use Rattle.every_schedule.specs.Wires.{Wire, unread, sends_of, early, gathered_by, fed_wire, sync_sent, access_wire, access_sent, wired}
use Rattle.cosim_model.specs.Direct.Moment.{Called}
use Rattle.cosim_model.specs.Direct.{Direct, unit, unit_of, access_device, boundary, boundary_if, met_quantum, direct_from, advance_all, serve_left, serve_all, serve_one, serve_next, serve_device, serve_want, mark, all_left, want_time, due_of}
use Rattle.every_schedule.proofs.Lists.{map_both}

-- f takes the devices a to the devices b, as far as the direct machine can tell.
pub record IsMap {A B : Type 0} (a : DeviceModel A) (b : DeviceModel B) (f : A → B) : Type 0 where
  pub access : (s : A) (t : ℕ) (x : Access) → f (a.access s t x).0 ≡ (b.access (f s) t x).0
  pub answer : (s : A) (t : ℕ) (x : Access) → (a.access s t x).1 ≡ (b.access (f s) t x).1
  pub advance : (s : A) (t : ℕ) → f (a.advance s t) ≡ b.advance (f s) t
  pub want : (s : A) → a.want s ≡ b.want (f s)
  pub due : (s : A) → a.due s ≡ b.due (f s)
  pub left : (s : A) → a.left s ≡ b.left (f s)
  pub feed : (s : A) (v : Want) (r : Reply) → a.want s ≡ Some v → f (a.feed s r) ≡ b.feed (f s) r

abbrev pub mapped : {M A B : Type 0} → (A → B) → Direct M A → Direct M B
mapped f r = record { master = r.master; devices = map f r.devices; calls = r.calls; tick = r.tick; history = r.history }

module _ {M A B : Type 0} (k : MasterModel M) (a : DeviceModel A) (b : DeviceModel B) (f : A → B) (is : IsMap a b f) (plan : Plan) where
  times : (s : A) → want_time k a plan s ≡ want_time k b plan (f s)
  times s = go (a.want s) refl
    where
      go : (o : Option Want) → a.want s ≡ o → want_time k a plan s ≡ want_time k b plan (f s)
      go None e = ap (due_of k a plan s) e ∙ sym (ap (due_of k b plan (f s)) (sym (is.want s) ∙ e))
      go (Some v) e = ap (due_of k a plan s) e ∙ ap Some (is.due s) ∙ sym (ap (due_of k b plan (f s)) (sym (is.want s) ∙ e))

  served_map : (r : Direct M A) (p : ℕ) (s : A) (o : Option Want) → a.want s ≡ o → mapped f (serve_want k a plan r p s o) ≡ serve_want k b plan (mapped f r) p (f s) o
  served_map r p s None e = refl
  served_map r p s (Some v) e = λ i. record {
    master = (served k r.master v).0;
    devices = (map-set f r.devices p (a.feed s (served k r.master v).1) ∙ ap (set (map f r.devices) p) (is.feed s v (served k r.master v).1 e)) i;
    calls = r.calls ++ call.Served r.tick p (is.due s i) v (served k r.master v).1 ∷ [];
    tick = r.tick;
    history = r.history ++ Called (call.Served r.tick p (is.due s i) v (served k r.master v).1) ∷ [];
  }

  device_map : (r : Direct M A) (p : ℕ) (o : Option A) → mapped f (serve_device k a plan r p o) ≡ serve_device k b plan (mapped f r) p (option_map f o)
  device_map r p None = refl
  device_map r p (Some s) = served_map r p s (a.want s) refl ∙ ap (serve_want k b plan (mapped f r) p (f s)) (is.want s)

  next_map : (r : Direct M A) (l : Option (ℕ × ℕ)) → mapped f (serve_next k a plan r l) ≡ serve_next k b plan (mapped f r) l
  next_map r None = refl
  next_map r (Some q) = device_map r q.0 (slice_get r.devices q.0) ∙ ap (serve_device k b plan (mapped f r) q.0) (sym (slice_get-map f r.devices q.0))

  one_map : (r : Direct M A) → mapped f (serve_one k a plan r) ≡ serve_one k b plan (mapped f r)
  one_map r = next_map r (least (map (want_time k a plan) r.devices))
      ∙ ap (λ l. serve_next k b plan (mapped f r) (least l)) (sym (map_both (want_time k b plan) f (want_time k a plan) (λ s. sym (times s)) r.devices))

  all_map : (n : ℕ) (r : Direct M A) → mapped f (serve_all k a plan n r) ≡ serve_all k b plan n (mapped f r)
  all_map zero r = refl
  all_map (suc n) r = all_map n (serve_one k a plan r) ∙ ap (serve_all k b plan n) (one_map r)

  left_map : (ss : List A) → all_left k a plan ss ≡ all_left k b plan (map f ss)
  left_map [] = refl
  left_map (s ∷ ss) = ap₂ ◌+◌ (is.left s) (left_map ss)

  advance_map : (r : Direct M A) → mapped f (advance_all k a plan r) ≡ advance_all k b plan (mapped f r)
  advance_map r = λ i. record {
    master = r.master;
    devices = (map_both f (λ s. a.advance s r.tick) (λ s. b.advance (f s) r.tick) (λ s. is.advance s r.tick) r.devices ∙ sym (map_both (λ s. b.advance s r.tick) f (λ s. b.advance (f s) r.tick) (λ s. refl) r.devices)) i;
    calls = r.calls;
    tick = r.tick;
    history = r.history;
  }

  boundary_map : (r : Direct M A) → mapped f (boundary k a plan r) ≡ boundary k b plan (mapped f r)
  boundary_map r =
      all_map (all_left k a plan (advance_all k a plan (mark k a plan r)).devices) (advance_all k a plan (mark k a plan r))
      ∙ ap (λ n. serve_all k b plan n (mapped f (advance_all k a plan (mark k a plan r)))) (left_map (advance_all k a plan (mark k a plan r)).devices)
      ∙ ap (serve_left k b plan) (advance_map (mark k a plan r))

  access_map : (r : Direct M A) (m : M) (bus : Bus) (o : Option A) → mapped f (access_device k a plan r m bus o) ≡ access_device k b plan (mapped f r) m bus (option_map f o)
  access_map r m bus None = refl
  access_map r m bus (Some s) = λ i. record {
    master = k.finish m (plain bus.access (is.answer s r.tick bus.access i));
    devices = (map-set f r.devices bus.port (a.access s r.tick bus.access).0 ∙ ap (set (map f r.devices) bus.port) (is.access s r.tick bus.access)) i;
    calls = r.calls ++ call.Access r.tick bus.port bus.access (plain bus.access (is.answer s r.tick bus.access i)) ∷ [];
    tick = suc r.tick;
    history = r.history ++ Called (call.Access r.tick bus.port bus.access (plain bus.access (is.answer s r.tick bus.access i))) ∷ [];
  }

  unit_map : (r : Direct M A) → mapped f (unit k a plan r) ≡ unit k b plan (mapped f r)
  unit_map r = by (k.issue r.master).1
    where
      by : (o : Option Bus) → mapped f (unit_of k a plan r (k.issue r.master).0 o) ≡ unit_of k b plan (mapped f r) (k.issue r.master).0 o
      by None = refl
      by (Some bus) = access_map r (k.issue r.master).0 bus (slice_get r.devices bus.port) ∙ ap (access_device k b plan (mapped f r) (k.issue r.master).0 bus) (sym (slice_get-map f r.devices bus.port))

  if_map : (c : Bool) (r : Direct M A) → mapped f (boundary_if k a plan c r) ≡ boundary_if k b plan c (mapped f r)
  if_map true r = boundary_map r
  if_map false r = refl

  pub from_map : (n : ℕ) (r : Direct M A) → mapped f (direct_from k a plan n r) ≡ direct_from k b plan n (mapped f r)
  from_map zero r = boundary_map r
  from_map (suc n) r = by (is_some (k.stopped r.master)) (from_map n (unit k a plan (met_quantum k a plan r)))
    where
      by : (c : Bool) → mapped f (direct_from k a plan n (unit k a plan (met_quantum k a plan r))) ≡ direct_from k b plan n (mapped f (unit k a plan (met_quantum k a plan r))) → mapped f (if c then boundary k a plan r else direct_from k a plan n (unit k a plan (met_quantum k a plan r))) ≡ (if c then boundary k b plan (mapped f r) else direct_from k b plan n (unit k b plan (met_quantum k b plan (mapped f r))))
      by true more = boundary_map r
      by false more = more ∙ ap (direct_from k b plan n) (unit_map (met_quantum k a plan r) ∙ ap (unit k b plan) (if_map (at_quantum plan r.tick) r))

module _ {S : Type 0} (F : Type 0) (d : DeviceModel S) where
  gathered_dev : (w : Wire S) (h : Bool) (o : Option Want) (ms : List Packet) → (gathered_by w h o ms).device ≡ w.device
  gathered_dev w true o ms = refl
  gathered_dev w false None [] = refl
  gathered_dev w false None (m ∷ ms) = refl
  gathered_dev w false (Some v) [] = refl
  gathered_dev w false (Some v) (m ∷ ms) = refl

  early_dev : (w : Wire S) (ms : List Packet) → (early w ms).device ≡ w.device
  early_dev w [] = refl
  early_dev w (m ∷ ms) = refl

  access_dev : (w : Wire S) (t : ℕ) (a : Access) (po : Bool) → (access_wire F d w t a po).device ≡ (d.access w.device t a).0
  access_dev w t a true = refl
  access_dev w t a false = ap (λ s. (d.access s t a).0) (early_dev (record (access_sent F d w t a) { count = 0 }) (unread F d w))

  fed_dev : (w : Wire S) (r : Reply) (v : Want) (o : Option Want) (ms : List Packet) → o ≡ Some v → (fed_wire F d w r o ms).device ≡ d.feed w.device r
  fed_dev w r v None ms e = absurd (none-some v e)
  fed_dev w r v (Some u) ms e = refl

  pub forgets : IsMap (wired F d) d (λ (w : Wire S). w.device)
  forgets = record {
    access = λ w t a. access_dev w t a a.posted;
    answer = λ w t a. refl;
    advance = λ w t. gathered_dev (sync_sent F d w t) w.held (d.want (d.advance w.device t)) (unread F d (sync_sent F d w t));
    want = λ w. refl;
    due = λ w. refl;
    left = λ w. refl;
    feed = λ w v r e. gathered_dev (fed_wire F d w r (d.want w.device) (sends_of F d w)) (fed_wire F d w r (d.want w.device) (sends_of F d w)).held (d.want (fed_wire F d w r (d.want w.device) (sends_of F d w)).device) (unread F d (fed_wire F d w r (d.want w.device) (sends_of F d w))) ∙ fed_dev w r v (d.want w.device) (sends_of F d w) e;
  }
