-- The loop that serves the wants of one port, and that over all ports.
use Rattle.std.proofs.Common.{◌≡◌, ℕ, zero, suc, ◌<◌, ◌≤◌, List, [], ◌∷◌, length, set, get_or, slice_get, Option, Some, None, false, All, refl, sym, ap, ◌∙◌, subst, arith}
use Rattle.std.proofs.lemmas.List.{length-set}
use Rattle.std.proofs.lemmas.List.Elements.{All-set}
use Rattle.std.proofs.lemmas.Option.{slice_get_read, get_or_from_slice_get}
use Rattle.cosim_model.specs.declared.values.Plan.{Plan}
use Rattle.cosim_model.specs.Parts.{DeviceModel, MasterModel, IsDevice, IsMaster, served}
use Rattle.cosim_model.specs.Direct.{Direct, Moment, advance_device, serve_port, serve_device, serve_want}
use Rattle.direct_machine.specs.declared.run.Run.{Run}
use Rattle.direct_machine.specs.Runs.{at, Leads, IsReady, HasServed, IsIdle, Serves}
use Rattle.direct_machine.proofs.Units.{held}
use Rattle.direct_machine.proofs.Serving.{IsKept, kept-same, kept-both, served-kept, served-ready, serves-leads}

-- How many wants can follow each other on a port.

abbrev pub left_at : {S : Type 0} → DeviceModel S → Option S → ℕ
left_at d None = 0
left_at d (Some s) = d.left s

abbrev pub port_left : {S : Type 0} → DeviceModel S → ℕ → List S → ℕ
port_left d port ss = left_at d (slice_get ss port)

slice_get-set : {A : Type 0} (xs : List A) (i : ℕ) (x y : A) → slice_get xs i ≡ Some x → slice_get (set xs i y) i ≡ Some y
slice_get-set [] i x y e = absurd (cc)
slice_get-set (z ∷ xs) zero x y e = refl
slice_get-set (z ∷ xs) (suc i) x y e = slice_get-set xs i x y e

-- From `now` on at most n wants are left of the turn of the port that began at `start`.
pub record Settling {M S : Type 0} (k : MasterModel M) (d : DeviceModel S) (port : ℕ) (start now : Run M S) : Type 0 where
  pub ready : IsReady k d now
  pub tick : now.tick ≡ start.tick
  pub kept : IsKept k start.master now.master
  pub ports : length now.devices.items ≡ length start.devices.items
  pub n : ℕ
  pub few : port_left d port now.devices.items ≤ n
  pub leads : (plan : Plan) (before : List Moment) → (after : List Moment) × (advance_device k d plan (at start before) port (slice_get start.devices.items port) ≡ serve_port k d plan n port (at now after))

module _ {M S : Type 0} (k : MasterModel M) (d : DeviceModel S) (law : IsDevice d) (law' : IsMaster k) (port : ℕ) where
  pub port-falls : (old new : Run M S) → HasServed k d port old new → port_left d port new.devices.items < port_left d port old.devices.items
  port-falls old new h = subst (λ o. left_at d o < port_left d port old.devices.items) (sym (ap (λ ss. slice_get ss port) h.devices ∙ slice_get-set old.devices.items port h.device (d.feed h.device (served k old.master h.want).1) h.there))
      (subst (λ o. d.left (d.feed h.device (served k old.master h.want).1) < left_at d o) (sym h.there) (law.feed_left h.device (served k old.master h.want).1 h.want h.wants))

  pub settle-begins : (start now : Run M S) (s s' : S) → port < length start.devices.items → s ≡ get_or start.devices.items port s → s' ≡ d.advance s start.tick → IsReady k d start → now.master ≡ start.master → now.devices.items ≡ set start.devices.items port s' → now.calls.calls ≡ start.calls.calls → now.tick ≡ start.tick → Settling k d port start now
  settle-begins start now s s' there here is r master devices calls tick = record {
    ready = record {
      ports = (let a = r.ports in let e = long in omega arith);
      reach = (let a = r.reach in let b = ap k.reach master in let e = long in omega arith);
      issued = ap k.issued master ∙ r.issued;
      seen = subst (λ ss. All (λ (x : S). d.seen x ≤ now.tick) ss) (sym devices) (subst (λ t. All (λ (x : S). d.seen x ≤ t) (set start.devices.items port s')) (sym tick) (All-set (λ (x : S). d.seen x ≤ start.tick) start.devices.items port s' late r.seen));
    };
    tick = tick;
    kept = subst (λ m. IsKept k start.master m) (sym master) (kept-same k start.master);
    ports = long;
    n = d.left s';
    few = subst (λ o. left_at d o ≤ d.left s') (sym now_there) (omega arith);
    leads = λ plan before. (
      before,
      ap (advance_device k d plan (at start before) port) found
          ∙ ap (λ x. serve_port k d plan (d.left x) port (held start.master (set start.devices.items port x) start.calls.calls start.tick before)) (sym is)
          ∙ (λ i. serve_port k d plan (d.left s') port (held (sym master i) (sym devices i) (sym calls i) (sym tick i) before)),
    );
  }
    where
      found : slice_get start.devices.items port ≡ Some s
      found = slice_get_read start.devices.items (length start.devices.items) port s refl there here

      now_there : slice_get now.devices.items port ≡ Some s'
      now_there = ap (λ ss. slice_get ss port) devices ∙ slice_get-set start.devices.items port s s' found

      long : length now.devices.items ≡ length start.devices.items
      long = ap length devices ∙ length-set start.devices.items port s'

      late : d.seen s' ≤ start.tick
      late = (let was = subst (λ (x : S). d.seen x ≤ start.tick) (get_or_from_slice_get start.devices.items port s s found) (r.seen port s there) in let now' = law.advance_seen s start.tick was in let e = ap d.seen is in omega arith)

  pub settle-goes_on : (start now next : Run M S) → HasServed k d port now next → Settling k d port start now → Settling k d port start next
  settle-goes_on start now next h on = by on.n on.few on.leads
    where
      by : (n : ℕ) → port_left d port now.devices.items ≤ n → ((plan : Plan) (before : List Moment) → (after : List Moment) × (advance_device k d plan (at start before) port (slice_get start.devices.items port) ≡ serve_port k d plan n port (at now after))) → Settling k d port start next
      by zero few leads = absurd (let less = port-falls now next h in omega arith)
      by (suc n) few leads = record {
        ready = served-ready k d law law' port now next h on.ready;
        tick = h.tick ∙ on.tick;
        kept = kept-both k start.master now.master next.master on.kept (served-kept k d law law' port now next h);
        ports = ap length h.devices ∙ length-set now.devices.items port (d.feed h.device (served k now.master h.want).1) ∙ on.ports;
        n = n;
        few = (let less = port-falls now next h in omega arith);
        leads = λ plan before. (
            let was = leads plan before in
            let served = serves-leads k d law law' port now next h plan was.0 in
            (served.0, was.1 ∙ ap (serve_port k d plan n port) served.1));
      }

  port-none : (plan : Plan) (n : ℕ) (r : Direct M S) → serve_device k d plan r port (slice_get r.devices port) ≡ r → serve_port k d plan n port r ≡ r
  port-none plan zero r e = refl
  port-none plan (suc n) r e = ap (serve_port k d plan n port) e ∙ port-none plan n r e

  pub settle-ends : (start now next : Run M S) → IsIdle d port now next → Settling k d port start now → Leads (λ plan r. advance_device k d plan r port (slice_get r.devices port)) start now
  settle-ends start now next idle on plan before =
      let was = on.leads plan before in
      (was.0, was.1 ∙ port-none plan on.n (at now was.0) (ap (serve_device k d plan (at now was.0) port) idle.there ∙ ap (serve_want k d plan (at now was.0) port idle.device) idle.wants))

  pub settle-ends-at : (start now new : Run M S) → Serves k d port now new false → Settling k d port start now → Leads (λ plan r. advance_device k d plan r port (slice_get r.devices port)) start new
  settle-ends-at start now new idle on = subst (λ r. Leads (λ plan x. advance_device k d plan x port (slice_get x.devices port)) start r) (sym idle.same) (settle-ends start now new idle on)
