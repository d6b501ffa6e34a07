-- Wants are served.
use Rattle.std.proofs.Common.{◌≡◌, ℕ, zero, suc, ◌+◌, ◌<◌, ◌≤◌, Bool, true, false, nat_le, List, [], ◌∷◌, ◌++◌, length, map, set, get_or, slice_get, Option, Some, None, Result, Ok, Err, IfOk, All, refl, sym, ap, ◌∙◌, subst, arith}
use Rattle.std.specs.Prelude.{option_map}
use Rattle.std.proofs.lemmas.Option.{slice_get_read, slice_get_within, get_or_from_slice_get}
use Rattle.std.proofs.lemmas.List.{length-set}
use Rattle.std.proofs.lemmas.List.Elements.{All-set}
use Rattle.cosim_model.specs.declared.values.Plan.{Plan}
use Rattle.cosim_model.specs.declared.values.Reply.{Reply}
use Rattle.cosim_model.specs.declared.values.Want.{Want}
use Rattle.cosim_model.specs.declared.values.Want.TheVariants.{Fetch, Store, Line}
use Rattle.cosim_model.specs.declared.values.Call.TheVariants as call
use Rattle.cosim_model.specs.Values.{bits_of}
use Rattle.std.specs.Prelude.{take}
use Rattle.cosim_model.specs.Parts.{DeviceModel, MasterModel, IsDevice, IsMaster, IsWant, served, lined}
use Rattle.cosim_model.specs.Direct.{Direct, Moment, serve_device, serve_want, serve_all, serve_next, serve_one, all_left}
use Rattle.cosim_model.specs.Direct.Moment.{Called}
use Rattle.cosim_model.specs.Order.{least}
use Rattle.direct_machine.specs.declared.run.Run.{Run}
use Rattle.cos_api.specs.Lanes.{HasSize}
use Rattle.direct_machine.specs.Wants.{wanted_at, first_port}
use Rattle.direct_machine.specs.Runs.{at, IsReady, HasServed, Serves, ServesFirst}
use Rattle.cos_base.specs.declared.no_memory.NoMemory.{NoMemory}
use Rattle.direct_machine.proofs.Units.{held, read-twice}
use Rattle.direct_machine.proofs.Firsts.{want_times-are, first-wanting}

pub has-size : {S : Type 0} (d : DeviceModel S) → IsDevice d → (s : S) (w : Want) → d.want s ≡ Some w → HasSize w
has-size d law s w e = by w (law.want_is s w e)
  where
    by : (v : Want) → IsWant (d.needs s) v → HasSize v
    by (Fetch addr size) is = is.1
    by (Store addr size bytes mask) is = (is.0, is.1)
    by (Line number level) is = tt

-- What serving keeps of a master.
pub record IsKept {M : Type 0} (k : MasterModel M) (m m' : M) : Type 0 where
  pub stopped : k.stopped m' ≡ k.stopped m
  pub issued : k.issued m' ≡ k.issued m
  pub reach : k.reach m' ≤ k.reach m

pub kept-same : {M : Type 0} (k : MasterModel M) (m : M) → IsKept k m m
kept-same k m = record { stopped = refl; issued = refl; reach = omega arith }

pub kept-both : {M : Type 0} (k : MasterModel M) (a b c : M) → IsKept k a b → IsKept k b c → IsKept k a c
kept-both k a b c x y = record { stopped = y.stopped ∙ x.stopped; issued = y.issued ∙ x.issued; reach = (let p = x.reach in let q = y.reach in omega arith) }

pub served-keeps : {M : Type 0} (k : MasterModel M) → IsMaster k → (m : M) (w : Want) → IsKept k m (served k m w).0
served-keeps k law m (Fetch addr size) = kept-same k m
served-keeps k law m (Store addr size bytes mask) = (let e = law.write_keeps m addr (take size bytes) (bits_of mask size) in record { stopped = e.0; issued = e.1; reach = e.2 })
served-keeps k law m (Line number level) = by (nat_le number 31)
  where
    by : (b : Bool) → IsKept k m (lined k m number level b)
    by true = (let e = law.line_keeps m number level in record { stopped = e.0; issued = e.1; reach = e.2 })
    by false = kept-same k m

pub served-now : {M S : Type 0} (k : MasterModel M) (d : DeviceModel S) (port : ℕ) (old new : Run M S) (s s' fed : S) (want : Want) (reply : Reply) (due : ℕ) → port < length old.devices.items → s ≡ get_or old.devices.items port s → s' ≡ get_or old.devices.items port s' → d.want s ≡ Some want → served k old.master want ≡ (new.master, reply) → due ≡ d.due s' → fed ≡ d.feed s' reply → new.devices.items ≡ set old.devices.items port fed → new.calls.calls ≡ old.calls.calls ++ call.Served old.tick port due want reply ∷ [] → new.tick ≡ old.tick → HasServed k d port old new
served-now k d port old new s s' fed want reply due within here here' wants is time feeds devices calls tick = record {
  device = s;
  want = want;
  there = slice_get_read old.devices.items (length old.devices.items) port s refl within here;
  wants = wants;
  master = ap (λ p. p.0) (sym is);
  devices = devices ∙ ap (set old.devices.items port) (feeds ∙ ap (λ x. d.feed x reply) (sym same) ∙ ap (λ p. d.feed s p.1) (sym is));
  calls = calls ∙ ap (λ t. old.calls.calls ++ call.Served old.tick port t want reply ∷ []) (time ∙ ap d.due (sym same)) ∙ ap (λ p. old.calls.calls ++ call.Served old.tick port (d.due s) want p.1 ∷ []) (sym is);
  tick = tick;
}
  where
    same : s ≡ s'
    same = read-twice old.devices.items port s s' within here here'

-- How many wants can follow each other on all ports.
abbrev pub wants_left : {S : Type 0} → DeviceModel S → List S → ℕ
wants_left d [] = 0
wants_left d (s ∷ ss) = d.left s + wants_left d ss

pub all-left : {M S : Type 0} (k : MasterModel M) (d : DeviceModel S) (plan : Plan) (ss : List S) → all_left k d plan ss ≡ wants_left d ss
all-left k d plan [] = refl
all-left k d plan (s ∷ ss) = ap (λ n. d.left s + n) (all-left k d plan ss)

wants_left-set : {S : Type 0} (d : DeviceModel S) (ss : List S) (p : ℕ) (s s' : S) → slice_get ss p ≡ Some s → d.left s' < d.left s → wants_left d (set ss p s') < wants_left d ss
wants_left-set d [] p s s' e less = absurd (cc)
wants_left-set d (x ∷ ss) zero s s' e less = (let same : x ≡ s = cc in let f = ap d.left same in omega arith)
wants_left-set d (x ∷ ss) (suc p) s s' e less = (let h = wants_left-set d ss p s s' e less in omega arith)

module _ {M S : Type 0} (k : MasterModel M) (d : DeviceModel S) (law : IsDevice d) (law' : IsMaster k) where
  pub left-falls : (port : ℕ) (old new : Run M S) → HasServed k d port old new → wants_left d new.devices.items < wants_left d old.devices.items
  left-falls port old new h = subst (λ ss. wants_left d ss < wants_left d old.devices.items) (sym h.devices) (wants_left-set d old.devices.items port h.device (d.feed h.device (served k old.master h.want).1) h.there (law.feed_left h.device (served k old.master h.want).1 h.want h.wants))

  pub served-kept : (port : ℕ) (old new : Run M S) → HasServed k d port old new → IsKept k old.master new.master
  served-kept port old new h = subst (λ m. IsKept k old.master m) (sym h.master) (served-keeps k law' old.master h.want)

  pub served-ready : (port : ℕ) (old new : Run M S) → HasServed k d port old new → IsReady k d old → IsReady k d new
  served-ready port old new h r = record {
    ports = (let a = r.ports in let e = long in omega arith);
    reach = (let a = r.reach in let b = kept.reach in let e = long in omega arith);
    issued = kept.issued ∙ r.issued;
    seen = subst (λ ss. All (λ (s : S). d.seen s ≤ new.tick) ss) (sym h.devices) (subst (λ t. All (λ (s : S). d.seen s ≤ t) (set old.devices.items port fed)) (sym h.tick) (All-set (λ (s : S). d.seen s ≤ old.tick) old.devices.items port fed late r.seen));
  }
    where
      fed : S
      fed = d.feed h.device (served k old.master h.want).1

      kept : IsKept k old.master new.master
      kept = served-kept port old new h

      long : length new.devices.items ≡ length old.devices.items
      long = ap length h.devices ∙ length-set old.devices.items port fed

      late : d.seen fed ≤ old.tick
      late = subst (λ t. t ≤ old.tick) (sym (law.feed_seen h.device (served k old.master h.want).1)) (subst (λ (s : S). d.seen s ≤ old.tick) (get_or_from_slice_get old.devices.items port h.device h.device h.there) (r.seen port h.device (slice_get_within old.devices.items port h.device h.there)))

  pub serves-leads : (port : ℕ) (old new : Run M S) → HasServed k d port old new → (plan : Plan) (before : List Moment) → (after : List Moment) × (serve_device k d plan (at old before) port (slice_get old.devices.items port) ≡ at new after)
  serves-leads port old new h plan before = (
    before ++ Called (call.Served old.tick port (d.due h.device) h.want (served k old.master h.want).1) ∷ [],
    ap (serve_device k d plan (at old before) port) h.there
        ∙ ap (serve_want k d plan (at old before) port h.device) h.wants
        ∙ (λ i. held (sym h.master i) (sym h.devices i) (sym h.calls i) (sym h.tick i) (before ++ Called (call.Served old.tick port (d.due h.device) h.want (served k old.master h.want).1) ∷ [])),
  )

  -- the port that is found is the one that the definition serves

  next-of : (plan : Plan) (r : Direct M S) (o : Option (ℕ × ℕ)) (port : ℕ) → option_map (λ q. q.0) o ≡ Some port → serve_next k d plan r o ≡ serve_device k d plan r port (slice_get r.devices port)
  next-of plan r None port e = absurd (cc)
  next-of plan r (Some q) port e = (let same : q.0 ≡ port = cc in ap (λ p. serve_device k d plan r p (slice_get r.devices p)) same)

  next-none : (plan : Plan) (r : Direct M S) (o : Option (ℕ × ℕ)) → option_map (λ q. q.0) o ≡ None → serve_next k d plan r o ≡ r
  next-none plan r None e = refl
  next-none plan r (Some q) e = absurd (cc)

  pub one-of : (plan : Plan) (r : Direct M S) (port : ℕ) → first_port d r.devices ≡ Some port → serve_one k d plan r ≡ serve_device k d plan r port (slice_get r.devices port)
  one-of plan r port e = ap (λ os. serve_next k d plan r (least os)) (want_times-are k d plan r.devices) ∙ next-of plan r (least (map (wanted_at d) r.devices)) port e

  pub one-none : (plan : Plan) (r : Direct M S) → first_port d r.devices ≡ None → serve_one k d plan r ≡ r
  one-none plan r e = ap (λ os. serve_next k d plan r (least os)) (want_times-are k d plan r.devices) ∙ next-none plan r (least (map (wanted_at d) r.devices)) e

  pub all-none : (plan : Plan) (n : ℕ) (r : Direct M S) → serve_one k d plan r ≡ r → serve_all k d plan n r ≡ r
  all-none plan zero r e = refl
  all-none plan (suc n) r e = ap (serve_all k d plan n) e ∙ all-none plan n r e

  pub serves-first : (port : ℕ) (old new : Run M S) (r : Result Bool NoMemory) → first_port d old.devices.items ≡ Some port → IfOk r (Serves k d port old new) → IfOk r (ServesFirst k d old new)
  serves-first port old new (Err x) first serves = tt
  serves-first port old new (Ok true) first serves = (port, first, serves)
  serves-first port old new (Ok false) first serves = absurd (
      let wanting = first-wanting d old.devices.items port first in
      let one = wanting.there in
      let none = serves.there in
      let same : wanting.device ≡ serves.device = cc in
      let a = wanting.wants in
      let b = serves.wants in
      let f = ap d.want same in cc)

  pub first-there : (port : ℕ) (ss : List S) → first_port d ss ≡ Some port → port < length ss
  first-there port ss first = (let wanting = first-wanting d ss port first in slice_get_within ss port wanting.device wanting.there)
