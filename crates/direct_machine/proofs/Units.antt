-- One unit of the direct machine.
use Rattle.std.proofs.Common.{◌≡◌, ℕ, zero, suc, ◌+◌, ◌<◌, ◌≤◌, List, [], ◌∷◌, ◌++◌, length, set, get_or, slice_get, Option, Some, None, Result, Ok, Err, OnOk, refl, sym, ap, ◌∙◌, subst, arith, add-one, All, true}
use Rattle.std.proofs.lemmas.Option.{slice_get_read}
use Rattle.cosim_model.specs.declared.values.Plan.{Plan}
use Rattle.cosim_model.specs.declared.values.Answer.{Answer}
use Rattle.cosim_model.specs.declared.values.Bus.{Bus}
use Rattle.cosim_model.specs.declared.values.Call.{Call}
use Rattle.cosim_model.specs.declared.values.Call.TheVariants as call
use Rattle.cosim_model.specs.Values.{plain, all_on, bits_of}
use Rattle.cos_base.specs.declared.no_memory.NoMemory.{NoMemory}
use Rattle.cosim_model.specs.Parts.{DeviceModel, MasterModel, IsMaster, IsAccess}
use Rattle.cosim_model.specs.Direct.{Direct, Moment, unit, unit_of, access_device}
use Rattle.cosim_model.specs.Direct.Moment.{Called}
use Rattle.direct_machine.specs.declared.run.Run.{Run}
use Rattle.direct_machine.specs.Runs.{Leads, IsReady, IsIssued}

-- the direct machine with these parts
abbrev pub held : {M S : Type 0} → M → List S → List Call → ℕ → List Moment → Direct M S
held m ss cs t h = record { master = m; devices = ss; calls = cs; tick = t; history = h }

-- what a device has that was read twice
pub read-twice : {A : Type 0} (xs : List A) (i : ℕ) (x y : A) → i < length xs → x ≡ get_or xs i x → y ≡ get_or xs i y → x ≡ y
read-twice [] i x y within e f = absurd (omega arith)
read-twice (z ∷ xs) zero x y within e f = e ∙ sym f
read-twice (z ∷ xs) (suc i) x y within e f = read-twice xs i x y (omega arith) e f

-- a place of a list has an element
pub at-place : {A : Type 0} (xs : List A) (i : ℕ) → i < length xs → (x : A) × (slice_get xs i ≡ Some x)
at-place [] i within = absurd (omega arith)
at-place (z ∷ xs) zero within = (z, refl)
at-place (z ∷ xs) (suc i) within = at-place xs i (omega arith)

module _ {M S : Type 0} (k : MasterModel M) (d : DeviceModel S) (plan : Plan) where
  pub local-unit : (m m' : M) (ss : List S) (cs : List Call) (t : ℕ) (h : List Moment) → k.issue m ≡ (m', None) → unit k d plan (held m ss cs t h) ≡ held m' ss cs (t + 1) h
  local-unit m m' ss cs t h e = ap (λ p. unit_of k d plan (held m ss cs t h) p.0 p.1) e ∙ ap (λ n. held m' ss cs n h) (sym (add-one t))

  pub issued-unit : (m m' : M) (b : Bus) (ss : List S) (cs : List Call) (t : ℕ) (h : List Moment) → b.port < length ss → k.issue m ≡ (m', Some b) → unit k d plan (held m ss cs t h) ≡ access_device k d plan (held m' ss cs t h) m' b (slice_get ss b.port)
  issued-unit m m' b ss cs t h there e = ap (λ p. unit_of k d plan (held m ss cs t h) p.0 p.1) e ∙ same (slice_get ss b.port) (at-place ss b.port there)
    where
      same : (o : Option S) → ((x : S) × (o ≡ Some x)) → access_device k d plan (held m ss cs t h) m' b o ≡ access_device k d plan (held m' ss cs t h) m' b o
      same None x = (let none = x.1 in absurd (cc))
      same (Some s) x = refl

  pub access-unit : (m m' : M) (b : Bus) (ss : List S) (s s' : S) (x y : Answer) (cs cs' : List Call) (t : ℕ) (h : List Moment) → b.port < length ss → s ≡ get_or ss b.port s → d.access s t b.access ≡ (s', x) → y ≡ plain b.access x → m' ≡ k.finish m y → cs' ≡ cs ++ call.Access t b.port b.access y ∷ [] → access_device k d plan (held m ss cs t h) m b (slice_get ss b.port) ≡ held m' (set ss b.port s') cs' (t + 1) (h ++ Called (call.Access t b.port b.access y) ∷ [])
  access-unit m m' b ss s s' x y cs cs' t h there here is py my ey = ap (access_device k d plan (held m ss cs t h) m b) (slice_get_read ss (length ss) b.port s refl there here)
      ∙ (λ i. held (k.finish m (plain b.access (is i).1)) (set ss b.port (is i).0) (cs ++ call.Access t b.port b.access (plain b.access (is i).1) ∷ []) (suc t) (h ++ Called (call.Access t b.port b.access (plain b.access (is i).1)) ∷ []))
      ∙ ap (λ z. held (k.finish m z) (set ss b.port s') (cs ++ call.Access t b.port b.access z ∷ []) (suc t) (h ++ Called (call.Access t b.port b.access z) ∷ [])) (sym py)
      ∙ (λ i. held (sym my i) (set ss b.port s') (sym ey i) (sym (add-one t) i) (h ++ Called (call.Access t b.port b.access y) ∷ []))

-- An access that is issued may go to its device.

pub in-reach : {M S : Type 0} (k : MasterModel M) → IsMaster k → (m m' : M) (b : Bus) (ss : List S) → k.issue m ≡ (m', Some b) → k.reach m ≤ length ss → b.port < length ss
in-reach k law m m' b ss e reach = (let at = law.issue_access m b (ap (λ p. p.1) e) in let near = at.0 in omega arith)

pub issued-ready : {M S : Type 0} (k : MasterModel M) (d : DeviceModel S) → IsMaster k → (old mid : Run M S) (b : Bus) → k.issue old.master ≡ (mid.master, Some b) → IsReady k d old → mid.devices.items ≡ old.devices.items → mid.tick ≡ old.tick → IsIssued k d mid b
issued-ready k d law old mid b e r devices tick = record {
  ports = (let a = r.ports in let f = ap length devices in omega arith);
  reach = (let a = r.reach in let f = ap length devices in let g = ap k.reach now in let h = law.issue_reach old.master in omega arith);
  issued = ap k.issued (sym now) ∙ is.2;
  seen = subst (λ ss. All (λ s. d.seen s ≤ mid.tick) ss) (sym devices) (subst (λ t. All (λ s. d.seen s ≤ t) old.devices.items) (sym tick) r.seen);
  there = (let a = r.reach in let f = ap length devices in let near = is.0 in omega arith);
  access = is.1;
}
  where
    now : (k.issue old.master).0 ≡ mid.master
    now = ap (λ p. p.0) e

    is : (b.port < k.reach old.master) × IsAccess b.access × (k.issued (k.issue old.master).0 ≡ Some b) × (k.full old.master ≡ true → all_on (bits_of b.access.lanes b.access.size) ≡ true)
    is = law.issue_access old.master b (ap (λ p. p.1) e)

pub unit-leads : {M S : Type 0} (k : MasterModel M) (d : DeviceModel S) → IsMaster k → (old new : Run M S) (m : M) (b : Bus) (r : Result (Unit {0}) NoMemory) → k.issue old.master ≡ (m, Some b) → IsReady k d old → OnOk r (Leads (λ plan x. access_device k d plan x x.master b (slice_get x.devices b.port)) (record old { master = m }) new) → OnOk r (Leads (unit k d) old new)
unit-leads k d law old new m b (Err x) e ready leads = tt
unit-leads k d law old new m b (Ok x) e ready leads = λ plan before. (
    let was = leads plan before in
    (was.0, issued-unit k d plan old.master m b old.devices.items old.calls.calls old.tick before (in-reach k law old.master m b old.devices.items e ready.reach) e ∙ was.1))
