-- The loop over all units.
use Rattle.std.proofs.Common.{◌≡◌, ◌≢◌, ℕ, zero, suc, ◌+◌, ◌%◌, ◌<◌, ◌≤◌, Bool, true, false, not, if◌then◌else◌, List, [], Option, Some, None, is_some, refl, sym, ap, ◌∙◌, subst, arith, ◌⊎◌, ⊎_elim, inl, inr}
use Rattle.cosim_model.specs.declared.values.Plan.{Plan}
use Rattle.cosim_model.specs.Parts.{DeviceModel, MasterModel}
use Rattle.cosim_model.specs.Order.{at_quantum}
use Rattle.cosim_model.specs.Direct.{Direct, Moment, direct_start, direct_from, by_port_from, direct, direct_by_port, unit, met_quantum, by_port_if}
use Rattle.cosim_model.specs.Direct as model
use Rattle.direct_machine.specs.declared.run.WantOrder.{WantOrder}
use Rattle.direct_machine.specs.declared.run.WantOrder.TheVariants.{ByDue, ByPort}
use Rattle.direct_machine.specs.declared.run.Run.{Run}
use Rattle.direct_machine.specs.Runs.{at, Leads, IsReady}
use Rattle.direct_machine.specs.Orders.{boundary_in, boundary_if, run_from, direct_in}
use Rattle.direct_machine.specs.Quanta.{IsNext, Meets}
use Rattle.std.specs.Global.{Vec}
use Rattle.cos_api.specs.CallLists.{Kept}
use Rattle.direct_machine.specs.Outcomes.{Gives}
use Rattle.direct_machine.proofs.Nexts.{is-multiple, later-next, after-next}

-- Where `run` is, n units are left of the run that began at `start`.
pub record Running {M S : Type 0} (k : MasterModel M) (d : DeviceModel S) (order : WantOrder) (plan : Plan) (start run : Run M S) (next : ℕ) : Type 0 where
  pub ready : IsReady k d run
  pub next_is : IsNext plan.quantum run.tick next
  pub n : ℕ
  pub left : run.tick + n ≡ plan.units
  pub leads : (before : List Moment) → (after : List Moment) × (run_from k d order plan plan.units (at start before) ≡ run_from k d order plan n (at run after))

pub none-of : {A : Type 0} (o p : Option A) (r : Bool) → is_some o ≡ not r → o ≡ p → r ≡ true → p ≡ None
none-of o None r e same is = refl
none-of o (Some x) r e same is = absurd (let f : is_some o ≡ true = ap is_some same in let g : not r ≡ false = ap not is in cc)

pub some-of : {A : Type 0} (o p : Option A) (r : Bool) → is_some o ≡ not r → o ≡ p → r ≡ false → is_some p ≡ true
some-of o p r e same is = ap is_some (sym same) ∙ e ∙ ap not is

-- The boundary of a multiple of the quantum.

pub meets-none : {M S : Type 0} (k : MasterModel M) (d : DeviceModel S) (order : WantOrder) (quantum : ℕ) (run : Run M S) (next : ℕ) → (run.tick ≡ next → ⊥) → IsReady k d run → IsNext quantum run.tick next → Meets k d order quantum run run next
meets-none k d order quantum run next not_there ready is = record {
  leads = λ plan before. (before, ap (λ b. boundary_if k d order plan b (at run before)) (is.between run.tick (omega arith) below));
  ready = ready;
  tick = refl;
  stopped = refl;
  next_is = later-next quantum run.tick next not_there is;
}
  where
    below : run.tick < next
    below = (let a = is.ahead in let b : run.tick ≢ next = not_there in omega arith)

pub meets-one : {M S : Type 0} (k : MasterModel M) (d : DeviceModel S) (order : WantOrder) (quantum : ℕ) (run new : Run M S) (next : ℕ) → run.tick ≡ next → Leads (boundary_in k d order) run new → IsReady k d new → new.tick ≡ run.tick → k.stopped new.master ≡ k.stopped run.master → IsNext quantum run.tick next → Meets k d order quantum run new (next + quantum)
meets-one k d order quantum run new next there leads ready tick stopped is = record {
  leads = λ plan before. (let was = leads plan before in (was.0, ap (λ b. boundary_if k d order plan b (at run before)) (is-multiple quantum run.tick (let a = is.far in let b = is.some in omega arith) (ap (λ t. t % quantum) there ∙ is.multiple)) ∙ was.1));
  ready = ready;
  tick = tick;
  stopped = stopped;
  next_is = after-next quantum run.tick next there is;
}

module _ {M S : Type 0} (k : MasterModel M) (d : DeviceModel S) (order : WantOrder) (plan : Plan) where
  pub runs-begin : (start : Run M S) (next : ℕ) → IsReady k d start → start.tick ≡ 0 → IsNext plan.quantum 0 next → Running k d order plan start start next
  runs-begin start next ready tick is = record {
    ready = ready;
    next_is = subst (λ t. IsNext plan.quantum t next) (sym tick) is;
    n = plan.units;
    left = omega arith;
    leads = λ before. (before, refl);
  }

  goes : (n : ℕ) (r : Direct M S) → k.stopped r.master ≡ None → run_from k d order plan (suc n) r ≡ run_from k d order plan n (unit k d plan (boundary_if k d order plan (at_quantum plan r.tick) r))
  goes n r e = ap (λ o. if is_some o then boundary_in k d order plan r else run_from k d order plan n (unit k d plan (boundary_if k d order plan (at_quantum plan r.tick) r))) e

  stops : (n : ℕ) (r : Direct M S) → (n ≡ 0) ⊎ (is_some (k.stopped r.master) ≡ true) → run_from k d order plan n r ≡ boundary_in k d order plan r
  stops zero r h = refl
  stops (suc n) r h = ⊎_elim (λ (e : suc n ≡ 0). absurd (omega arith)) (λ (e : is_some (k.stopped r.master) ≡ true). ap (λ b. if b then boundary_in k d order plan r else run_from k d order plan n (unit k d plan (boundary_if k d order plan (at_quantum plan r.tick) r))) e) h

  pub runs-more : (start run met new : Run M S) (next later : ℕ) → run.tick < plan.units → k.stopped run.master ≡ None → Meets k d order plan.quantum run met later → Leads (unit k d) met new → IsReady k d new → new.tick ≡ met.tick + 1 → Running k d order plan start run next → Running k d order plan start new later
  runs-more start run met new next later some goes_on meets leads ready tick on = by on.n on.left on.leads
    where
      by : (n : ℕ) → run.tick + n ≡ plan.units → ((before : List Moment) → (after : List Moment) × (run_from k d order plan plan.units (at start before) ≡ run_from k d order plan n (at run after))) → Running k d order plan start new later
      by zero left was = absurd (omega arith)
      by (suc n) left was = record {
        ready = ready;
        next_is = subst (λ t. IsNext plan.quantum t later) (let a = meets.tick in sym (tick ∙ ap (λ t. t + 1) a)) meets.next_is;
        n = n;
        left = (let a = meets.tick in omega arith);
        leads = λ before. (
            let now = was before in
            let met_now = meets.leads plan now.0 in
            let unit_now = leads plan met_now.0 in
            (unit_now.0, now.1 ∙ goes n (at run now.0) goes_on ∙ ap (λ r. run_from k d order plan n (unit k d plan r)) met_now.1 ∙ ap (run_from k d order plan n) unit_now.1));
      }

  pub runs-end : (start run new : Run M S) (next : ℕ) → (plan.units ≤ run.tick) ⊎ (is_some (k.stopped run.master) ≡ true) → Leads (boundary_in k d order) run new → Running k d order plan start run next → Leads (λ p. run_from k d order plan plan.units) start new
  runs-end start run new next over leads on p before =
      let was = on.leads before in
      let last = leads plan was.0 in
      (last.0, was.1 ∙ stops on.n (at run was.0) none ∙ last.1)
    where
      none : (on.n ≡ 0) ⊎ (is_some (k.stopped run.master) ≡ true)
      none = ⊎_elim (λ (h : plan.units ≤ run.tick). inl (let a = on.left in omega arith)) (λ (e : is_some (k.stopped run.master) ≡ true). inr e) over

-- The run in either order is the definition's.

module _ {M S : Type 0} (k : MasterModel M) (d : DeviceModel S) (plan : Plan) where
  due-if : (b : Bool) (r : Direct M S) → boundary_if k d ByDue plan b r ≡ model.boundary_if k d plan b r
  due-if true r = refl
  due-if false r = refl

  port-if : (b : Bool) (r : Direct M S) → boundary_if k d ByPort plan b r ≡ by_port_if k d plan b r
  port-if true r = refl
  port-if false r = refl

  due-from : (n : ℕ) (r : Direct M S) → run_from k d ByDue plan n r ≡ direct_from k d plan n r
  due-from zero r = refl
  due-from (suc n) r = ap (λ x. if is_some (k.stopped r.master) then model.boundary k d plan r else x) (due-from n (unit k d plan (boundary_if k d ByDue plan (at_quantum plan r.tick) r)) ∙ ap (λ x. direct_from k d plan n (unit k d plan x)) (due-if (at_quantum plan r.tick) r))

  port-from : (n : ℕ) (r : Direct M S) → run_from k d ByPort plan n r ≡ by_port_from k d plan n r
  port-from zero r = refl
  port-from (suc n) r = ap (λ x. if is_some (k.stopped r.master) then model.boundary_by_port k d plan r else x) (port-from n (unit k d plan (boundary_if k d ByPort plan (at_quantum plan r.tick) r)) ∙ ap (λ x. by_port_from k d plan n (unit k d plan x)) (port-if (at_quantum plan r.tick) r))

  pub run-is : (order : WantOrder) (m : M) (ss : List S) → run_from k d order plan plan.units (direct_start m ss) ≡ direct_in k d order plan m ss
  run-is ByDue m ss = due-from plan.units (direct_start m ss)
  run-is ByPort m ss = port-from plan.units (direct_start m ss)

  pub run-gives : (order : WantOrder) (master : M) (devices : Vec S) (calls : Kept) (new : Run M S) (ss : List S) → calls.calls ≡ [] → Leads (λ p. run_from k d order plan plan.units) (record { master = master; devices = devices; calls = calls; tick = 0 }) new → ss ≡ new.devices.items → Gives (direct_in k d order plan master devices.items) (record { master = new.master; devices = ss; calls = new.calls; ticks = new.tick })
  run-gives order master devices calls new ss none leads same = record {
    master = ap (λ r. r.master) (sym ended);
    devices = same ∙ ap (λ r. r.devices) (sym ended);
    calls = ap (λ r. r.calls) (sym ended);
    ticks = ap (λ r. r.tick) (sym ended);
  }
    where
      last : (after : List Moment) × (run_from k d order plan plan.units (at (record { master = master; devices = devices; calls = calls; tick = 0 }) []) ≡ at new after)
      last = leads plan []

      begun : direct_start master devices.items ≡ at (record { master = master; devices = devices; calls = calls; tick = 0 }) []
      begun = λ i. record { master = master; devices = devices.items; calls = sym none i; tick = 0; history = [] }

      ended : direct_in k d order plan master devices.items ≡ at new last.0
      ended = sym (run-is order master devices.items) ∙ ap (run_from k d order plan plan.units) begun ∙ last.1
