-- The loop over all ports.
use Rattle.std.proofs.Common.{◌≡◌, ℕ, suc, ◌+◌, ◌-◌, ◌<◌, ◌≤◌, List, [], ◌∷◌, ◌++◌, length, slice_get, refl, sym, ap, ◌∙◌, arith, add-one}
use Rattle.cosim_model.specs.declared.values.Plan.{Plan}
use Rattle.cosim_model.specs.Parts.{DeviceModel, MasterModel}
use Rattle.cosim_model.specs.Direct.{Moment, boundary_by_port, advance_device, each_port}
use Rattle.cosim_model.specs.Direct.Moment.{Boundary}
use Rattle.direct_machine.specs.declared.run.Run.{Run}
use Rattle.direct_machine.specs.Runs.{at, Leads, IsReady}

-- From `now` on the ports from that one on are left of the boundary that began at `start`.
pub record Porting {M S : Type 0} (k : MasterModel M) (d : DeviceModel S) (port : ℕ) (start now : Run M S) : Type 0 where
  pub ready : IsReady k d now
  pub tick : now.tick ≡ start.tick
  pub stopped : k.stopped now.master ≡ k.stopped start.master
  pub ports : length now.devices.items ≡ length start.devices.items
  pub leads : (plan : Plan) (before : List Moment) → (after : List Moment) × (boundary_by_port k d plan (at start before) ≡ each_port k d plan (length start.devices.items - port) port (at now after))

module _ {M S : Type 0} (k : MasterModel M) (d : DeviceModel S) where
  pub ports-begin : (start : Run M S) → IsReady k d start → Porting k d 0 start start
  ports-begin start ready = record {
    ready = ready;
    tick = refl;
    stopped = refl;
    ports = refl;
    leads = λ plan before. (before ++ Boundary start.tick ∷ [], ap (λ n. each_port k d plan n 0 (at start (before ++ Boundary start.tick ∷ []))) whole);
  }
    where
      whole : length start.devices.items ≡ length start.devices.items - 0
      whole = omega arith

  pub ports-more : (port : ℕ) (start now next : Run M S) → port < length start.devices.items → Leads (λ plan r. advance_device k d plan r port (slice_get r.devices port)) now next → IsReady k d next → next.tick ≡ now.tick → k.stopped next.master ≡ k.stopped now.master → length next.devices.items ≡ length now.devices.items → Porting k d port start now → Porting k d (port + 1) start next
  ports-more port start now next within leads ready tick stopped ports on = record {
    ready = ready;
    tick = tick ∙ on.tick;
    stopped = stopped ∙ on.stopped;
    ports = ports ∙ on.ports;
    leads = λ plan before. (
        let was = on.leads plan before in
        let more = leads plan was.0 in (
          more.0,
          was.1
              ∙ ap (λ n. each_port k d plan n port (at now was.0)) one
              ∙ ap (λ p. each_port k d plan (length start.devices.items - (port + 1)) p (advance_device k d plan (at now was.0) port (slice_get now.devices.items port))) (sym (add-one port))
              ∙ ap (each_port k d plan (length start.devices.items - (port + 1)) (port + 1)) more.1,
        ));
  }
    where
      one : length start.devices.items - port ≡ suc (length start.devices.items - (port + 1))
      one = omega arith

  pub ports-end : (port : ℕ) (start now : Run M S) → length start.devices.items ≤ port → Porting k d port start now → Leads (boundary_by_port k d) start now
  ports-end port start now all on plan before =
      let was = on.leads plan before in
      (was.0, was.1 ∙ ap (λ n. each_port k d plan n port (at now was.0)) none)
    where
      none : length start.devices.items - port ≡ 0
      none = omega arith
