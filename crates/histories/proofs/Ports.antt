-- A boundary of the direct machine, its wants served port by port.
use Rattle.std.proofs.Common.{◌≡◌, ℕ, zero, suc, [], length, set, slice_get, Option, Some, None, refl, sym, append-nil, arith}
use Rattle.std.proofs.lemmas.List.{length-set}
use Rattle.cosim_model.specs.declared.values.Plan.{Plan}
use Rattle.cosim_model.specs.Parts.{DeviceModel, MasterModel, IsMaster}
use Rattle.cosim_model.specs.Direct.{Direct, serve_device, serve_port, advance_device, each_port, mark, boundary_by_port}
use Rattle.histories.proofs.Adds.{Adds, adds-none, adds-both}
use Rattle.histories.proofs.Serves.{device-adds}

module _ {M S : Type 0} (k : MasterModel M) (d : DeviceModel S) (plan : Plan) (law : IsMaster k) where
  port-adds : (t n p : ℕ) (r : Direct M S) → r.tick ≡ t → Adds k t t r (serve_port k d plan n p r)
  port-adds t zero p r e = adds-none k t r e
  port-adds t (suc n) p r e = (
      let one = device-adds k d plan law t r p (slice_get r.devices p) e in
      let next = serve_device k d plan r p (slice_get r.devices p) in
      adds-both k t t r next (serve_port k d plan n p next) one (port-adds t n p next one.tick))

  -- a device that is brought to the tick
  abbrev brought : Direct M S → ℕ → S → Direct M S
  brought r p s = record r { devices = set r.devices p (d.advance s r.tick) }

  brought-adds : (t : ℕ) (r : Direct M S) (p : ℕ) (s : S) → r.tick ≡ t → Adds k t t r (brought r p s)
  brought-adds t r p s e = record {
    calls = [];
    of_tick = tt;
    called = sym (append-nil r.calls);
    history = sym (append-nil r.history);
    tick = e;
    ports = length-set r.devices p (d.advance s r.tick);
    reach = omega arith;
  }

  turn-adds : (t : ℕ) (r : Direct M S) (p : ℕ) (o : Option S) → r.tick ≡ t → Adds k t t r (advance_device k d plan r p o)
  turn-adds t r p None e = adds-none k t r e
  turn-adds t r p (Some s) e =
      adds-both k t t r (brought r p s) (advance_device k d plan r p (Some s)) (brought-adds t r p s e)
      (port-adds t (d.left (d.advance s r.tick)) p (brought r p s) e)

  each-adds : (t n p : ℕ) (r : Direct M S) → r.tick ≡ t → Adds k t t r (each_port k d plan n p r)
  each-adds t zero p r e = adds-none k t r e
  each-adds t (suc n) p r e = (
      let one = turn-adds t r p (slice_get r.devices p) e in
      let next = advance_device k d plan r p (slice_get r.devices p) in
      adds-both k t t r next (each_port k d plan n (suc p) next) one (each-adds t n (suc p) next one.tick))

  pub boundary_by_port-adds : (r : Direct M S) → Adds k r.tick r.tick (mark k d plan r) (boundary_by_port k d plan r)
  boundary_by_port-adds r = each-adds r.tick (length r.devices) 0 (mark k d plan r) refl
