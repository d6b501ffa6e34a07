-- A unit of the direct machine.
use Rattle.std.proofs.Common.{◌≡◌, ◌+◌, ◌≤◌, [], ◌∷◌, length, slice_get, Option, Some, None, refl, sym, subst, arith, add-one, append-nil}
use Rattle.std.proofs.lemmas.List.{length-set}
use Rattle.cosim_model.specs.declared.values.Plan.{Plan}
use Rattle.cosim_model.specs.declared.values.Bus.{Bus}
use Rattle.cosim_model.specs.declared.values.Call.TheVariants as call
use Rattle.cosim_model.specs.Values.{plain}
use Rattle.cosim_model.specs.Parts.{DeviceModel, MasterModel, IsMaster}
use Rattle.cosim_model.specs.Direct.{Direct, unit, unit_of, access_device}
use Rattle.direct_machine.proofs.Units.{at-place}
use Rattle.histories.proofs.Adds.{Adds}

module _ {M S : Type 0} (k : MasterModel M) (d : DeviceModel S) (plan : Plan) (law : IsMaster k) where
  -- an access of a device that is there
  access-adds : (r : Direct M S) (b : Bus) (o : Option S) (s : S) → o ≡ Some s → Adds k r.tick (r.tick + 1) r (access_device k d plan r (k.issue r.master).0 b o)
  access-adds r b o s there = subst (λ o'. Adds k r.tick (r.tick + 1) r (access_device k d plan r (k.issue r.master).0 b o')) (sym there) (record {
    calls = call.Access r.tick b.port b.access (plain b.access (d.access s r.tick b.access).1) ∷ [];
    of_tick = (refl, tt);
    called = refl;
    history = refl;
    tick = sym (add-one r.tick);
    ports = length-set r.devices b.port (d.access s r.tick b.access).0;
    reach = (
        let issued = law.issue_reach r.master in
        let finished = law.finish_reach (k.issue r.master).0 (plain b.access (d.access s r.tick b.access).1) in
        omega arith);
  })

  issue-adds : (r : Direct M S) → k.reach r.master ≤ length r.devices → (o : Option Bus) → (k.issue r.master).1 ≡ o → Adds k r.tick (r.tick + 1) r (unit_of k d plan r (k.issue r.master).0 o)
  issue-adds r able None e = record {
    calls = [];
    of_tick = tt;
    called = sym (append-nil r.calls);
    history = sym (append-nil r.history);
    tick = sym (add-one r.tick);
    ports = refl;
    reach = law.issue_reach r.master;
  }
  issue-adds r able (Some b) e = (
      let issued = law.issue_access r.master b e in
      let near = issued.0 in
      let there = at-place r.devices b.port (omega arith) in
      access-adds r b (slice_get r.devices b.port) there.0 there.1)

  pub unit-adds : (r : Direct M S) → k.reach r.master ≤ length r.devices → Adds k r.tick (r.tick + 1) r (unit k d plan r)
  unit-adds r able = issue-adds r able (k.issue r.master).1 refl
