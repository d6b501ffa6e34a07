-- A boundary of the direct machine, its wants served by due time.
use Rattle.std.proofs.Common.{◌≡◌, ℕ, zero, suc, [], ◌∷◌, map, slice_get, Option, Some, None, refl, sym, append-nil, arith}
use Rattle.std.proofs.lemmas.List.{length-set, length-map}
use Rattle.cosim_model.specs.declared.values.Plan.{Plan}
use Rattle.cosim_model.specs.declared.values.Want.{Want}
use Rattle.cosim_model.specs.declared.values.Call.TheVariants as call
use Rattle.cosim_model.specs.Parts.{DeviceModel, MasterModel, IsMaster, served}
use Rattle.cosim_model.specs.Order.{least}
use Rattle.cosim_model.specs.Direct.{Direct, want_time, serve_want, serve_device, serve_next, serve_one, serve_all, all_left, advance_all, mark, boundary}
use Rattle.direct_machine.proofs.Serving.{served-keeps}
use Rattle.histories.proofs.Adds.{Adds, adds-none, adds-both}

module _ {M S : Type 0} (k : MasterModel M) (d : DeviceModel S) (plan : Plan) (law : IsMaster k) where
  want-adds : (t : ℕ) (r : Direct M S) (p : ℕ) (s : S) (o : Option Want) → r.tick ≡ t → Adds k t t r (serve_want k d plan r p s o)
  want-adds t r p s None e = adds-none k t r e
  want-adds t r p s (Some w) e = record {
    calls = call.Served r.tick p (d.due s) w (served k r.master w).1 ∷ [];
    of_tick = (e, tt);
    called = refl;
    history = refl;
    tick = e;
    ports = length-set r.devices p (d.feed s (served k r.master w).1);
    reach = (served-keeps k law r.master w).reach;
  }

  pub device-adds : (t : ℕ) (r : Direct M S) (p : ℕ) (o : Option S) → r.tick ≡ t → Adds k t t r (serve_device k d plan r p o)
  device-adds t r p None e = adds-none k t r e
  device-adds t r p (Some s) e = want-adds t r p s (d.want s) e

  next-adds : (t : ℕ) (r : Direct M S) (o : Option (ℕ × ℕ)) → r.tick ≡ t → Adds k t t r (serve_next k d plan r o)
  next-adds t r None e = adds-none k t r e
  next-adds t r (Some q) e = device-adds t r q.0 (slice_get r.devices q.0) e

  one-adds : (t : ℕ) (r : Direct M S) → r.tick ≡ t → Adds k t t r (serve_one k d plan r)
  one-adds t r e = next-adds t r (least (map (want_time k d plan) r.devices)) e

  all-adds : (t n : ℕ) (r : Direct M S) → r.tick ≡ t → Adds k t t r (serve_all k d plan n r)
  all-adds t zero r e = adds-none k t r e
  all-adds t (suc n) r e = (
      let one = one-adds t r e in
      adds-both k t t r (serve_one k d plan r) (serve_all k d plan n (serve_one k d plan r)) one (all-adds t n (serve_one k d plan r) one.tick))

  advance-adds : (t : ℕ) (r : Direct M S) → r.tick ≡ t → Adds k t t r (advance_all k d plan r)
  advance-adds t r e = record {
    calls = [];
    of_tick = tt;
    called = sym (append-nil r.calls);
    history = sym (append-nil r.history);
    tick = e;
    ports = length-map r.devices (λ s. d.advance s r.tick);
    reach = omega arith;
  }

  pub boundary-adds : (r : Direct M S) → Adds k r.tick r.tick (mark k d plan r) (boundary k d plan r)
  boundary-adds r = adds-both k r.tick r.tick marked advanced (boundary k d plan r) (advance-adds r.tick marked refl) (all-adds r.tick (all_left k d plan advanced.devices) advanced refl)
    where
      marked : Direct M S
      marked = mark k d plan r

      advanced : Direct M S
      advanced = advance_all k d plan marked
