use Rattle.std.proofs.Common.{◌≡◌, ap, arith, length, suc}
use Rattle.std.specs.Vec.Iter.{into_iter_items}
use Rattle.cos_parts.specs.AnyDevices.{any_seen}
use Rattle.memory_run.proofs.Counting.{all-rest}
use Rattle.memory_run.proofs.configured.make_links.Goals as goal

pub devices-preserved : goal.devices-preserved
devices-preserved c =
    let steps = c.in-Some.ensures.steps.0 in
    let fewer : length (into_iter_items c.devices.device-iterator) ≡ suc (length (into_iter_items c.next.new.self)) =
    ap length steps in
    let invariant = c.devices.invariant in
    record {
      fresh = all-rest (λ d. any_seen d ≡ 0) _ _ c.in-Some.device steps invariant.fresh;
      count = omega (arith, fewer, invariant.count, c.in_ok-push.ensures.len);
    }
