use Rattle.std.proofs.Common.{◌≡◌, ◌-◌, ap, ◌∙◌, take, drop, length, arith, length-drop}
use Rattle.world.proofs.Seating.{given-kept}
use Rattle.world.proofs.seat.Seat.give.Goals as goal

pub invariant_of-self-2 : goal.invariant_of-self-2
invariant_of-self-2 g c =
    let rest_is : length c.split_at.result.1.now ≡ length c.self.inside.out.bytes - c.self.inside.out_delivered =
    ap length (c.split_at.ensures.back ∙ ap (drop c.self.inside.out_delivered) c.as_slice.ensures)
    ∙ length-drop c.self.inside.out_delivered c.self.inside.out.bytes in
    let size = c.min-size.ensures in
    let fits = c.self.invariant.out_fits in
    given-kept c.self.inside.end c.feed.new.self _ c.split_at-2.result.0.now _ c.self.invariant
    (c.split_at-2.ensures.front ∙ ap (take c.min-size.result) (c.split_at.ensures.back ∙ ap (drop c.self.inside.out_delivered) c.as_slice.ensures))
    (omega (arith, rest_is, size, fits)) (omega arith) c.in-Ok.ensures.ok
