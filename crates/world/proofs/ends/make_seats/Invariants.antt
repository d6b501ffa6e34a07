use Rattle.std.proofs.Common.{◌≡◌, map}
use Rattle.process_network.specs.Star.{new_link}
use Rattle.world.proofs.ends.make_seats.Given as goal

abbrev pub invariant-ends : goal.invariant-ends
invariant-ends g l = record {
  ends : map (λ s. s.end) l.seats.items ≡ l.yielded;
  links : map (λ s. s.link) l.seats.items ≡ map (λ e. new_link) l.yielded;
}
