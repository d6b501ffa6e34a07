use Rattle.std.proofs.Common.{◌≡◌, ◌+◌, drop, get_or}
use Rattle.cos_map.specs.Parts.{shared_found}
use Rattle.cos_map.proofs.parts.shared.Given as goal

abbrev pub invariant-others : goal.invariant-others
invariant-others l =
    let x = get_or l.all l.a (record { base = 0; size = 0 }) in
    shared_found l.a x (l.a + 1) (drop (l.a + 1) l.all) ≡ shared_found l.a x l.b (drop l.b l.all)
