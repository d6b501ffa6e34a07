-- A peer that says the same whatever it hears keeps the law of peers.
use Rattle.std.specs.Prelude.{List, ℕ, IfSome, Bool, true, false}
use Rattle.cos_base.specs.Links.{Grows}
use Rattle.cos_base.specs.Prefixes.{IsPrefix-same}
use Rattle.cos_memory.specs.Peers.{told_while, always}

-- what it says grows with what it hears
pub always_grows : (b : Bool) (heard bytes : List ℕ)
    → IfSome (told_while b (record { heard = heard; says = always bytes })) (λ s. Grows s.says)
always_grows true heard bytes = λ x y. IsPrefix-same bytes
always_grows false heard bytes = tt
