-- Links on which nothing was sent or received.
use Rattle.std.proofs.Common.{◌≡◌, List, map, subst, sym}
use Rattle.std.specs.Prelude.{Option}
use Rattle.cos_base.specs.Links.{Wire}
use Rattle.end_machine.specs.Driving.{AllFresh}

pub same-fresh : {A : Type 0} (told : A → Option Wire) (xs ys : List A) → xs ≡ ys → AllFresh (map told ys)
    → AllFresh (map told xs)
same-fresh told xs ys e fresh = subst (λ links. AllFresh (map told links)) (sym e) fresh
