-- Links that tell nothing are as drive wants them.
use Rattle.std.proofs.Common.{ℕ, ◌≡◌, List, map, sym, ◌∙◌}
use Rattle.std.specs.Prelude.{Option, Some, None, option_map, slice_get}
use Rattle.std.proofs.lemmas.Option.{slice_get-map}
use Rattle.cos_base.specs.Links.{Wire, IsFresh}

none-tells : {A : Type 0} (o : Option A) (w : Wire) → option_map (λ (l : A). None) o ≡ Some (Some w) → IsFresh w
none-tells None w is = absurd (cc)
none-tells (Some l) w is = absurd (cc)

pub silent : {A : Type 0} (xs : List A) (p : ℕ) (w : Wire) → slice_get (map (λ (l : A). None) xs) p ≡ Some (Some w)
    → IsFresh w
silent {A} xs p w is = none-tells (slice_get xs p) w (sym (slice_get-map (λ (l : A). None) xs p) ∙ is)
