-- What a network tells: the links that it will hand out, and the names that it was given, in order.
use Rattle.std.specs.Prelude.{◌≡◌, ℕ, List, [], ◌∷◌, ◌++◌, IfSome, IsSomeAnd, IsErrOf, IsTrue, MatchResult}
use Rattle.std.specs.List.{list_all}
use Rattle.std.specs.declared.option.Option.{Option}
use Rattle.std.specs.declared.option.Option.TheVariants.{Some, None}
use Rattle.std.specs.declared.result.Result.{Result}
use Rattle.cos_base.specs.declared.networks.NetFault.{NetFault}
use Rattle.cos_base.specs.declared.networks.NetFault.TheVariants as net
use Rattle.cos_base.specs.Counts.{Rises}
use Rattle.cos_base.specs.Links.{Wire, is_fresh}

pub record Coming (L : Type 0) : Type 0 where
  pub coming : List L
  pub names : List (List ℕ)

-- the count of faults, by what a call of a network answered
abbrev pub NetCounts : {T : Type 0} → ℕ → ℕ → Result T NetFault → Type 0
NetCounts before now result =
    MatchResult result (λ _. now ≡ before) (λ e. elim e [ net.Failed ↦ Rises before now | net.NoMemory ↦ now ≡ before ])

-- What a call that hands out a link did to what is told: the link is the first of those to come. `names` is what the
-- call adds to the names, after a failure too.
abbrev pub Hands : {L : Type 0} → Option (Coming L) → Option (Coming L) → List (List ℕ) → Result L NetFault → Type 0
Hands None new names result = Unit {0}
Hands (Some t) new names result =
    MatchResult result
    (λ l. (rest : List _) × (t.coming ≡ l ∷ rest) × (new ≡ Some (record { coming = rest; names = t.names ++ names })))
    (λ e. elim e [
      | net.Failed ↦ IfSome new (λ n. n ≡ record { coming = t.coming; names = t.names ++ names })
      | net.NoMemory ↦ IfSome new (λ n. n ≡ t)
    ])

-- What a `listen` did to what is told.
abbrev pub Listens : {L : Type 0} → Option (Coming L) → Option (Coming L) → List (List ℕ) → Result ℕ NetFault → Type 0
Listens None new names result = Unit {0}
Listens (Some t) new names result =
    MatchResult result
    (λ _. new ≡ Some (record { coming = t.coming; names = t.names ++ names }))
    (λ e. elim e [
      | net.Failed ↦ IfSome new (λ n. n ≡ record { coming = t.coming; names = t.names ++ names })
      | net.NoMemory ↦ IfSome new (λ n. n ≡ t)
    ])

-- each of the links to come tells, and nothing was sent or received on it yet
abbrev pub AllFresh : {L : Type 0} → (L → Option Wire) → List L → Type 0
AllFresh told links = IsTrue (list_all (λ l. is_fresh (told l)) links)

-- a sound network fails to hand out a link only where none is to come
abbrev pub HandsSound : {L T : Type 0} → Option (Coming L) → Result T NetFault → Type 0
HandsSound old result = IsErrOf result net.Failed → IsSomeAnd old (λ t. t.coming ≡ [])
