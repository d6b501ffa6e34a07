-- When an object of the outside is blamed.
use Rattle.std.specs.Prelude.{ℕ, ◌≡◌, List, [], ◌∷◌, IfSome, IsSomeAnd}
use Rattle.std.specs.declared.option.Option.{Option}
use Rattle.std.specs.declared.option.Option.TheVariants.{Some, None}
use Rattle.std.specs.declared.result.Result.TheVariants.{Ok, Err}
use Rattle.cos_base.specs.Counts.{Rose}
use Rattle.cos_base.specs.Networks.{Coming}
use Rattle.outcomes.specs.declared.object.Object.TheVariants as object
use Rattle.outcomes.specs.declared.stop.Stop.TheVariants.{Refused, Outside, NoMemory}
use Rattle.outcomes.specs.Seen.{Seen, CountStands, IsBlamed}
use Rattle.cosim_serve.specs.Talks.{Ended}

-- a link that was handed out: the first to come, where that is told
abbrev pub IsHanded : {L : Type 0} → Option (Coming L) → L → Type 0
IsHanded None l = Unit {0}
IsHanded (Some net) l = (rest : List _) × (net.coming ≡ l ∷ rest)

-- The network is blamed only where its count rose in this call, up to the count that is shown; a link only where its
-- count rose above the one with which it was handed out. Otherwise the network's count stands.
abbrev pub NetBlames : {L : Type 0} → ℕ → (L → ℕ) → Seen (Coming L) → Ended → Type 0
NetBlames port count net (Err (Outside object.Net n)) = IsBlamed net n
NetBlames {L} port count net (Err (Outside (object.Link p) n)) = CountStands net × (p ≡ port) × (l : L)
    × IsHanded net.old l × Rose (count l) n
NetBlames port count net (Ok u) = CountStands net
NetBlames port count net (Err (Refused r)) = CountStands net
NetBlames port count net (Err NoMemory) = CountStands net
NetBlames port count net (Err (Outside object.Files n)) = ⊥
NetBlames port count net (Err (Outside object.Out n)) = ⊥
NetBlames port count net (Err (Outside object.Spawner n)) = ⊥

-- What is known of one link that was served, by its count before and after: it is blamed only where that rose, and
-- what is told is the count that it has then.
abbrev pub LinkBlames : ℕ → ℕ → ℕ → Ended → Type 0
LinkBlames port before now (Err (Outside (object.Link p) n)) = (p ≡ port) × Rose before n × (n ≡ now)
LinkBlames port before now (Ok u) = Unit {0}
LinkBlames port before now (Err (Refused r)) = Unit {0}
LinkBlames port before now (Err NoMemory) = Unit {0}
LinkBlames port before now (Err (Outside object.Net n)) = ⊥
LinkBlames port before now (Err (Outside object.Files n)) = ⊥
LinkBlames port before now (Err (Outside object.Out n)) = ⊥
LinkBlames port before now (Err (Outside object.Spawner n)) = ⊥

-- Over a sound network it is blamed only where no link is to come, and no link is blamed.
abbrev pub BlamesSoundly : {L : Type 0} → Option (Coming L) → Ended → Type 0
BlamesSoundly old (Err (Outside object.Net n)) = IsSomeAnd old (λ t. t.coming ≡ [])
BlamesSoundly old (Err (Outside (object.Link port) n)) = ⊥
BlamesSoundly old (Ok u) = Unit {0}
BlamesSoundly old (Err (Refused r)) = Unit {0}
BlamesSoundly old (Err NoMemory) = Unit {0}
BlamesSoundly old (Err (Outside object.Files n)) = ⊥
BlamesSoundly old (Err (Outside object.Out n)) = ⊥
BlamesSoundly old (Err (Outside object.Spawner n)) = ⊥

-- no object is blamed
abbrev pub BlamesNone : Ended → Type 0
BlamesNone (Err (Outside o n)) = ⊥
BlamesNone (Ok u) = Unit {0}
BlamesNone (Err (Refused r)) = Unit {0}
BlamesNone (Err NoMemory) = Unit {0}

-- the network is blamed, or memory was short
abbrev pub BlamesNet : Ended → Type 0
BlamesNet (Err (Outside object.Net n)) = Unit {0}
BlamesNet (Err NoMemory) = Unit {0}
BlamesNet (Ok u) = ⊥
BlamesNet (Err (Refused r)) = ⊥
BlamesNet (Err (Outside (object.Link port) n)) = ⊥
BlamesNet (Err (Outside object.Files n)) = ⊥
BlamesNet (Err (Outside object.Out n)) = ⊥
BlamesNet (Err (Outside object.Spawner n)) = ⊥

-- Where a network tells that no link is to come, it is blamed.
abbrev pub Lacks : {L : Type 0} → Option (Coming L) → Ended → Type 0
Lacks old r = IfSome old (λ t. t.coming ≡ [] → BlamesNet r)
