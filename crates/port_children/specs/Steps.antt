-- The steps towards the links of children: listening, starting one, and taking its link.
use Rattle.std.specs.Prelude.{ℕ, ◌≡◌, List, [], ◌∷◌, ◌++◌, length, IsSomeAnd}
use Rattle.std.specs.declared.option.Option.{Option}
use Rattle.std.specs.declared.option.Option.TheVariants.{None}
use Rattle.std.specs.declared.result.Result.{Result}
use Rattle.std.specs.declared.result.Result.TheVariants.{Ok, Err}
use Rattle.cos_base.specs.Networks.{Coming}
use Rattle.cos_children.specs.Children.{Children}
use Rattle.outcomes.specs.Seen.{Seen, CountStands, IsBlamed}
use Rattle.port_children.specs.declared.fault.OpenFault.{OpenFault}
use Rattle.port_children.specs.declared.fault.OpenFault.TheVariants as fault
use Rattle.port_children.specs.Opened.{Gives, MayGive, StartsAll, MayStart}

-- A network gave this, and no call of it failed.
pub record IsGiven {L : Type 0} (names : List (List ℕ)) (links : List L) (net : Seen (Coming L)) : Type 0 where
  pub stands : CountStands net
  pub gives : Gives names links net.old net.new

-- It gave this, and then failed, or memory was short.
abbrev pub NetBlames : {L : Type 0} → Seen (Coming L) → OpenFault → Type 0
NetBlames net (fault.Net n) = IsBlamed net n
NetBlames net (fault.Spawner n) = ⊥
NetBlames net fault.NoMemory = CountStands net

pub record IsCutOff {L : Type 0} (names : List (List ℕ)) (links : List L) (net : Seen (Coming L)) (f : OpenFault)
    : Type 0 where
  pub blames : NetBlames net f
  pub gives : MayGive names links net.old net.new

-- These names were listened under, by port, or a beginning of them.
pub record IsPart {L : Type 0} (names : List (List ℕ)) (net : Seen (Coming L)) (f : OpenFault) : Type 0 where
  pub given : List (List ℕ)
  pub left : List (List ℕ)
  pub all : names ≡ given ++ left
  pub cut : IsCutOff {L = L} given [] net f

abbrev pub Listens : {L T : Type 0} → List (List ℕ) → Seen (Coming L) → Result T OpenFault → Type 0
Listens {L} {T} names net (Ok x) = IsGiven {L = L} names [] net
Listens {L} {T} names net (Err f) = IsPart names net f

-- The next link was taken, behind those that were had.
pub record IsTaken {L : Type 0} (net : Seen (Coming L)) (old new : List L) : Type 0 where
  pub link : L
  pub behind : new ≡ old ++ link ∷ []
  pub given : IsGiven [] (link ∷ []) net

abbrev pub Accepts : {L : Type 0} → Seen (Coming L) → List L → List L → Result Unit OpenFault → Type 0
Accepts net old new (Ok u) = IsTaken net old new
Accepts {L} net old new (Err f) = (new ≡ old) × IsCutOff {L = L} [] [] net f

-- These children were started, and no call of the spawner failed.
pub record AreStarted (words : List (List (List ℕ))) (numbers : List ℕ) (children : Seen Children) : Type 0 where
  pub stands : CountStands children
  pub starts : StartsAll words numbers children.old children.new
  pub each : length numbers ≡ length words
  pub untold : children.old ≡ None → children.new ≡ None

-- None was: the spawner failed, or memory was short.
abbrev pub SpawnBlames : Seen Children → OpenFault → Type 0
SpawnBlames children (fault.Net n) = ⊥
SpawnBlames children (fault.Spawner n) = IsBlamed children n
SpawnBlames children fault.NoMemory = CountStands children

pub record IsUnstarted (children : Seen Children) (f : OpenFault) : Type 0 where
  pub blames : SpawnBlames children f
  pub starts : MayStart [] [] children.old children.new
  pub untold : children.old ≡ None → children.new ≡ None

-- One was started, and its number stands behind those that were had.
pub record IsStarted (words : List (List ℕ)) (children : Seen Children) (old new : List ℕ) : Type 0 where
  pub number : ℕ
  pub behind : new ≡ old ++ number ∷ []
  pub one : AreStarted (words ∷ []) (number ∷ []) children

abbrev pub StartsOne : List (List ℕ) → Seen Children → List ℕ → List ℕ → Result Unit OpenFault → Type 0
StartsOne words children old new (Ok u) = IsStarted words children old new
StartsOne words children old new (Err f) = (new ≡ old) × IsUnstarted children f

-- the network isn't blamed, or the spawner isn't
abbrev pub NotNet : {T : Type 0} → Result T OpenFault → Type 0
NotNet (Ok x) = Unit {0}
NotNet (Err (fault.Net n)) = ⊥
NotNet (Err (fault.Spawner n)) = Unit {0}
NotNet (Err fault.NoMemory) = Unit {0}

abbrev pub NotSpawner : Result Unit OpenFault → Type 0
NotSpawner (Ok u) = Unit {0}
NotSpawner (Err (fault.Net n)) = Unit {0}
NotSpawner (Err (fault.Spawner n)) = ⊥
NotSpawner (Err fault.NoMemory) = Unit {0}

-- the network is blamed only where no link is to come
abbrev pub AcceptsSoundly : {L : Type 0} → Option (Coming L) → Result Unit OpenFault → Type 0
AcceptsSoundly old (Ok u) = Unit {0}
AcceptsSoundly old (Err (fault.Net n)) = IsSomeAnd old (λ t. t.coming ≡ [])
AcceptsSoundly old (Err (fault.Spawner n)) = Unit {0}
AcceptsSoundly old (Err fault.NoMemory) = Unit {0}
