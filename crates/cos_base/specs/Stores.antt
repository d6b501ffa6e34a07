-- What an object that keeps files tells: a map from names to bytes, and the names that it was asked for, in order.
-- And what its calls do to them.
use Rattle.std.specs.Prelude.{◌≡◌, ℕ, List, [], ◌∷◌, ◌++◌, IfSome, IsSomeAnd, IsErrOf, MatchResult}
use Rattle.std.specs.declared.option.Option.{Option}
use Rattle.std.specs.declared.option.Option.TheVariants.{Some, None}
use Rattle.std.specs.declared.result.Result.{Result}
use Rattle.cos_base.specs.declared.file_store.FileFault.{FileFault}
use Rattle.cos_base.specs.declared.file_store.FileFault.TheVariants as file
use Rattle.cos_base.specs.Counts.{Rises}
use Rattle.cos_base.specs.Octets.{Held}

-- the bytes of each name that has a file
abbrev pub Store : Type 0
Store = List ℕ → Option (List ℕ)

-- the count of faults, by what a call answered
abbrev pub FileCounts : {T : Type 0} → ℕ → ℕ → Result T FileFault → Type 0
FileCounts before now result =
    MatchResult result (λ _. now ≡ before)
    (λ e. elim e [ file.Failed ↦ Rises before now | file.NoMemory ↦ now ≡ before ])

-- A read changes no file, and gives the bytes of the name.
abbrev pub Reads : Option Store → Option Store → List ℕ → Result Held FileFault → Type 0
Reads None new name result = Unit {0}
Reads (Some m) new name result =
    MatchResult result
    (λ held. (new ≡ Some m) × (m name ≡ Some held.bytes))
    (λ _. IfSome new (λ n. n ≡ m))

-- all names but this one have the same files as before
abbrev pub KeepsOthers : Store → List ℕ → Store → Type 0
KeepsOthers before name now = (other : List ℕ) → (other ≡ name → ⊥) → now other ≡ before other

-- this name has these bytes, and all others have what they had
pub record IsWith (before : Store) (name bytes : List ℕ) (now : Store) : Type 0 where
  pub here : now name ≡ Some bytes
  pub others : KeepsOthers before name now

-- the same, where the files are told
abbrev pub IsSet : Option Store → List ℕ → List ℕ → Option Store → Type 0
IsSet None name bytes new = Unit {0}
IsSet (Some m) name bytes new = IsSomeAnd new (λ n. IsWith m name bytes n)

-- A write sets the bytes of the name; after a failure they may be any.
abbrev pub Writes : Option Store → Option Store → List ℕ → List ℕ → Result Unit FileFault → Type 0
Writes None new name bytes result = Unit {0}
Writes (Some m) new name bytes result =
    MatchResult result
    (λ _. IsSet (Some m) name bytes new)
    (λ e. elim e [ file.Failed ↦ IfSome new (λ n. KeepsOthers m name n) | file.NoMemory ↦ IfSome new (λ n. n ≡ m) ])

-- sound files fail to read a name only where it has no file
abbrev pub ReadsSoundly : {T : Type 0} → Option Store → List ℕ → Result T FileFault → Type 0
ReadsSoundly old name result = IsErrOf result file.Failed → IsSomeAnd old (λ m. m name ≡ None)

-- Where it tells, the name stands behind those that it was asked for before, after a failure too; want of memory adds
-- none.
abbrev pub Asks : {T : Type 0} → Option Store → List (List ℕ) → List (List ℕ) → List ℕ → Result T FileFault → Type 0
Asks None before now name result = Unit {0}
Asks (Some m) before now name result =
    MatchResult result
    (λ _. now ≡ before ++ name ∷ [])
    (λ e. elim e [ file.Failed ↦ now ≡ before ++ name ∷ [] | file.NoMemory ↦ now ≡ before ])
