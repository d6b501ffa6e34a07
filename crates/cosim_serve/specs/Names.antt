-- What becomes of a network at every exit: its names grew by a beginning of the command's list of names, which for a
-- device is its socket, and of its links to come it handed out one at most.
use Rattle.std.specs.Prelude.{ℕ, ◌≡◌, ◌⊎◌, List, [], ◌∷◌, ◌++◌, IfSome, Option, Some, None, Result, Ok, Err}
use Rattle.cos_base.specs.Networks.{Coming}
use Rattle.outcomes.specs.declared.object.Object.TheVariants as object
use Rattle.outcomes.specs.declared.stop.Stop.TheVariants.{Refused, Outside, NoMemory}
use Rattle.cosim_serve.specs.Talks.{Ended}

-- The names grew by these, and the first link to come was handed out.
abbrev pub Handed : {L : Type 0} → Option (Coming L) → Option (Coming L) → List (List ℕ) → Type 0
Handed None now names = Unit {0}
Handed {L} (Some old) now names =
    (l : L) × (rest : List L) × (old.coming ≡ l ∷ rest)
    × (now ≡ Some (record { coming = rest; names = old.names ++ names }))

-- The names grew by these, where they are still told, and no link was handed out.
abbrev pub Kept : {L : Type 0} → Option (Coming L) → Option (Coming L) → List (List ℕ) → Type 0
Kept None now names = Unit {0}
Kept (Some old) now names = IfSome now (λ new. new ≡ record { coming = old.coming; names = old.names ++ names })

-- by how serving a device ends
abbrev pub DeviceNames : {L : Type 0} → Option (Coming L) → Option (Coming L) → List ℕ → Ended → Type 0
DeviceNames old now socket (Ok u) = Handed old now (socket ∷ [])
DeviceNames old now socket (Err (Refused r)) = Handed old now (socket ∷ [])
DeviceNames old now socket (Err (Outside (object.Link port) n)) = Handed old now (socket ∷ [])
DeviceNames old now socket (Err (Outside object.Net n)) = Kept old now (socket ∷ [])
DeviceNames old now socket (Err NoMemory) = Kept old now [] ⊎ Handed old now (socket ∷ [])
DeviceNames old now socket (Err (Outside object.Files n)) = ⊥
DeviceNames old now socket (Err (Outside object.Out n)) = ⊥
DeviceNames old now socket (Err (Outside object.Spawner n)) = ⊥
