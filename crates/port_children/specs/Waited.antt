-- How children are waited for, by port, and what that comes to.
use Rattle.std.specs.Prelude.{ℕ, ◌≡◌, ◌+◌, ◌≤◌, zero, suc, List, [], ◌∷◌, length, IfSome, IsSome}
use Rattle.std.specs.declared.option.Option.TheVariants.{None}
use Rattle.std.specs.declared.result.Result.{Result}
use Rattle.std.specs.declared.result.Result.TheVariants.{Ok, Err}
use Rattle.cos_children.specs.Children.{Children, Runs, with_ended, with_stopped}
use Rattle.cos_children.specs.declared.spawners.SpawnFault.{SpawnFault}
use Rattle.cos_children.specs.declared.spawners.SpawnFault.TheVariants as spawn
use Rattle.outcomes.specs.Seen.{Seen, CountStands, IsBlamed}
use Rattle.port_children.specs.declared.fault.WaitFault.{WaitFault}
use Rattle.port_children.specs.declared.fault.WaitFault.TheVariants.{Status, Spawner, NoMemory}

-- what a wait gave: a status, or none
abbrev pub Given : Type 0
Given = Result ℕ SpawnFault

-- a child that was waited for has ended with its status, or doesn't run any more
abbrev pub with_wait : Children → ℕ → Given → Children
with_wait c child (Ok status) = with_ended c child status
with_wait c child (Err e) = with_stopped c child

-- one child after another was waited for, and that gave this
abbrev pub with_waits : Children → List ℕ → List Given → Children
with_waits c [] given = c
with_waits c (child ∷ children) [] = c
with_waits c (child ∷ children) (given ∷ more) = with_waits (with_wait c child given) children more

-- what that adds to the numbers and statuses that waiting gave
abbrev pub statuses_of : List ℕ → List Given → List (ℕ × ℕ)
statuses_of [] given = []
statuses_of (child ∷ children) [] = []
statuses_of (child ∷ children) (Ok status ∷ more) = (child, status) ∷ statuses_of children more
statuses_of (child ∷ children) (Err e ∷ more) = statuses_of children more

-- What the waits of this port and those behind it come to that gave this: the first that is no status 0.
abbrev pub ComesTo : ℕ → List Given → Result Unit WaitFault → Type 0
ComesTo port [] r = r ≡ Ok tt
ComesTo port (Ok zero ∷ more) r = ComesTo (port + 1) more r
ComesTo port (Ok (suc status) ∷ more) r = r ≡ Err (Status port (suc status))
ComesTo port (Err spawn.Failed ∷ more) r = (count : ℕ) × (r ≡ Err (Spawner count))
ComesTo port (Err spawn.NoMemory ∷ more) r = r ≡ Err NoMemory

-- The spawner is blamed only where its count rose; where all ended well, no call failed.
abbrev pub Blames : Seen Children → Result Unit WaitFault → Type 0
Blames children (Ok u) = CountStands children
Blames children (Err (Status port status)) = children.before ≤ children.now
Blames children (Err (Spawner count)) = IsBlamed children count
Blames children (Err NoMemory) = children.before ≤ children.now

-- where all ended well, what was told still is
abbrev pub StillTold : Seen Children → Result Unit WaitFault → Type 0
StillTold children (Ok u) = IfSome children.old (λ old. IsSome children.new)
StillTold children (Err f) = Unit {0}

-- Each child was waited for.
pub record IsWaited (numbers : List ℕ) (children : Seen Children) (r : Result Unit WaitFault) : Type 0 where
  pub given : List Given
  pub each : length given ≡ length numbers
  pub comes : ComesTo 0 given r
  pub blames : Blames children r
  pub waits : IfSome children.old (λ old. IfSome children.new (λ new. new ≡ with_waits old numbers given))
  pub still_told : StillTold children r
  -- what isn't told isn't told later
  pub untold : children.old ≡ None → children.new ≡ None

-- One was.
pub record IsOneWaited (port child : ℕ) (children : Seen Children) (r : Result Unit WaitFault) : Type 0 where
  pub given : Given
  pub comes : ComesTo port (given ∷ []) r
  pub blames : Blames children r
  pub waits : IfSome children.old (λ old. IfSome children.new (λ new. new ≡ with_wait old child given))
  pub still_told : StillTold children r
  pub untold : children.old ≡ None → children.new ≡ None

-- Each runs, the others being waited for before it.
abbrev pub AllRun : List ℕ → Children → Type 0
AllRun [] c = Unit {0}
AllRun (child ∷ children) c = Runs c child × AllRun children (with_stopped c child)

-- the spawner isn't blamed
abbrev pub NotSpawner : Result Unit WaitFault → Type 0
NotSpawner (Ok u) = Unit {0}
NotSpawner (Err (Status port status)) = Unit {0}
NotSpawner (Err (Spawner count)) = ⊥
NotSpawner (Err NoMemory) = Unit {0}
