-- What reading the files of a configuration does to the files, and how it ends where one of them can't be read.
use Rattle.std.specs.Prelude.{ℕ, ◌≡◌, List, [], IfSome, IsSomeAnd}
use Rattle.std.specs.declared.option.Option.{Option}
use Rattle.std.specs.declared.option.Option.TheVariants.{Some, None}
use Rattle.cos_base.specs.Stores.{Store}
use Rattle.outcomes.specs.declared.failures.ReadFault.{ReadFault}
use Rattle.outcomes.specs.declared.failures.ReadFault.TheVariants.{Refused, Failed, NoMemory}
use Rattle.outcomes.specs.Seen.{Seen, CountStands, IsBlamed}
use Rattle.outcomes.specs.Outcomes.{Stand, Lacks, Refuses}
use Rattle.outcomes.specs.Steps.{IsStanding}
use Rattle.cosim_inputs.specs.declared.refusals.InputsRefusal.{InputsRefusal}
use Rattle.cosim_inputs.specs.Inputs.{Asked, trouble}

-- They were read, and nothing stands against it.
pub record AreRead (f : Seen Store) (files : List Asked) : Type 0 where
  pub stands : IsStanding f
  pub fine : IfSome f.old (λ m. trouble m files ≡ None)

-- One of them is refused, or wasn't read: the files are blamed, or there was no memory.
abbrev pub AreUnread : Seen Store → List Asked → ReadFault InputsRefusal → Type 0
AreUnread f files (Refused r) = IsStanding f × IfSome f.old (λ m. trouble m files ≡ Some (Refuses r []))
AreUnread f files (Failed n) = IsBlamed f n × Stand f
AreUnread f files NoMemory = CountStands f × Stand f

-- Sound files are blamed only where the first of these files that stands against it isn't there.
abbrev pub AreLacking : Option Store → List Asked → ReadFault InputsRefusal → Type 0
AreLacking old files (Refused r) = Unit {0}
AreLacking old files (Failed n) = IsSomeAnd old (λ m. (name : List ℕ) × (trouble m files ≡ Some (Lacks name)))
AreLacking old files NoMemory = Unit {0}
