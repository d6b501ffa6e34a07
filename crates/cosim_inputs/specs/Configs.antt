-- What reading a configuration does to the files, and how it ends where it can't be had.
use Rattle.std.specs.Prelude.{ℕ, ◌≡◌, List, IfSome, IsSomeAnd, Ok, Err}
use Rattle.std.specs.declared.option.Option.{Option}
use Rattle.std.specs.declared.option.Option.TheVariants.{Some, None}
use Rattle.cos_base.specs.Stores.{Store}
use Rattle.cos_config.specs.declared.config.Config.{Config}
use Rattle.cos_config.specs.declared.config.Sockets.{Sockets}
use Rattle.cos_config.specs.declared.fault.ConfigFault.{ConfigFault}
use Rattle.outcomes.specs.declared.failures.ReadFault.{ReadFault}
use Rattle.outcomes.specs.declared.failures.ReadFault.TheVariants.{Refused, Failed, NoMemory}
use Rattle.outcomes.specs.Seen.{Seen, CountStands, IsBlamed}
use Rattle.outcomes.specs.Outcomes.{Stand}
use Rattle.outcomes.specs.Steps.{IsStanding}
use Rattle.cosim_inputs.specs.declared.refusals.InputsRefusal.{InputsRefusal}
use Rattle.cosim_inputs.specs.declared.refusals.InputsRefusal.TheVariants as refusal
use Rattle.cosim_inputs.specs.Judging.{judged}

pub record IsConfigRead (sockets : Sockets) (f : Seen Store) (name : List ℕ) (c : Config) : Type 0 where
  pub stands : IsStanding f
  pub judged : IfSome f.old (λ m. (bytes : List ℕ) × (m name ≡ Some bytes) × (judged sockets bytes ≡ Ok c))

-- The first rule that it breaks, the files blamed, or no memory.
abbrev pub IsConfigUnread : Sockets → Seen Store → List ℕ → ReadFault InputsRefusal → Type 0
IsConfigUnread sockets f name (Refused r) = IsStanding f × (e : ConfigFault) × (r ≡ refusal.Config e)
    × IfSome f.old (λ m. (bytes : List ℕ) × (m name ≡ Some bytes) × (judged sockets bytes ≡ Err e))
IsConfigUnread sockets f name (Failed n) = IsBlamed f n × Stand f
IsConfigUnread sockets f name NoMemory = CountStands f × Stand f

-- Sound files are blamed only where they lack the name.
abbrev pub IsConfigLacking : Option Store → List ℕ → ReadFault InputsRefusal → Type 0
IsConfigLacking old name (Refused r) = Unit {0}
IsConfigLacking old name (Failed n) = IsSomeAnd old (λ m. m name ≡ None)
IsConfigLacking old name NoMemory = Unit {0}
