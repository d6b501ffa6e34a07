-- What stands against having a configuration's machine.
use Rattle.std.specs.Prelude.{IfSome, IsSomeAnd}
use Rattle.std.proofs.Common.{ℕ, ◌≡◌, List, [], ap, sym, ◌∙◌, subst}
use Rattle.std.specs.declared.option.Option.{Option}
use Rattle.std.specs.declared.option.Option.TheVariants.{Some, None}
use Rattle.std.specs.declared.result.Result.TheVariants.{Ok, Err}
use Rattle.cos_base.specs.Stores.{Store}
use Rattle.cos_config.specs.declared.config.Config.{Config as Settings}
use Rattle.cos_config.specs.declared.config.Sockets.{Sockets}
use Rattle.cos_config.specs.declared.fault.ConfigFault.{ConfigFault}
use Rattle.cosim_inputs.specs.declared.refusals.InputsRefusal.{InputsRefusal}
use Rattle.cosim_inputs.specs.declared.refusals.InputsRefusal.TheVariants.{Config}
use Rattle.cosim_inputs.specs.Configs.{IsConfigLacking, IsConfigUnread}
use Rattle.cosim_inputs.specs.Inputs.{trouble, machine_files}
use Rattle.cosim_inputs.specs.Judging.{judged}
use Rattle.cosim_inputs.specs.Reads.{AreLacking, AreUnread}
use Rattle.cosim_inputs.proofs.Reading.{told-first}
use Rattle.outcomes.specs.declared.failures.ReadFault.{ReadFault}
use Rattle.outcomes.specs.declared.failures.ReadFault.TheVariants.{Refused, Failed, NoMemory}
use Rattle.outcomes.specs.Outcomes.{Outcome, Lacks, Refuses}
use Rattle.outcomes.specs.Seen.{Seen}
use Rattle.outcomes.specs.Steps.{IsStanding, ComesLacking, ComesUnread}
use Rattle.outcomes.proofs.After.{blamed-after, both, joined-told, stand-after-of, stands-after}
use Rattle.configured_machine.specs.Configured.{or_stands, judged_to, found_to, found, StandsAgainst}

-- the file of the configuration was judged this one
abbrev pub IsOfFile : Sockets → Option Store → List ℕ → Settings → Type 0
IsOfFile sockets old name c =
    IfSome old (λ m. (bytes : List ℕ) × (m name ≡ Some bytes) × (judged sockets bytes ≡ Ok c))

-- The configuration isn't had.

config-stands : (sockets : Sockets) (old : Option Store) (name : List ℕ) (r : InputsRefusal) (e : ConfigFault)
    → r ≡ Config e
    → IfSome old (λ m. (bytes : List ℕ) × (m name ≡ Some bytes) × (judged sockets bytes ≡ Err e))
    → StandsAgainst sockets old name (Refuses r [])
config-stands sockets None name r e same is = tt
config-stands sockets (Some m) name r e same (bytes, at, is) =
    ap (found_to sockets m name) at ∙ ap (judged_to m) is
    ∙ sym (ap (λ x. Err (Refuses x [])) same)

pub config-unread : (sockets : Sockets) (f : Seen Store) (name : List ℕ) (fault : ReadFault InputsRefusal)
    → IsConfigUnread sockets f name fault → ComesUnread (StandsAgainst sockets f.old name) f fault
config-unread sockets f name (Refused r) unread =
    (unread.0, config-stands sockets f.old name r unread.1 unread.2 unread.3)
config-unread sockets f name (Failed n) unread = unread
config-unread sockets f name NoMemory unread = unread

pub config-lacks : (sockets : Sockets) (old : Option Store) (name : List ℕ) (fault : ReadFault InputsRefusal)
    → IsConfigLacking old name fault → ComesLacking (StandsAgainst sockets old name) fault
config-lacks sockets old name (Refused r) lacking = tt
config-lacks sockets old name NoMemory lacking = tt
config-lacks sockets old name (Failed n) lacking = (name, by old lacking)
  where
    by : (old : Option Store) → IsSomeAnd old (λ m. m name ≡ None) → StandsAgainst sockets old name (Lacks name)
    by None is = tt
    by (Some m) is = ap (found_to sockets m name) is

-- A file that it names isn't had.

stopped : (sockets : Sockets) (m : Store) (name : List ℕ) (c : Settings) (o : Outcome InputsRefusal)
    → IsOfFile sockets (Some m) name c → trouble m (machine_files c) ≡ Some o → found sockets m name ≡ Err o
stopped sockets m name c o (bytes, at, is) stands =
    ap (found_to sockets m name) at ∙ ap (judged_to m) is ∙ ap (or_stands c) stands

stops : (sockets : Sockets) (old : Option Store) (name : List ℕ) (c : Settings) (o : Outcome InputsRefusal)
    → IsOfFile sockets old name c → IfSome old (λ m. trouble m (machine_files c) ≡ Some o)
    → StandsAgainst sockets old name o
stops sockets None name c o is stands = tt
stops sockets (Some m) name c o is stands = stopped sockets m name c o is stands

pub machine-unread : (sockets : Sockets) (f g : Seen Store) (name : List ℕ) (c : Settings)
    (fault : ReadFault InputsRefusal) → IsStanding f → IsOfFile sockets f.old name c → g.before ≡ f.now
    → g.old ≡ f.new → AreUnread g (machine_files c) fault
    → ComesUnread (StandsAgainst sockets f.old name) (both f g) fault
machine-unread sockets f g name c (Refused r) stands is joined same unread = (
  stands-after f g stands joined same unread.0,
  stops sockets f.old name c (Refuses r []) is
      (told-first (λ m x. trouble m (machine_files x) ≡ Some (Refuses r [])) f g c stands same unread.1),
)
machine-unread sockets f g name c (Failed n) stands is joined same unread = (
  blamed-after f.before g.before g.now n (joined ∙ stands.count) unread.0,
  stand-after-of f.old g.old g.new (joined-told f g stands same) unread.1,
)
machine-unread sockets f g name c NoMemory stands is joined same unread =
    (unread.0 ∙ joined ∙ stands.count, stand-after-of f.old g.old g.new (joined-told f g stands same) unread.1)

pub machine-lacks : (sockets : Sockets) (f g : Seen Store) (name : List ℕ) (c : Settings)
    (fault : ReadFault InputsRefusal) → IsStanding f → IsOfFile sockets f.old name c → g.old ≡ f.new
    → AreLacking g.old (machine_files c) fault → ComesLacking (StandsAgainst sockets f.old name) fault
machine-lacks sockets f g name c (Refused r) stands is same lacking = tt
machine-lacks sockets f g name c NoMemory stands is same lacking = tt
machine-lacks sockets f g name c (Failed n) stands is same lacking = by f.old (joined-told f g stands same) is
  where
    at : (m : Store) → g.old ≡ Some m → (lacks : List ℕ) × (trouble m (machine_files c) ≡ Some (Lacks lacks))
    at m told =
        subst (λ o. IsSomeAnd o (λ n. (lacks : List ℕ) × (trouble n (machine_files c) ≡ Some (Lacks lacks)))) told lacking

    by : (old : Option Store) → IfSome old (λ m. g.old ≡ Some m) → IsOfFile sockets old name c
        → (lacks : List ℕ) × StandsAgainst sockets old name (Lacks lacks)
    by None told is = (name, tt)
    by (Some m) told is = let l = at m told in (l.0, stopped sockets m name c (Lacks l.0) is l.1)

-- Nothing stands against it.
pub had : (sockets : Sockets) (old : Option Store) (name : List ℕ) (c : Settings) → IsOfFile sockets old name c
    → IfSome old (λ m. trouble m (machine_files c) ≡ None) → IfSome old (λ m. found sockets m name ≡ Ok c)
had sockets None name c is fine = tt
had sockets (Some m) name c (bytes, at, is) fine =
    ap (found_to sockets m name) at ∙ ap (judged_to m) is ∙ ap (or_stands c) fine
