-- Which names are asked for, by what the configuration was judged.
use Rattle.std.proofs.Common.{ℕ, ◌≡◌, List, [], ◌∷◌, ◌++◌, IfSome, ap, sym, ◌∙◌, subst, append_assoc}
use Rattle.std.specs.declared.option.Option.{Option}
use Rattle.std.specs.declared.option.Option.TheVariants.{Some, None}
use Rattle.std.specs.declared.result.Result.TheVariants.{Ok, Err}
use Rattle.cos_base.specs.Stores.{Store}
use Rattle.cos_config.specs.declared.config.Config.{Config as Settings}
use Rattle.cos_config.specs.declared.config.Sockets.{Sockets}
use Rattle.cos_config.specs.declared.fault.ConfigFault.{ConfigFault}
use Rattle.outcomes.specs.declared.failures.ReadFault.{ReadFault}
use Rattle.outcomes.specs.declared.failures.ReadFault.TheVariants.{Refused, Failed, NoMemory}
use Rattle.outcomes.specs.Asked.{Asking, AsksAll, Begins, AsksSome, AsksUpTo}
use Rattle.outcomes.specs.Seen.{Seen}
use Rattle.outcomes.proofs.Asking.{both_asked, Joined, all-both, some-both}
use Rattle.cosim_inputs.specs.declared.refusals.InputsRefusal.{InputsRefusal}
use Rattle.cosim_inputs.specs.Configs.{IsConfigUnread}
use Rattle.cosim_inputs.specs.Inputs.{machine_files, names_read}
use Rattle.cosim_inputs.specs.Judging.{judged}
use Rattle.cosim_inputs.proofs.Asking.{all-told, some-told}
use Rattle.configured_machine.specs.Configured.{names_judged, names_found, machine_names}
use Rattle.configured_machine.proofs.Having.{IsOfFile}

-- The configuration is refused: no other file is asked for.

refused-names : (sockets : Sockets) → (held : Option Store) (name : List ℕ) (e : ConfigFault) → IfSome held (λ m. (bytes : List ℕ) × (m name ≡ Some bytes) × (judged sockets bytes ≡ Err e)) → IfSome held (λ m. name ∷ [] ≡ machine_names sockets name m)
refused-names sockets None name e is = tt
refused-names sockets (Some m) name e (bytes, found, is) = ap (λ l. name ∷ l) (sym (ap (λ x. names_found sockets m x) found ∙ ap (λ r. names_judged m r) is))

-- It isn't had: its name is a beginning of all.
config-begins : (sockets : Sockets) → (name : List ℕ) (a : Asking) → AsksSome a (λ m. name ∷ []) → AsksSome a (machine_names sockets name)
config-begins sockets name a some = by a.held some
  where
    by : (held : Option Store) → IfSome held (λ m. Begins a.before a.now (name ∷ [])) → IfSome held (λ m. Begins a.before a.now (machine_names sockets name m))
    by None is = tt
    by (Some m) is = record { first = is.first; rest = is.rest ++ names_found sockets m (m name); whole = ap (λ l. l ++ names_found sockets m (m name)) is.whole ∙ append_assoc is.first is.rest (names_found sockets m (m name)); grew = is.grew }

pub config-asks : (sockets : Sockets) → (f : Seen Store) (name : List ℕ) (a : Asking) (fault : ReadFault InputsRefusal) → f.old ≡ a.held → IsConfigUnread sockets f name fault → AsksUpTo (λ m. name ∷ []) a fault → AsksUpTo (machine_names sockets name) a fault
config-asks sockets f name a (Refused r) same unread asks =
    all-told a (λ m. name ∷ []) (machine_names sockets name) (refused-names sockets a.held name unread.1 (subst (λ o. IfSome o (λ m. (bytes : List ℕ) × (m name ≡ Some bytes) × (judged sockets bytes ≡ Err unread.1))) same unread.3)) asks
config-asks sockets f name a (Failed n) same unread asks = config-begins sockets name a asks
config-asks sockets f name a NoMemory same unread asks = config-begins sockets name a asks

-- It was judged this one: its files are asked for.

judged-names : (sockets : Sockets) → (held : Option Store) (name : List ℕ) (c : Settings) → IsOfFile sockets held name c → IfSome held (λ m. (name ∷ []) ++ names_read (machine_files c) m ≡ machine_names sockets name m)
judged-names sockets None name c is = tt
judged-names sockets (Some m) name c (bytes, found, is) = ap (λ l. name ∷ l) (sym (ap (λ x. names_found sockets m x) found ∙ ap (λ r. names_judged m r) is))

pub machine-asks : (sockets : Sockets) → (name : List ℕ) (c : Settings) (a b : Asking) → IsOfFile sockets a.held name c → Joined a b → AsksAll a (λ m. name ∷ []) → AsksAll b (names_read (machine_files c)) → AsksAll (both_asked a b) (machine_names sockets name)
machine-asks sockets name c a b is joined first then =
    all-told (both_asked a b) (λ m. (name ∷ []) ++ names_read (machine_files c) m) (machine_names sockets name) (judged-names sockets a.held name c is) (all-both a b (λ m. name ∷ []) (names_read (machine_files c)) joined first then)

pub machine-begins : (sockets : Sockets) → (name : List ℕ) (c : Settings) (a b : Asking) → IsOfFile sockets a.held name c → Joined a b → AsksAll a (λ m. name ∷ []) → AsksSome b (names_read (machine_files c)) → AsksSome (both_asked a b) (machine_names sockets name)
machine-begins sockets name c a b is joined first then =
    some-told (both_asked a b) (λ m. (name ∷ []) ++ names_read (machine_files c) m) (machine_names sockets name) (judged-names sockets a.held name c is) (some-both a b (λ m. name ∷ []) (names_read (machine_files c)) joined first then)

pub machine-unread : (sockets : Sockets) → (name : List ℕ) (c : Settings) (a b : Asking) (fault : ReadFault InputsRefusal) → IsOfFile sockets a.held name c → Joined a b → AsksAll a (λ m. name ∷ []) → AsksUpTo (names_read (machine_files c)) b fault → AsksUpTo (machine_names sockets name) (both_asked a b) fault
machine-unread sockets name c a b (Refused r) is joined first then = machine-asks sockets name c a b is joined first then
machine-unread sockets name c a b (Failed n) is joined first then = machine-begins sockets name c a b is joined first then
machine-unread sockets name c a b NoMemory is joined first then = machine-begins sockets name c a b is joined first then
