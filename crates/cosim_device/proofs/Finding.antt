-- What stands against making the device of a port, by what its configuration was judged and what its file holds.
use Rattle.std.specs.Prelude.{IfOk, IfErr, IfSome, IsSomeAnd, IsSome, slice_get}
use Rattle.std.proofs.Common.{ℕ, zero, suc, ◌≡◌, ◌<◌, List, [], ◌∷◌, ◌++◌, length, get_or, arith, ap, sym, ◌∙◌, subst, append_assoc}
use Rattle.std.proofs.lemmas.Option.{same_Some}
use Rattle.std.specs.declared.option.Option.{Option}
use Rattle.std.specs.declared.option.Option.TheVariants.{Some, None}
use Rattle.std.specs.declared.result.Result.{Result}
use Rattle.std.specs.declared.result.Result.TheVariants.{Ok, Err}
use Rattle.cos_base.specs.Stores.{Store}
use Rattle.cos_config.specs.declared.config.Config.{Config as Settings}
use Rattle.cos_config.specs.declared.config.PortConfig.{PortConfig}
use Rattle.cos_config.specs.declared.config.Sockets.TheVariants.{Port}
use Rattle.cos_config.specs.declared.fault.ConfigFault.{ConfigFault}
use Rattle.cos_parts.specs.declared.any_device.AnyDevice.{AnyDevice}
use Rattle.outcomes.specs.declared.failures.ReadFault.{ReadFault}
use Rattle.outcomes.specs.declared.failures.ReadFault.TheVariants.{Refused, Failed, NoMemory}
use Rattle.outcomes.specs.Asked.{Asking, AsksAll, Begins, AsksSome, AsksUpTo, AsksEach}
use Rattle.outcomes.specs.Seen.{Seen}
use Rattle.outcomes.specs.Outcomes.{Outcome, Lacks, Refuses}
use Rattle.outcomes.specs.Steps.{IsStanding, ComesUnread, ComesLacking}
use Rattle.outcomes.proofs.After.{both, joined-told, stand-after-of, stands-after, blamed-after}
use Rattle.outcomes.proofs.Asking.{both_asked, Joined, all-both, some-both}
use Rattle.cosim_inputs.specs.declared.refusals.InputsRefusal.{InputsRefusal}
use Rattle.cosim_inputs.specs.declared.refusals.InputsRefusal.TheVariants.{Config}
use Rattle.cosim_inputs.specs.Configs.{IsConfigUnread, IsConfigLacking}
use Rattle.cosim_inputs.specs.Fresh.{device_of}
use Rattle.cosim_inputs.specs.Inputs.{trouble, port_files, names_read}
use Rattle.cosim_inputs.specs.Judging.{judged}
use Rattle.cosim_inputs.specs.Limits.{IsPort, ArePorts}
use Rattle.cosim_inputs.specs.Reads.{AreRead, AreUnread, AreLacking}
use Rattle.cosim_inputs.proofs.Asking.{all-told, some-told}
use Rattle.cosim_inputs.proofs.Reading.{told-first}
use Rattle.cosim_device.specs.Ports.{or_stands, port_found, judged_to, found_to, found, names_of, names_judged, names_found, port_names}
use Rattle.cosim_device.specs.declared.port.PortEnd.{PortEnd}
use Rattle.cosim_device.specs.Making.{IsEndOf, IsMade}
use Rattle.cosim_device.specs.Served.{StandsAgainst}

-- its file was judged this refusal, or this configuration

abbrev pub IsRefusedBy : Option Store → List ℕ → ℕ → ConfigFault → Type 0
IsRefusedBy old name port e = IfSome old (λ m. (bytes : List ℕ) × (m name ≡ Some bytes) × (judged (Port port) bytes ≡ Err e))

abbrev pub IsOfFile : Option Store → List ℕ → ℕ → Settings → Type 0
IsOfFile old name port c = IfSome old (λ m. (bytes : List ℕ) × (m name ≡ Some bytes) × (judged (Port port) bytes ≡ Ok c))

-- The configuration wasn't had.

stands-refused : (old : Option Store) (name : List ℕ) (port : ℕ) (r : InputsRefusal) (e : ConfigFault) → r ≡ Config e → IsRefusedBy old name port e → StandsAgainst old name port (Refuses r [])
stands-refused None name port r e same is = tt
stands-refused (Some m) name port r e same (bytes, there, is) =
    ap (λ x. found_to m name port x) there ∙ ap (λ x. judged_to m port x) is ∙ ap (λ x. Err (Refuses x [])) (sym same)

stands-lacking : (old : Option Store) (name : List ℕ) (port : ℕ) → IsSomeAnd old (λ m. m name ≡ None) → StandsAgainst old name port (Lacks name)
stands-lacking None name port none = tt
stands-lacking (Some m) name port none = ap (λ x. found_to m name port x) none

pub config-unread : (f : Seen Store) (name : List ℕ) (port : ℕ) (fault : ReadFault InputsRefusal) → IsConfigUnread (Port port) f name fault → ComesUnread (StandsAgainst f.old name port) f fault
config-unread f name port (Refused r) unread = (unread.0, stands-refused f.old name port r unread.1 unread.2 unread.3)
config-unread f name port (Failed n) unread = unread
config-unread f name port NoMemory unread = unread

pub config-lacks : (old : Option Store) (name : List ℕ) (port : ℕ) (fault : ReadFault InputsRefusal) → IsConfigLacking old name fault → ComesLacking (StandsAgainst old name port) fault
config-lacks old name port (Refused r) lacking = tt
config-lacks old name port (Failed n) lacking = (name, stands-lacking old name port lacking)
config-lacks old name port NoMemory lacking = tt

-- The port's file wasn't had, or it was.

pub port-stands : (old : Option Store) (name : List ℕ) (port : ℕ) (c : Settings) (p : PortConfig) (o : Outcome InputsRefusal) → IsOfFile old name port c → slice_get c.ports port ≡ Some p
    → IfSome old (λ m. trouble m (port_files port p) ≡ Some o) → StandsAgainst old name port o
port-stands None name port c p o is at stands = tt
port-stands (Some m) name port c p o (bytes, there, is) at stands =
    ap (λ x. found_to m name port x) there ∙ ap (λ x. judged_to m port x) is ∙ ap (λ x. port_found m port x) at ∙ ap (λ x. or_stands p x) stands

pub port-fine : (old : Option Store) (name : List ℕ) (port : ℕ) (c : Settings) (p : PortConfig) (s : AnyDevice) → IsOfFile old name port c → slice_get c.ports port ≡ Some p
    → IfSome old (λ m. trouble m (port_files port p) ≡ None) → IfSome old (λ m. s ≡ device_of m p) → IfSome old (λ m. (found m name port ≡ Ok p) × (s ≡ device_of m p))
port-fine None name port c p s is at fine made = tt
port-fine (Some m) name port c p s (bytes, there, is) at fine made =
    (ap (λ x. found_to m name port x) there ∙ ap (λ x. judged_to m port x) is ∙ ap (λ x. port_found m port x) at ∙ ap (λ x. or_stands p x) fine, made)

pub port-unread : (f g : Seen Store) (name : List ℕ) (port : ℕ) (c : Settings) (p : PortConfig) (fault : ReadFault InputsRefusal) → IsStanding f → IsOfFile f.old name port c → slice_get c.ports port ≡ Some p
    → g.before ≡ f.now → g.old ≡ f.new → AreUnread g (port_files port p) fault → ComesUnread (StandsAgainst f.old name port) (both f g) fault
port-unread f g name port c p (Refused r) stands is at joined same unread = (
  stands-after f g stands joined same unread.0,
  port-stands f.old name port c p (Refuses r []) is at (told-first (λ m x. trouble m (port_files port x) ≡ Some (Refuses r [])) f g p stands same unread.1),
)
port-unread f g name port c p (Failed n) stands is at joined same unread =
    (blamed-after f.before g.before g.now n (joined ∙ stands.count) unread.0, stand-after-of f.old g.old g.new (joined-told f g stands same) unread.1)
port-unread f g name port c p NoMemory stands is at joined same unread =
    (unread.0 ∙ joined ∙ stands.count, stand-after-of f.old g.old g.new (joined-told f g stands same) unread.1)

lacking-first : (old mid : Option Store) (port : ℕ) (p : PortConfig) → IsSome old → IfSome old (λ m. mid ≡ Some m) → IsSomeAnd mid (λ m. (lacks : List ℕ) × (trouble m (port_files port p) ≡ Some (Lacks lacks)))
    → IsSomeAnd old (λ m. (lacks : List ℕ) × (trouble m (port_files port p) ≡ Some (Lacks lacks)))
lacking-first None mid port p some told lacking = absurd (cc)
lacking-first (Some m) mid port p some told lacking = subst (λ o. IsSomeAnd o (λ n. (lacks : List ℕ) × (trouble n (port_files port p) ≡ Some (Lacks lacks)))) told lacking

port-lacking : (old : Option Store) (name : List ℕ) (port : ℕ) (c : Settings) (p : PortConfig) → IsOfFile old name port c → slice_get c.ports port ≡ Some p
    → IsSomeAnd old (λ m. (lacks : List ℕ) × (trouble m (port_files port p) ≡ Some (Lacks lacks))) → (lacks : List ℕ) × StandsAgainst old name port (Lacks lacks)
port-lacking None name port c p is at lacking = (name, tt)
port-lacking (Some m) name port c p is at (lacks, stands) = (lacks, port-stands (Some m) name port c p (Lacks lacks) is at stands)

pub port-lacks : (f g : Seen Store) (name : List ℕ) (port : ℕ) (c : Settings) (p : PortConfig) (fault : ReadFault InputsRefusal) → IsSome f.old → IsStanding f → IsOfFile f.old name port c → slice_get c.ports port ≡ Some p
    → g.old ≡ f.new → AreLacking g.old (port_files port p) fault → ComesLacking (StandsAgainst f.old name port) fault
port-lacks f g name port c p (Refused r) some stands is at same lacking = tt
port-lacks f g name port c p (Failed n) some stands is at same lacking =
    port-lacking f.old name port c p is at (lacking-first f.old g.old port p some (joined-told f g stands same) lacking)
port-lacks f g name port c p NoMemory some stands is at same lacking = tt

-- The names that are asked for.

refused-names : (held : Option Store) (name : List ℕ) (port : ℕ) (e : ConfigFault) → IsRefusedBy held name port e → IfSome held (λ m. name ∷ [] ≡ port_names name port m)
refused-names None name port e is = tt
refused-names (Some m) name port e (bytes, there, is) = ap (λ l. name ∷ l) (sym (ap (λ x. names_found m port x) there ∙ ap (λ r. names_judged m port r) is))

pub config-begins : (name : List ℕ) (port : ℕ) (a : Asking) → AsksSome a (λ m. name ∷ []) → AsksSome a (port_names name port)
config-begins name port a some = by a.held some
  where
    by : (held : Option Store) → IfSome held (λ m. Begins a.before a.now (name ∷ [])) → IfSome held (λ m. Begins a.before a.now (port_names name port m))
    by None is = tt
    by (Some m) is = record {
      first = is.first;
      rest = is.rest ++ names_found m port (m name);
      whole = ap (λ l. l ++ names_found m port (m name)) is.whole ∙ append_assoc is.first is.rest (names_found m port (m name));
      grew = is.grew;
    }

pub config-asks : (f : Seen Store) (name : List ℕ) (port : ℕ) (a : Asking) (fault : ReadFault InputsRefusal) → f.old ≡ a.held → IsConfigUnread (Port port) f name fault → AsksUpTo (λ m. name ∷ []) a fault → AsksUpTo (port_names name port) a fault
config-asks f name port a (Refused r) same unread asks =
    all-told a (λ m. name ∷ []) (port_names name port) (refused-names a.held name port unread.1 (subst (λ o. IsRefusedBy o name port unread.1) same unread.3)) asks
config-asks f name port a (Failed n) same unread asks = config-begins name port a asks
config-asks f name port a NoMemory same unread asks = config-begins name port a asks

judged-names : (held : Option Store) (name : List ℕ) (port : ℕ) (c : Settings) (p : PortConfig) → IsOfFile held name port c → slice_get c.ports port ≡ Some p
    → IfSome held (λ m. (name ∷ []) ++ names_read (port_files port p) m ≡ port_names name port m)
judged-names None name port c p is at = tt
judged-names (Some m) name port c p (bytes, there, is) at =
    ap (λ l. name ∷ l) (sym (ap (λ x. names_found m port x) there ∙ ap (λ r. names_judged m port r) is ∙ ap (λ x. names_of m port x) at))

pub port-asks : (name : List ℕ) (port : ℕ) (c : Settings) (p : PortConfig) (a b : Asking) → IsOfFile a.held name port c → slice_get c.ports port ≡ Some p → Joined a b
    → AsksAll a (λ m. name ∷ []) → AsksAll b (names_read (port_files port p)) → AsksAll (both_asked a b) (port_names name port)
port-asks name port c p a b is at joined first then =
    all-told (both_asked a b) (λ m. (name ∷ []) ++ names_read (port_files port p) m) (port_names name port) (judged-names a.held name port c p is at)
    (all-both a b (λ m. name ∷ []) (names_read (port_files port p)) joined first then)

port-begins : (name : List ℕ) (port : ℕ) (c : Settings) (p : PortConfig) (a b : Asking) → IsOfFile a.held name port c → slice_get c.ports port ≡ Some p → Joined a b
    → AsksAll a (λ m. name ∷ []) → AsksSome b (names_read (port_files port p)) → AsksSome (both_asked a b) (port_names name port)
port-begins name port c p a b is at joined first then =
    some-told (both_asked a b) (λ m. (name ∷ []) ++ names_read (port_files port p) m) (port_names name port) (judged-names a.held name port c p is at)
    (some-both a b (λ m. name ∷ []) (names_read (port_files port p)) joined first then)

pub port-up-to : (name : List ℕ) (port : ℕ) (c : Settings) (p : PortConfig) (a b : Asking) (fault : ReadFault InputsRefusal) → IsOfFile a.held name port c → slice_get c.ports port ≡ Some p → Joined a b
    → AsksAll a (λ m. name ∷ []) → AsksUpTo (names_read (port_files port p)) b fault → AsksUpTo (port_names name port) (both_asked a b) fault
port-up-to name port c p a b (Refused r) is at joined first then = port-asks name port c p a b is at joined first then
port-up-to name port c p a b (Failed n) is at joined first then = port-begins name port c p a b is at joined first then
port-up-to name port c p a b NoMemory is at joined first then = port-begins name port c p a b is at joined first then

-- What stands at a place of a list is looked up there.
pub looked-up : (ps : List PortConfig) (n : ℕ) (x : PortConfig) → n < length ps → x ≡ get_or ps n x → slice_get ps n ≡ Some x
looked-up [] n x small is = absurd (omega (arith, small))
looked-up (p ∷ ps) zero x small is = ap (λ q. Some q) (sym is)
looked-up (p ∷ ps) (suc n) x small is = looked-up ps n x (omega (arith, small)) is

-- A port of some that are within limits is.
pub port-got : (ps : List PortConfig) (n : ℕ) (x : PortConfig) → ArePorts ps → slice_get ps n ≡ Some x → IsPort x
port-got [] n x are got = absurd (cc (got))
port-got (p ∷ ps) zero x are got = subst IsPort (same_Some p x got) are.0
port-got (p ∷ ps) (suc n) x are got = port-got ps n x are.1 got

-- The end of the port's device, behind a configuration that was read.

pub end-made : (f g : Seen Store) (name : List ℕ) (port : ℕ) (c : Settings) (p : PortConfig) (r : Result PortEnd (ReadFault InputsRefusal)) → IsStanding f → IsOfFile f.old name port c → slice_get c.ports port ≡ Some p
    → g.before ≡ f.now → g.old ≡ f.new → IfOk r (λ e. AreRead g (port_files port p)) → IfOk r (λ e. IsEndOf g.old p e) → IfOk r (λ e. IsMade (both f g) name port e)
end-made f g name port c p (Err fault) stands is at joined same are of = tt
end-made f g name port c p (Ok e) stands is at joined same are of = record {
  stands = stands-after f g stands joined same are.stands;
  settings = p;
  is_found = port-fine f.old name port c p e.end.clear.device is at (told-first (λ m x. trouble m (port_files port x) ≡ None) f g p stands same are.fine)
      (told-first (λ m x. e.end.clear.device ≡ device_of m x) f g p stands same of.device);
  end = of.end;
  result = of.result;
}

pub end-unread : (f g : Seen Store) (name : List ℕ) (port : ℕ) (c : Settings) (p : PortConfig) (r : Result PortEnd (ReadFault InputsRefusal)) → IsStanding f → IsOfFile f.old name port c → slice_get c.ports port ≡ Some p
    → g.before ≡ f.now → g.old ≡ f.new → IfErr r (AreUnread g (port_files port p)) → IfErr r (λ e. ComesUnread (StandsAgainst f.old name port) (both f g) e)
end-unread f g name port c p (Ok e) stands is at joined same unread = tt
end-unread f g name port c p (Err fault) stands is at joined same unread = port-unread f g name port c p fault stands is at joined same unread

pub end-lacks : (f g : Seen Store) (name : List ℕ) (port : ℕ) (c : Settings) (p : PortConfig) (r : Result PortEnd (ReadFault InputsRefusal)) → IsSome f.old → IsStanding f → IsOfFile f.old name port c → slice_get c.ports port ≡ Some p
    → g.old ≡ f.new → IfErr r (AreLacking g.old (port_files port p)) → IfErr r (λ e. ComesLacking (StandsAgainst f.old name port) e)
end-lacks f g name port c p (Ok e) some stands is at same lacking = tt
end-lacks f g name port c p (Err fault) some stands is at same lacking = port-lacks f g name port c p fault some stands is at same lacking

pub end-asks : (name : List ℕ) (port : ℕ) (c : Settings) (p : PortConfig) (a b : Asking) (r : Result PortEnd (ReadFault InputsRefusal)) → IsOfFile a.held name port c → slice_get c.ports port ≡ Some p → Joined a b
    → AsksAll a (λ m. name ∷ []) → AsksEach (names_read (port_files port p)) b r → AsksEach (port_names name port) (both_asked a b) r
end-asks name port c p a b (Ok e) is at joined first then = port-asks name port c p a b is at joined first then
end-asks name port c p a b (Err fault) is at joined first then = port-up-to name port c p a b fault is at joined first then
