-- What the steps of `direct` make it come to.
use Rattle.std.specs.Prelude.{IfSome, IsSomeAnd, IsSome, All}
use Rattle.std.proofs.Common.{ℕ, ◌≡◌, ◌⊎◌, ◌<◌, ◌≤◌, List, [], ◌∷◌, length, refl, ap, sym, ◌∙◌, subst, inl, inr, arith}
use Rattle.std.specs.declared.option.Option.{Option}
use Rattle.std.specs.declared.option.Option.TheVariants.{Some, None}
use Rattle.std.specs.declared.result.Result.TheVariants.{Ok, Err}
use Rattle.cos_base.specs.Stores.{Store}
use Rattle.cos_config.specs.declared.config.Config.{Config as Settings}
use Rattle.cos_config.specs.declared.config.Sockets.TheVariants.{Unneeded}
use Rattle.cos_config.specs.declared.fault.ConfigFault.{ConfigFault}
use Rattle.cosim_model.specs.Direct.{direct}
use Rattle.cos_parts.specs.declared.any_master.AnyMaster.{AnyMaster}
use Rattle.cos_parts.specs.declared.any_device.AnyDevice.{AnyDevice}
use Rattle.cos_parts.specs.AnyMasters as masters
use Rattle.cos_parts.specs.AnyDevices as devices
use Rattle.outcomes.specs.declared.failures.ReadFault.{ReadFault}
use Rattle.outcomes.specs.declared.failures.ReadFault.TheVariants.{Refused, Failed, NoMemory}
use Rattle.outcomes.specs.Seen.{Seen}
use Rattle.outcomes.specs.Outcomes.{Outcome, Lacks, Refuses, Works}
use Rattle.outcomes.specs.Steps.{IsStanding, ComesUnread, ComesLacking}
use Rattle.outcomes.proofs.After.{both, joined-told, stand-after-of, stands-after, blamed-after}
use Rattle.outcomes.proofs.Commands.{IsOne}
use Rattle.cosim_inputs.specs.declared.refusals.InputsRefusal.{InputsRefusal}
use Rattle.cosim_inputs.specs.declared.refusals.InputsRefusal.TheVariants.{Config}
use Rattle.cosim_inputs.specs.Configs.{IsConfigUnread, IsConfigLacking}
use Rattle.cosim_inputs.specs.Fresh.{master_of, devices_of}
use Rattle.cosim_inputs.specs.Inputs.{trouble, machine_files}
use Rattle.cosim_inputs.specs.Judging.{judged}
use Rattle.cosim_inputs.specs.Reads.{AreRead, AreUnread, AreLacking}
use Rattle.cosim_inputs.proofs.Reading.{told-first}
use Rattle.cos_config.specs.Plans.{plan_of}
use Rattle.cosim_direct.specs.Directs.{machine_of, or_printed, judged_to, found_to, DirectComes}
use Rattle.run_texts.specs.Texts.{run_lines}

-- the file of the configuration was judged this one
abbrev pub IsOfFile : Option Store → List ℕ → Settings → Type 0
IsOfFile old name c = IfSome old (λ m. (bytes : List ℕ) × (m name ≡ Some bytes) × (judged Unneeded bytes ≡ Ok c))

pub comes-refused : (old : Option Store) (name : List ℕ) (e : ConfigFault) → IfSome old (λ m. (bytes : List ℕ) × (m name ≡ Some bytes) × (judged Unneeded bytes ≡ Err e)) → DirectComes old name (Refuses (Config e) [])
comes-refused None name e is = tt
comes-refused (Some m) name e (bytes, found, is) = sym (ap (λ x. found_to m name x) found ∙ ap (λ r. judged_to m r) is)

pub comes-lacking-config : (old : Option Store) (name : List ℕ) → IsSomeAnd old (λ m. m name ≡ None) → DirectComes old name (Lacks name)
comes-lacking-config None name none = tt
comes-lacking-config (Some m) name none = sym (ap (λ x. found_to m name x) none)

pub comes-stopped : (old : Option Store) (name : List ℕ) (c : Settings) (o : Outcome InputsRefusal) → IsOfFile old name c → IfSome old (λ m. trouble m (machine_files c) ≡ Some o) → DirectComes old name o
comes-stopped None name c o is stands = tt
comes-stopped (Some m) name c o (bytes, found, is) stands =
    sym (ap (λ x. found_to m name x) found ∙ ap (λ r. judged_to m r) is ∙ ap (λ x. or_printed x (run_lines (machine_of m c) c.ports)) stands)

pub comes-lacking : (old : Option Store) (name : List ℕ) (c : Settings) → IsOfFile old name c → IsSomeAnd old (λ m. (lacks : List ℕ) × (trouble m (machine_files c) ≡ Some (Lacks lacks))) → (lacks : List ℕ) × DirectComes old name (Lacks lacks)
comes-lacking None name c is lacking = (name, tt)
comes-lacking (Some m) name c is (lacks, at) = (lacks, comes-stopped (Some m) name c (Lacks lacks) is at)

pub comes-printed : (old : Option Store) (name : List ℕ) (c : Settings) (master : AnyMaster) (parts : List AnyDevice) (text : List ℕ) → IsOfFile old name c
    → IfSome old (λ m. trouble m (machine_files c) ≡ None) → IfSome old (λ m. master ≡ master_of m c) → IfSome old (λ m. parts ≡ devices_of m c.ports)
    → text ≡ run_lines (direct masters.any_model devices.any_model (plan_of c) master parts) c.ports → DirectComes old name (Works [] text)
comes-printed None name c master parts text is fine made are prints = tt
comes-printed (Some m) name c master parts text (bytes, found, is) fine made are prints =
    let same : text ≡ run_lines (machine_of m c) c.ports =
    prints ∙ ap (λ x. run_lines (direct masters.any_model devices.any_model (plan_of c) x parts) c.ports) made
    ∙ ap (λ x. run_lines (direct masters.any_model devices.any_model (plan_of c) (master_of m c) x) c.ports) are in
    ap (λ t. Works [] t) same ∙ sym (ap (λ x. found_to m name x) found ∙ ap (λ r. judged_to m r) is ∙ ap (λ x. or_printed x (run_lines (machine_of m c) c.ports)) fine)

-- The configuration wasn't had.
config-refused : (old : Option Store) (name : List ℕ) (r : InputsRefusal) (e : ConfigFault) → r ≡ Config e → IfSome old (λ m. (bytes : List ℕ) × (m name ≡ Some bytes) × (judged Unneeded bytes ≡ Err e)) → DirectComes old name (Refuses r [])
config-refused old name r e same is = subst (λ x. DirectComes old name (Refuses x [])) (sym same) (comes-refused old name e is)

pub config-not-run : (f : Seen Store) (name : List ℕ) (fault : ReadFault InputsRefusal) → IsConfigUnread Unneeded f name fault → ComesUnread (DirectComes f.old name) f fault
config-not-run f name (Refused r) unread = (unread.0, config-refused f.old name r unread.1 unread.2 unread.3)
config-not-run f name (Failed n) unread = unread
config-not-run f name NoMemory unread = unread

pub config-lacks : (old : Option Store) (name : List ℕ) (fault : ReadFault InputsRefusal) → IsConfigLacking old name fault → ComesLacking (DirectComes old name) fault
config-lacks old name (Refused r) lacking = tt
config-lacks old name (Failed n) lacking = (name, comes-lacking-config old name lacking)
config-lacks old name NoMemory lacking = tt

-- The machine wasn't had.
pub machine-not-run : (f g : Seen Store) (name : List ℕ) (c : Settings) (fault : ReadFault InputsRefusal) → IsStanding f → IsOfFile f.old name c → g.before ≡ f.now → g.old ≡ f.new → AreUnread g (machine_files c) fault → ComesUnread (DirectComes f.old name) (both f g) fault
machine-not-run f g name c (Refused r) stands is joined same unread = (
  stands-after f g stands joined same unread.0,
  comes-stopped f.old name c (Refuses r []) is (told-first (λ m x. trouble m (machine_files x) ≡ Some (Refuses r [])) f g c stands same unread.1),
)
machine-not-run f g name c (Failed n) stands is joined same unread =
    (blamed-after f.before g.before g.now n (joined ∙ stands.count) unread.0, stand-after-of f.old g.old g.new (joined-told f g stands same) unread.1)
machine-not-run f g name c NoMemory stands is joined same unread =
    (unread.0 ∙ joined ∙ stands.count, stand-after-of f.old g.old g.new (joined-told f g stands same) unread.1)

lacking-first : (old mid : Option Store) (c : Settings) → IsSome old → IfSome old (λ m. mid ≡ Some m) → IsSomeAnd mid (λ m. (lacks : List ℕ) × (trouble m (machine_files c) ≡ Some (Lacks lacks)))
    → IsSomeAnd old (λ m. (lacks : List ℕ) × (trouble m (machine_files c) ≡ Some (Lacks lacks)))
lacking-first None mid c some told lacking = absurd (cc)
lacking-first (Some m) mid c some told lacking = subst (λ o. IsSomeAnd o (λ n. (lacks : List ℕ) × (trouble n (machine_files c) ≡ Some (Lacks lacks)))) told lacking

pub machine-lacks : (f g : Seen Store) (name : List ℕ) (c : Settings) (fault : ReadFault InputsRefusal) → IsSome f.old → IsStanding f → IsOfFile f.old name c → g.old ≡ f.new → AreLacking g.old (machine_files c) fault → ComesLacking (DirectComes f.old name) fault
machine-lacks f g name c (Refused r) some stands is same lacking = tt
machine-lacks f g name c (Failed n) some stands is same lacking = comes-lacking f.old name c is (lacking-first f.old g.old c some (joined-told f g stands same) lacking)
machine-lacks f g name c NoMemory some stands is same lacking = tt

pub one-comes : (old : Option Store) (name : List ℕ) → IsSome old → IsOne (DirectComes old name)
one-comes None name some o p first then = absurd (cc)
one-comes (Some m) name some o p first then = first ∙ sym then
