-- What stands against having what a run begins with.
use Rattle.std.specs.Prelude.{IfSome, IsSomeAnd}
use Rattle.std.proofs.Common.{ℕ, ◌≡◌, List, length, refl, ap, sym, ◌∙◌, subst}
use Rattle.std.specs.declared.option.Option.{Option}
use Rattle.std.specs.declared.option.Option.TheVariants.{Some, None}
use Rattle.std.specs.declared.result.Result.{Result}
use Rattle.std.specs.declared.result.Result.TheVariants.{Ok, Err}
use Rattle.cos_base.specs.Stores.{Store}
use Rattle.cos_config.specs.declared.config.Config.{Config as Settings}
use Rattle.cos_schedules.specs.declared.step.Step.{Step}
use Rattle.cosim_direct.proofs.Coming.{IsOfFile}
use Rattle.cosim_inputs.specs.declared.refusals.InputsRefusal.{InputsRefusal}
use Rattle.cosim_inputs.specs.Configs.{IsConfigLacking}
use Rattle.cosim_inputs.specs.Inputs.{trouble, machine_files}
use Rattle.cosim_inputs.specs.Reads.{AreLacking}
use Rattle.outcomes.specs.declared.failures.ReadFault.{ReadFault}
use Rattle.outcomes.specs.declared.failures.ReadFault.TheVariants.{Refused, Failed, NoMemory}
use Rattle.outcomes.specs.Outcomes.{Outcome, Lacks}
use Rattle.outcomes.specs.Seen.{Seen}
use Rattle.outcomes.specs.Steps.{IsStanding, IsRead, ComesLacking}
use Rattle.outcomes.proofs.After.{joined-told}
use Rattle.cosim_local.specs.declared.order.Order.{Order}
use Rattle.cosim_local.specs.declared.refusal.LocalRefusal.{LocalRefusal}
use Rattle.cosim_local.specs.Ordering.{SpellsSteps, schedule_of, OrdersBy, OrdersList, Orders}
use Rattle.cosim_local.specs.Locals.{or_stands, judged_to, found_to, found, FoundTo, LocalComes}
use Rattle.cosim_local.specs.declared.parts.Parts.{Parts}
use Rattle.cosim_local.specs.Steps.{ArePartsOf, StandsAgainst, OrderStands}

-- Of the configuration and its machine.

pub config-lacks : (old : Option Store) (name : List ℕ) (fault : ReadFault InputsRefusal) → IsConfigLacking old name fault
    → ComesLacking (StandsAgainst old name) fault
config-lacks old name (Refused r) lacking = tt
config-lacks old name NoMemory lacking = tt
config-lacks old name (Failed n) lacking = (name, by old lacking)
  where
    by : (old : Option Store) → IsSomeAnd old (λ m. m name ≡ None) → StandsAgainst old name (Lacks name)
    by None is = tt
    by (Some m) is = ap (found_to m name) is

stopped : (m : Store) (name : List ℕ) (c : Settings) (o : Outcome InputsRefusal) → IsOfFile (Some m) name c
    → trouble m (machine_files c) ≡ Some o → found m name ≡ Err o
stopped m name c o (bytes, at, is) stands =
    ap (found_to m name) at ∙ ap (judged_to m) is ∙ ap (or_stands c) stands

pub machine-lacks : (f g : Seen Store) (name : List ℕ) (c : Settings) (fault : ReadFault InputsRefusal) → IsStanding f
    → IsOfFile f.old name c → g.old ≡ f.new → AreLacking g.old (machine_files c) fault
    → ComesLacking (StandsAgainst f.old name) fault
machine-lacks f g name c (Refused r) stands is same lacking = tt
machine-lacks f g name c NoMemory stands is same lacking = tt
machine-lacks f g name c (Failed n) stands is same lacking = by f.old (joined-told f g stands same) is
  where
    at : (m : Store) → g.old ≡ Some m → (lacks : List ℕ) × (trouble m (machine_files c) ≡ Some (Lacks lacks))
    at m told =
        subst (λ o. IsSomeAnd o (λ n. (lacks : List ℕ) × (trouble n (machine_files c) ≡ Some (Lacks lacks)))) told lacking

    by : (old : Option Store) → IfSome old (λ m. g.old ≡ Some m) → IsOfFile old name c
        → (lacks : List ℕ) × StandsAgainst old name (Lacks lacks)
    by None told is = (name, tt)
    by (Some m) told is = let l = at m told in (l.0, stopped m name c (Lacks l.0) is l.1)

-- Of the file of steps.

-- what its bytes spell is what its order comes to
pub spelled : (f : Seen Store) (ports : ℕ) (file text bytes : List ℕ) (steps : Result (List Step) ℕ) → IsRead f file bytes
    → text ≡ bytes → SpellsSteps ports text steps → IfSome f.old (λ m. OrdersList ports file m (schedule_of steps))
spelled f ports file text bytes steps read same spells = by f.old read.found
  where
    by : (old : Option Store) → IfSome old (λ m. m file ≡ Some bytes)
        → IfSome old (λ m. OrdersList ports file m (schedule_of steps))
    by None found = tt
    by (Some m) found =
        subst (λ b. OrdersBy ports file b (schedule_of steps)) (sym found)
        (steps, subst (λ b. SpellsSteps ports b steps) same spells, refl)

-- Of all that a run begins with.

pub are-found : (old : Option Store) (name : List ℕ) (p : Parts) → IfSome old (λ m. ArePartsOf m name p)
    → IfSome old (λ m. found m name ≡ Ok p.config)
are-found None name p are = tt
are-found (Some m) name p are = are.config

-- what stands against the schedule of a machine that is had is what the command comes to
pub order-stands : (old mid : Option Store) (name : List ℕ) (order : Order) (c : Settings) (ports : ℕ)
    (o : Outcome LocalRefusal) → ports ≡ length c.ports → IfSome old (λ m. found m name ≡ Ok c)
    → IfSome old (λ m. mid ≡ Some m) → OrderStands mid (Orders ports order) o → LocalComes old name order o
order-stands None mid name order c ports o same is told stands = tt
order-stands (Some m) mid name order c ports o same is told stands =
    let orders : Orders ports order m (Err o) = subst (λ x. OrderStands x (Orders ports order) o) told stands in
    subst (λ x. FoundTo m order x o) (sym is)
    (Err o, subst (λ n. Orders n order m (Err o)) same orders, refl)

pub order-lacks : (f g : Seen Store) (name : List ℕ) (order : Order) (c : Settings) (ports : ℕ)
    (fault : ReadFault LocalRefusal) → ports ≡ length c.ports → IsStanding f → IfSome f.old (λ m. found m name ≡ Ok c)
    → g.old ≡ f.new → ComesLacking (OrderStands g.old (Orders ports order)) fault
    → ComesLacking (LocalComes f.old name order) fault
order-lacks f g name order c ports (Refused r) count stands is same lacks = tt
order-lacks f g name order c ports NoMemory count stands is same lacks = tt
order-lacks f g name order c ports (Failed n) count stands is same lacks = (
  lacks.0,
  order-stands f.old g.old name order c ports (Lacks lacks.0) count is (joined-told f g stands same) lacks.1,
)
