-- The schedule that an order names.
use Rattle.std.specs.Prelude.{◌≡◌, ◌⊎◌, ℕ, List, [], ◌∷◌, Result, Ok, Err}
use Rattle.std.specs.Str.{IsUtf8}
use Rattle.std.specs.declared.option.Option.{Option}
use Rattle.std.specs.declared.option.Option.TheVariants.{Some, None}
use Rattle.cos_base.specs.Stores.{Store}
use Rattle.cos_text.specs.Lines.{lines}
use Rattle.cos_schedules.specs.declared.schedule.Schedule.{Schedule as Scheduled}
use Rattle.cos_schedules.specs.declared.schedule.Schedule.TheVariants.{Number, Listed}
use Rattle.cos_schedules.specs.declared.step.Step.{Step}
use Rattle.cos_schedules.specs.Texts.{AllSpell, IsFirstBad}
use Rattle.outcomes.specs.declared.failures.JudgeFault.{JudgeFault}
use Rattle.outcomes.specs.declared.failures.JudgeFault.TheVariants as judge
use Rattle.outcomes.specs.Outcomes.{Outcome, Lacks, Refuses}
use Rattle.cosim_local.specs.declared.order.Order.{Order}
use Rattle.cosim_local.specs.declared.order.Order.TheVariants.{Schedule, Steps}
use Rattle.cosim_local.specs.declared.refusal.LocalRefusal.{LocalRefusal}
use Rattle.cosim_local.specs.declared.refusal.LocalRefusal.TheVariants as refusal

-- The steps that a file's bytes spell, over so many ports, or the first line that spells none. Bytes that aren't UTF-8
-- are refused at line 1.
abbrev pub SpellsSteps : ℕ → List ℕ → Result (List Step) ℕ → Type 0
SpellsSteps ports bytes (Ok steps) = IsUtf8 bytes × AllSpell ports (lines bytes) steps
SpellsSteps ports bytes (Err line) = (IsUtf8 bytes × IsFirstBad ports bytes line)
    ⊎ ((IsUtf8 bytes → ⊥) × (line ≡ 1))

-- what reading them answers; there may be no memory
abbrev pub Spells : ℕ → List ℕ → Result (List Step) (JudgeFault ℕ) → Type 0
Spells ports bytes (Ok steps) = SpellsSteps ports bytes (Ok steps)
Spells ports bytes (Err (judge.Refused line)) = SpellsSteps ports bytes (Err line)
Spells ports bytes (Err judge.NoMemory) = Unit {0}

-- a schedule, or what stands against having it
abbrev pub Ordered : Type 0
Ordered = Result Scheduled (Outcome LocalRefusal)

abbrev pub schedule_of : Result (List Step) ℕ → Ordered
schedule_of (Ok steps) = Ok (Listed steps)
schedule_of (Err line) = Err (Refuses (refusal.Steps line) [])

-- by the bytes of the file of steps
abbrev pub OrdersBy : ℕ → List ℕ → Option (List ℕ) → Ordered → Type 0
OrdersBy ports file None r = r ≡ Err (Lacks file)
OrdersBy ports file (Some bytes) r =
    (steps : Result (List Step) ℕ) × SpellsSteps ports bytes steps × (r ≡ schedule_of steps)

abbrev pub OrdersList : ℕ → List ℕ → Store → Ordered → Type 0
OrdersList ports file m r = OrdersBy ports file (m file) r

abbrev pub Orders : ℕ → Order → Store → Ordered → Type 0
Orders ports (Schedule number) m r = r ≡ Ok (Number number)
Orders ports (Steps file) m r = OrdersList ports file.now m r

-- the file that it names
abbrev pub order_names : Order → List (List ℕ)
order_names (Schedule number) = []
order_names (Steps file) = file.now ∷ []
