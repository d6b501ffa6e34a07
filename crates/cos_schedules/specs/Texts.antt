-- Steps as texts, a line for each.
use Rattle.std.specs.Prelude.{◌≡◌, ℕ, ◌+◌, ◌<◌, ◌^◌, List, [], ◌∷◌, ◌++◌, codes, decimal, length, Result, Ok, Err}
use Rattle.std.specs.List.{AllZip}
use Rattle.cos_text.specs.Lines.{lines}
use Rattle.cos_schedules.specs.declared.fault.StepsFault.{StepsFault}
use Rattle.cos_schedules.specs.declared.fault.StepsFault.TheVariants.{Line, NoMemory}
use Rattle.cos_schedules.specs.declared.step.Step.{Step}
use Rattle.cos_schedules.specs.declared.step.Step.TheVariants.{Machine, Device, Deliver}
use Rattle.cos_schedules.specs.declared.step.Way.{Way}
use Rattle.cos_schedules.specs.declared.step.Way.TheVariants.{Out, Back}

-- The machine moves, a device does, or so many bytes are delivered: to the device, or back.

abbrev pub delivery_name : Way → List ℕ
delivery_name Out = codes "> "
delivery_name Back = codes "< "

abbrev pub text_of : Step → List ℕ
text_of Machine = codes "m"
text_of (Device port) = codes "d " ++ decimal port
text_of (Deliver port way count) = delivery_name way ++ (decimal port ++ (codes " " ++ decimal count))

-- A port below the number of ports, and a count of 32 bits.
abbrev pub Fits : ℕ → Step → Type 0
Fits ports Machine = Unit {0}
Fits ports (Device port) = port < ports
Fits ports (Deliver port way count) = (port < ports) × (count < 2 ^ 32)

abbrev pub Spells : ℕ → List ℕ → Step → Type 0
Spells ports line step = (line ≡ text_of step) × Fits ports step

-- The lines spell the steps, one after another.
abbrev pub AllSpell : ℕ → List (List ℕ) → List Step → Type 0
AllSpell ports lines steps = AllZip (Spells ports) lines steps

-- The lines before this one spell steps, and this one spells none. Lines are counted from 1.
pub record IsFirstBad (ports : ℕ) (text : List ℕ) (line : ℕ) : Type 0 where
  pub before : List (List ℕ)
  pub bad : List ℕ
  pub behind : List (List ℕ)
  pub lines_are : lines text ≡ before ++ bad ∷ behind
  pub line_is : line ≡ length before + 1
  pub steps : List Step
  pub spelled : AllSpell ports before steps
  pub none : (step : Step) → Spells ports bad step → ⊥

-- What reading a text answers: its steps, and it spells no others, or its first bad line.
abbrev pub ReadsInto : ℕ → List ℕ → Result (List Step) StepsFault → Type 0
ReadsInto ports text (Ok steps) =
    AllSpell ports (lines text) steps × ((others : List Step) → AllSpell ports (lines text) others → others ≡ steps)
ReadsInto ports text (Err (Line line)) = IsFirstBad ports text line
ReadsInto ports text (Err NoMemory) = Unit {0}

-- What adding the step of a line answers.
abbrev pub Adds : ℕ → List ℕ → ℕ → List Step → List Step → Result Unit StepsFault → Type 0
Adds ports line number old new (Ok done) = (step : Step) × Spells ports line step × (new ≡ old ++ step ∷ [])
Adds ports line number old new (Err (Line n)) = ((step : Step) → Spells ports line step → ⊥) × (n ≡ number)
Adds ports line number old new (Err NoMemory) = Unit {0}
