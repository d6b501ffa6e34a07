-- What the text of a script says: its steps, or the number of its first line that is none of a script's.
use Rattle.std.specs.Prelude.{◌≡◌, ℕ, zero, suc, ◌==◌, Bool, true, false, if◌then◌else◌, List, [], ◌∷◌, ◌++◌, codes, Option, Some, None, Result, Ok, Err}
use Rattle.std.specs.List.{slice_split}
use Rattle.std.specs.Str.{bytes_eq}
use Rattle.std.specs.Global.{Vec}
use Rattle.cos_script.specs.declared.fault.ScriptFault.{ScriptFault}
use Rattle.cos_script.specs.declared.fault.ScriptFault.TheVariants.{Line, NoMemory}
use Rattle.cos_script.specs.declared.step.ScriptStep.{ScriptStep}
use Rattle.cos_script.specs.declared.step.ScriptStep.TheVariants.{Read, Write, Wait}
use Rattle.cos_text.specs.Numbers.{number}
use Rattle.cos_text.specs.Lines.{lines}
use Rattle.cos_script.specs.Steps.{fits, is_wait}

-- The parts round each byte of that value.
abbrev pub parts : ℕ → List ℕ → List (List ℕ)
parts value text = slice_split (λ c. c == value) text

-- The words of a line are separated by one blank each.
abbrev pub words : List ℕ → List (List ℕ)
words line = parts 32 line

abbrev pub both : Option ℕ → Option (List ℕ) → Option (List ℕ)
both None ns = None
both (Some n) None = None
both (Some n) (Some ns) = Some (n ∷ ns)

-- So many words, each a number.
abbrev pub numbers : ℕ → List (List ℕ) → Option (List ℕ)
numbers zero [] = Some []
numbers zero (w ∷ ws) = None
numbers (suc n) [] = None
numbers (suc n) (w ∷ ws) = both (number w) (numbers n ws)

abbrev pub fitting : ℕ → ScriptStep → Option ScriptStep
fitting ports step = if fits ports step then Some step else None

-- port, address and size
abbrev pub read_step : ℕ → Option (List ℕ) → Option ScriptStep
read_step ports (Some (p ∷ a ∷ s ∷ [])) = fitting ports (Read p a s)
read_step ports ns = None

-- port, address, size and value
abbrev pub write_step : ℕ → Bool → Option (List ℕ) → Option ScriptStep
write_step ports posted (Some (p ∷ a ∷ s ∷ v ∷ [])) = fitting ports (Write p a s v posted)
write_step ports posted ns = None

-- units
abbrev pub wait_step : Option (List ℕ) → Option ScriptStep
wait_step (Some (n ∷ [])) = if is_wait n then Some (Wait n) else None
wait_step ns = None

-- The step of a name with its words.
abbrev pub named_step : ℕ → List ℕ → List (List ℕ) → Option ScriptStep
named_step ports name ws =
    if bytes_eq name (codes "read") then read_step ports (numbers 3 ws) else
    if bytes_eq name (codes "write") then write_step ports false (numbers 4 ws) else
    if bytes_eq name (codes "post") then write_step ports true (numbers 4 ws) else
    if bytes_eq name (codes "wait") then wait_step (numbers 1 ws) else None

abbrev pub step_of : ℕ → List (List ℕ) → Option ScriptStep
step_of ports [] = None
step_of ports (name ∷ ws) = named_step ports name ws

-- The steps of a line: none of an empty one and of one that begins with #.

abbrev pub one_step : Option ScriptStep → Option (List ScriptStep)
one_step None = None
one_step (Some step) = Some (step ∷ [])

abbrev pub line_steps : ℕ → List ℕ → Option (List ScriptStep)
line_steps ports [] = Some []
line_steps ports (c ∷ cs) = if c == 35 then Some [] else one_step (step_of ports (words (c ∷ cs)))

-- The steps of lines, of which the first has that number.

abbrev pub before_steps : List ScriptStep → Result (List ScriptStep) ℕ → Result (List ScriptStep) ℕ
before_steps steps (Ok more) = Ok (steps ++ more)
before_steps steps (Err line) = Err line

abbrev pub with_line : ℕ → Option (List ScriptStep) → Result (List ScriptStep) ℕ → Result (List ScriptStep) ℕ
with_line number None rest = Err number
with_line number (Some steps) rest = before_steps steps rest

abbrev pub lines_steps : ℕ → ℕ → List (List ℕ) → Result (List ScriptStep) ℕ
lines_steps ports number [] = Ok []
lines_steps ports number (line ∷ more) = with_line number (line_steps ports line) (lines_steps ports (suc number) more)

-- The lines of a text are counted from 1.
abbrev pub script_of : ℕ → List ℕ → Result (List ScriptStep) ℕ
script_of ports text = lines_steps ports 1 (lines text)

-- What reading a script answers.
abbrev pub ReadsInto : ℕ → List ℕ → Result (Vec ScriptStep) ScriptFault → Type 0
ReadsInto ports text (Ok steps) = script_of ports text ≡ Ok steps.items
ReadsInto ports text (Err (Line line)) = script_of ports text ≡ Err line
ReadsInto ports text (Err NoMemory) = Unit {0}

-- What adding the steps of a line answers.
abbrev pub Adds : ℕ → List ℕ → ℕ → List ScriptStep → List ScriptStep → Result Unit ScriptFault → Type 0
Adds ports line number old new (Ok done) = (steps : List ScriptStep) × (line_steps ports line ≡ Some steps)
    × (new ≡ old ++ steps)
Adds ports line number old new (Err (Line n)) = (line_steps ports line ≡ None) × (n ≡ number)
Adds ports line number old new (Err NoMemory) = Unit {0}
