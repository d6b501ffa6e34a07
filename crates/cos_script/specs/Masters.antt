-- A master that does the steps of a script: it holds those that are left, and what is left of a wait.
use Rattle.std.specs.Prelude.{◌≡◌, ℕ, zero, suc, ◌-◌, Bool, true, false, List, [], ◌∷◌, All, Option, Some, None, Result, Ok, Err}
use Rattle.cos_api.specs.Levels.{with_level}
use Rattle.cosim_model.specs.declared.values.Bus.{Bus}
use Rattle.cosim_model.specs.Parts.{MasterModel}
use Rattle.sys_ram.specs.Memory.{read_of, write_of}
use Rattle.cos_script.specs.declared.fault.ScriptFault.{ScriptFault}
use Rattle.cos_script.specs.declared.fault.ScriptFault.TheVariants.{Line, NoMemory}
use Rattle.cos_script.specs.declared.step.ScriptStep.{ScriptStep}
use Rattle.cos_script.specs.declared.step.ScriptStep.TheVariants.{Read, Write, Wait}
use Rattle.cos_script.specs.Steps.{fits, bus_of}
use Rattle.cos_script.specs.Scripts.{script_of}

pub record ScriptState : Type 0 where
  -- the units that are left of a wait
  pub wait : ℕ
  pub left : List ScriptStep
  -- the access that is issued and unfinished
  pub issued : Option Bus
  pub ports : ℕ
  -- the levels of the interrupt lines: line i is bit i
  pub lines : ℕ
  pub ram : List ℕ

abbrev pub fresh_script : List ScriptStep → ℕ → List ℕ → ScriptState
fresh_script steps ports ram = record { wait = 0; left = steps; issued = None; ports = ports; lines = 0; ram = ram }

-- One unit of a step: an access, or the first unit of a wait. A step that doesn't fit the machine is a unit in which
-- nothing happens; no script has one.

abbrev pub issue_step : ScriptState → List ScriptStep → Bool → ScriptStep → ScriptState × Option Bus
issue_step m rest true (Wait units) = (record m { wait = units - 1; left = rest; issued = None }, None)
issue_step m rest true (Read port addr size) =
    (record m { left = rest; issued = bus_of (Read port addr size) }, bus_of (Read port addr size))
issue_step m rest true (Write port addr size value posted) = (
  record m { left = rest; issued = bus_of (Write port addr size value posted) },
  bus_of (Write port addr size value posted),
)
issue_step m rest false step = (record m { left = rest; issued = None }, None)

abbrev pub issue_first : ScriptState → List ScriptStep → ScriptState × Option Bus
issue_first m [] = (record m { issued = None }, None)
issue_first m (step ∷ rest) = issue_step m rest (fits m.ports step) step

abbrev pub issue_unit : ScriptState → ℕ → ScriptState × Option Bus
issue_unit m zero = issue_first m m.left
issue_unit m (suc wait) = (record m { wait = wait; issued = None }, None)

-- Every step fits a machine with so many ports.
abbrev pub HaveFit : ℕ → List ScriptStep → Type 0
HaveFit ports steps = All (λ s. fits ports s ≡ true) steps

-- It stops with code 0 where no unit is left.
abbrev pub stopped_of : ℕ → List ScriptStep → Option Bus → Option ℕ
stopped_of zero [] None = Some 0
stopped_of wait left issued = None

abbrev pub script_model : MasterModel ScriptState
script_model = record {
  issue = λ m. issue_unit m m.wait;
  finish = λ m answer. record m { issued = None };
  read = λ m addr n. read_of m.ram addr n;
  write = λ m addr bytes ons. (record m { ram = (write_of m.ram addr bytes ons).0 }, (write_of m.ram addr bytes ons).1);
  line = λ m number level. record m { lines = with_level m.lines number level };
  stopped = λ m. stopped_of m.wait m.left m.issued;
  closing = λ m. record { hart = None; lines = m.lines };
  issued = λ m. m.issued;
  reach = λ m. m.ports;
  full = λ m. true;
}

-- A script makes a master that stands before its first unit, or its first faulty line is named.
abbrev pub Makes : ℕ → List ℕ → List ℕ → Result ScriptState ScriptFault → Type 0
Makes ports text ram (Ok m) = (steps : List ScriptStep) × (script_of ports text ≡ Ok steps)
    × (m ≡ fresh_script steps ports ram)
Makes ports text ram (Err (Line line)) = script_of ports text ≡ Err line
Makes ports text ram (Err NoMemory) = Unit {0}
