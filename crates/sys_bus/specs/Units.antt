-- One unit of the machine: that of its hart over RAM, the system block and the windows.
use Rattle.std.specs.Prelude.{ℕ, ◌-◌, ◌/◌, ◌%◌, ◌^◌, Bool, true, false, ◌&&◌, nat_eq, if◌then◌else◌, List, length, replicate, Option, Some, None}
use Rattle.cosim_model.specs.declared.values.Answer.{Answer}
use Rattle.cosim_model.specs.declared.values.Bus.{Bus}
use Rattle.cosim_model.specs.Parts.{MasterModel}
use Rattle.rv_table.specs.declared.instr.Instr.{Instr}
use Rattle.rv_core.specs.declared.hart.HartAccess.{HartAccess}
use Rattle.rv_core.specs.declared.issue.Waiting.{Waiting}
use Rattle.rv_core.specs.declared.effect.Effect.{Effect}
use Rattle.rv_traps.specs.Registers.{reset_values}
use Rattle.rv_core.specs.Rows.{completed}
use Rattle.rv_core.specs.Units.{applied, effect_of, waiting_of}
use Rattle.sys_ram.specs.Memory.{read_of, write_of, number_of, store_of}
use Rattle.sys_bus.specs.declared.map.Window.{Window}
use Rattle.sys_bus.specs.declared.machine.Machine.{Machine}
use Rattle.sys_bus.specs.declared.machine.Unfinished.{Unfinished}
use Rattle.sys_bus.specs.declared.system.SystemRegister.{SystemRegister}
use Rattle.sys_bus.specs.declared.system.SystemRegister.TheVariants.{Power, Lines, Enable, TimerEnable}
use Rattle.sys_bus.specs.Maps.{MapState, window_from}
use Rattle.sys_bus.specs.Systems.{fresh_system, register_at, register_value, pending_of, lined}

-- The answer of an access ends the unit: a number, or nothing where the access was refused.
abbrev pub finished : Machine → Instr → Option ℕ → Machine
finished m i answer = record m { hart = applied m.hart (completed m.hart i answer) }

-- An access of the system block. LINES can't be written, and a write of POWER stops the machine.
abbrev pub system_written : Machine → SystemRegister → ℕ → Machine × Option ℕ
system_written m Power value = (record m { stopped = Some value }, Some 0)
system_written m Lines value = (m, None)
system_written m Enable value = (record m { system = record m.system { enable = value } }, Some 0)
system_written m TimerEnable value = (record m { system = record m.system { timer_enable = value } }, Some 0)

abbrev pub system_accessed : Machine → HartAccess → Option SystemRegister → Machine × Option ℕ
system_accessed m a None = (m, None)
system_accessed m a (Some register) = if a.write then system_written m register a.value
    else (m, Some (register_value m.system register))

-- The access of the hart in RAM: the unit is done, or its access goes beyond RAM.
abbrev pub loaded : Machine → Waiting → Option ℕ → Machine × Option Waiting
loaded m x (Some number) = (finished m x.rest (Some number), None)
loaded m x None = (m, Some x)

abbrev pub stored : Machine → Waiting → List ℕ → Bool → Machine × Option Waiting
stored m x ram true = (finished (record m { ram = ram }) x.rest (Some 0), None)
stored m x ram false = (record m { ram = ram }, Some x)

abbrev pub accessed : Machine → Waiting → Machine × Option Waiting
accessed m x =
    if x.request.write
    then (let to_ram = store_of m.ram x.request.addr x.request.size x.request.value in stored m x to_ram.0 to_ram.1)
    else loaded m x (number_of m.ram x.request.addr x.request.size)

abbrev pub after_effect : Machine → Option Waiting → Machine × Option Waiting
after_effect m None = (m, None)
after_effect m (Some x) = accessed m x

abbrev pub effect_in : Machine → Effect
effect_in m = effect_of m.hart (number_of m.ram m.hart.pc 4) (pending_of m.system)

-- The machine after a unit that stays in RAM, or the access by which the unit goes beyond it.
abbrev pub local_unit : Machine → Machine × Option Waiting
local_unit m = after_effect (record m { hart = applied m.hart (effect_in m) }) (waiting_of (effect_in m))

-- The access of a window goes to its port, with the address minus the window's base and every lane enabled.
abbrev pub bus_of : ℕ → Window → HartAccess → Bus
bus_of port w a = record {
  port = port;
  access = record {
    write = a.write;
    posted = a.write && w.posted;
    addr = a.addr - w.base;
    size = a.size;
    value = a.value;
    lanes = 2 ^ a.size - 1;
  };
}

abbrev pub window_accessed : Machine → Waiting → Option (ℕ × Window) → Machine × Option Unfinished
window_accessed m x None = (finished m x.rest None, None)
window_accessed m x (Some found) = (m, Some (record { bus = bus_of found.0 found.1 x.request; rest = x.rest }))

abbrev pub system_unit : Machine → Waiting → Machine
system_unit m x =
    let answered = system_accessed m x.request (register_at (x.request.addr % 4096) x.request.size)
    in finished answered.0 x.rest answered.1

-- Beyond RAM there are the system block, a page at 0x00100000, and the windows.
abbrev pub accessed_beyond : MapState → Machine → Waiting → Machine × Option Unfinished
accessed_beyond map m x =
    if nat_eq (x.request.addr / 4096) 256
    then (system_unit m x, None)
    else window_accessed m x (window_from 0 map.windows x.request.addr x.request.size)

abbrev pub beyond : MapState → Machine → Option Waiting → Machine × Option Unfinished
beyond map m None = (m, None)
beyond map m (Some x) = accessed_beyond map m x

-- The machine after it issued a unit, and what is left of the unit where that waits for a port.
abbrev pub unit_of : MapState → Machine → Machine × Option Unfinished
unit_of map m = beyond map (local_unit m).0 (local_unit m).1

-- What a port's answer gives the hart: its data, or nothing where the code isn't 0.
abbrev pub answer_given : ℕ → ℕ → Option ℕ
answer_given code value = if nat_eq code 0 then Some (value % 2 ^ 32) else None

-- The machine as a master: it doesn't change before the answer of an access that it issues.
pub record MasterState : Type 0 where
  pub machine : Machine
  pub map : MapState
  pub waiting : Option Unfinished

abbrev pub bus_awaited : Option Unfinished → Option Bus
bus_awaited None = None
bus_awaited (Some u) = Some u.bus

abbrev pub issued_by : MapState → Machine × Option Unfinished → MasterState × Option Bus
issued_by map r = (record { machine = r.0; map = map; waiting = r.1 }, bus_awaited r.1)

abbrev pub machine_finished : Machine → Option Unfinished → Answer → Machine
machine_finished m None x = m
machine_finished m (Some u) x = finished m u.rest (answer_given x.code x.value)

abbrev pub written_by : MasterState → List ℕ × ℕ → MasterState × ℕ
written_by s r = (record s { machine = record s.machine { ram = r.0 } }, r.1)

abbrev pub rv_model : MasterModel MasterState
rv_model = record {
  issue = λ s. issued_by s.map (unit_of s.map s.machine);
  finish = λ s x. record { machine = machine_finished s.machine s.waiting x; map = s.map; waiting = None };
  read = λ s addr n. read_of s.machine.ram addr n;
  write = λ s addr bytes ons. written_by s (write_of s.machine.ram addr bytes ons);
  line = λ s number level. record s { machine = record s.machine { system = lined s.machine.system number level } };
  stopped = λ s. s.machine.stopped;
  closing =
      λ s. record {
        hart = Some (record { pc = s.machine.hart.pc; regs = s.machine.hart.regs });
        lines = s.machine.system.lines;
      };
  issued = λ s. bus_awaited s.waiting;
  reach = λ s. length s.map.windows;
  full = λ s. true;
}

abbrev pub fresh_master : List ℕ → MapState → MasterState
fresh_master ram map = record {
  machine =
      record {
        hart = record { pc = 0x80000000; regs = replicate 32 0; csrs = reset_values };
        ram = ram;
        system = fresh_system;
        stopped = None;
      };
  map = map;
  waiting = None;
}
