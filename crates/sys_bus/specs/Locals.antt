-- What a unit asks for beyond RAM is the access of a hart.
use Rattle.std.specs.Prelude.{◌≡◌, ℕ, Bool, true, false, if◌then◌else◌, List, Option, Some, None, refl}
use Rattle.rv_core.specs.declared.issue.Waiting.{Waiting}
use Rattle.rv_core.specs.Units.{applied, waiting_of}
use Rattle.sys_ram.specs.Memory.{number_of, store_of}
use Rattle.sys_bus.specs.declared.machine.Machine.{Machine}
use Rattle.sys_bus.specs.Accesses.{IsHartAccess}
use Rattle.sys_bus.specs.RowLaws.{waiting-is}
use Rattle.sys_bus.specs.Systems.{pending_of}
use Rattle.sys_bus.specs.Units.{loaded, stored, accessed, after_effect, effect_in, local_unit}

abbrev pub AreAccesses : Option Waiting → Type 0
AreAccesses None = Unit
AreAccesses (Some x) = IsHartAccess x.request

either-are : (b : Bool) (r s : Machine × Option Waiting) → AreAccesses r.1 → AreAccesses s.1
    → AreAccesses (if b then r else s).1
either-are true r s p q = p
either-are false r s p q = q

loaded-is : (m : Machine) (x : Waiting) (number : Option ℕ) → IsHartAccess x.request → AreAccesses (loaded m x number).1
loaded-is m x (Some number) is = tt
loaded-is m x None is = is

stored-is : (m : Machine) (x : Waiting) (ram : List ℕ) (there : Bool) → IsHartAccess x.request
    → AreAccesses (stored m x ram there).1
stored-is m x ram true is = tt
stored-is m x ram false is = is

accessed-is : (m : Machine) (x : Waiting) → IsHartAccess x.request → AreAccesses (accessed m x).1
accessed-is m x is =
    let to_ram = store_of m.ram x.request.addr x.request.size x.request.value in
    let number = number_of m.ram x.request.addr x.request.size in
    either-are x.request.write (stored m x to_ram.0 to_ram.1) (loaded m x number) (stored-is m x to_ram.0 to_ram.1 is)
    (loaded-is m x number is)

after_effect-is : (m : Machine) (x : Option Waiting) → ((y : Waiting) → x ≡ Some y → IsHartAccess y.request)
    → AreAccesses (after_effect m x).1
after_effect-is m None is = tt
after_effect-is m (Some x) is = accessed-is m x (is x refl)

pub local_unit-is : (m : Machine) → AreAccesses (local_unit m).1
local_unit-is m =
    after_effect-is (record m { hart = applied m.hart (effect_in m) }) (waiting_of (effect_in m))
    (waiting-is m.hart (number_of m.ram m.hart.pc 4) (pending_of m.system))
