-- Local units of a machine end, one after another, and the turn that comes next.
use Rattle.std.specs.Prelude.{◌≡◌, ℕ, zero, suc, ◌+◌, ◌<◌, ◌≤◌, Bool, false, List, Option, Some, None, Result, Ok, Err}
use Rattle.cos_base.specs.declared.no_memory.NoMemory.{NoMemory}
use Rattle.cosim_model.specs.declared.values.Bus.{Bus}
use Rattle.cosim_model.specs.declared.values.Plan.{Plan}
use Rattle.cosim_model.specs.Order.{at_quantum}
use Rattle.cosim_model.specs.Parts.{MasterModel}
use Rattle.ends_model.specs.declared.ends.Turn.{Turn}
use Rattle.ends_model.specs.MachineTurn.{MachineEnd, is_boundary_due, machine_acts}
use Rattle.ends_model.specs.MachineTurn.Act.{Works}
use Rattle.rp_packet.specs.declared.fault.Cause.{Cause}
use Rattle.machine_core.specs.Machines.{Acts, Core}

-- so many local units, one after another
abbrev pub HasWorked : {M : Type 0} → MasterModel M → ℕ → MachineEnd M Cause → MachineEnd M Cause → Type 0
HasWorked k zero h g = g ≡ h
HasWorked {M} k (suc n) h g =
    (next : MachineEnd M Cause) × (machine_acts k h ≡ Works next) × HasWorked k n next g

-- So many local units were taken, and then the turn that came next.
pub record Advances {M : Type 0} (k : MasterModel M) (units : ℕ) (old new : Core M) (before after : List ℕ)
    (r : Result Turn NoMemory) : Type 0 where
  pub mid : Core M
  pub worked : HasWorked k units old.end mid.end
  pub acts : Acts k mid new before after r

-- No boundary is due before so many units are done, unless the master stops.
pub record AreAhead {M : Type 0} (k : MasterModel M) (plan : Plan) (m : M) (tick : ℕ) (marked : Bool) (count : ℕ)
    : Type 0 where
  pub within : tick + count ≤ plan.units
  pub due : k.stopped m ≡ None → 0 < count → is_boundary_due k plan m tick marked ≡ false
  pub between : (t : ℕ) → tick < t → t < tick + count → at_quantum plan t ≡ false

-- so many local units of a master that had not stopped
abbrev pub AreLocal : {M : Type 0} → MasterModel M → ℕ → M → M → Type 0
AreLocal k zero m n = n ≡ m
AreLocal {M} k (suc c) m n = (next : M) × (k.stopped m ≡ None) × (k.issue m ≡ (next, None)) × AreLocal k c next n

-- behind them it issued an access, where it might take a unit more, or did nothing
abbrev pub Issues : {M : Type 0} → MasterModel M → ℕ → M → M → Result (Option Bus) NoMemory → Type 0
Issues k left mid new (Ok None) = new ≡ mid
Issues k left mid new (Ok (Some b)) = (0 < left) × (k.stopped mid ≡ None) × (k.issue mid ≡ (new, Some b))
Issues k left mid new (Err e) = new ≡ mid

-- Of so many units that it might take, these are left.
pub record TakesUnits {M : Type 0} (k : MasterModel M) (most left : ℕ) (old new : M)
    (r : Result (Option Bus) NoMemory) : Type 0 where
  pub units : ℕ
  pub mid : M
  pub count : units + left ≡ most
  pub local : AreLocal k units old mid
  pub issues : Issues k left mid new r
