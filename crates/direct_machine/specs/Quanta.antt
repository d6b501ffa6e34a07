-- The next multiple of the quantum, and its boundary.
use Rattle.std.specs.Prelude.{◌≡◌, ℕ, ◌+◌, ◌%◌, ◌<◌, ◌≤◌, Bool, false, ◌&&◌, nat_lt, nat_eq}
use Rattle.cosim_model.specs.Parts.{DeviceModel, MasterModel}
use Rattle.direct_machine.specs.declared.run.WantOrder.{WantOrder}
use Rattle.direct_machine.specs.declared.run.Run.{Run}
use Rattle.direct_machine.specs.Runs.{Leads, IsReady}
use Rattle.direct_machine.specs.Orders.{boundary_if}

-- A boundary stands at a tick.
abbrev pub at_multiple : ℕ → ℕ → Bool
at_multiple quantum tick = nat_lt 0 tick && nat_eq (tick % quantum) 0

-- `next` is the first multiple above 0 from the tick on.
pub record IsNext (quantum tick next : ℕ) : Type 0 where
  pub ahead : tick ≤ next
  pub far : quantum ≤ next
  pub some : 0 < quantum
  pub multiple : next % quantum ≡ 0
  pub between : (t : ℕ) → tick ≤ t → t < next → at_multiple quantum t ≡ false

-- Where the tick is a multiple there was a boundary, and the multiple after the tick is known.
pub record Meets {M S : Type 0} (k : MasterModel M) (d : DeviceModel S) (order : WantOrder) (quantum : ℕ)
    (old new : Run M S) (next : ℕ) : Type 0 where
  pub leads : Leads (λ plan r. boundary_if k d order plan (at_multiple quantum r.tick) r) old new
  pub ready : IsReady k d new
  pub tick : new.tick ≡ old.tick
  pub stopped : k.stopped new.master ≡ k.stopped old.master
  pub next_is : IsNext quantum (old.tick + 1) next
