-- A machine at work, as a state of the direct machine, and what its steps do.
use Rattle.std.specs.Prelude.{◌≡◌, ℕ, ◌<◌, ◌≤◌, Bool, true, false, List, [], ◌∷◌, ◌++◌, length, set, All, Some, None, slice_get}
use Rattle.cosim_model.specs.declared.values.Plan.{Plan}
use Rattle.cosim_model.specs.declared.values.Want.{Want}
use Rattle.cosim_model.specs.declared.values.Bus.{Bus}
use Rattle.cosim_model.specs.declared.values.Call.TheVariants as call
use Rattle.cosim_model.specs.Parts.{DeviceModel, MasterModel, IsAccess, served}
use Rattle.cosim_model.specs.Direct.{Direct, Moment}
use Rattle.direct_machine.specs.declared.run.Run.{Run}
use Rattle.direct_machine.specs.Wants.{first_port}

-- The direct machine that has come as far, with a history.
abbrev pub at : {M S : Type 0} → Run M S → List Moment → Direct M S
at r history =
    record { master = r.master; devices = r.devices.items; calls = r.calls.calls; tick = r.tick; history = history }

-- Whatever came before, a step of the direct machine leads from where the one is to where the other is.
abbrev pub Leads : {M S : Type 0} → (Plan → Direct M S → Direct M S) → Run M S → Run M S → Type 0
Leads step old new = (plan : Plan) (before : List Moment) → (after : List Moment)
    × (step plan (at old before) ≡ at new after)

-- It stands between two units: there are at most 16 ports, all that the master names, nothing is issued, and no device
-- is ahead.
pub record IsReady {M S : Type 0} (k : MasterModel M) (d : DeviceModel S) (r : Run M S) : Type 0 where
  pub ports : length r.devices.items ≤ 16
  pub reach : k.reach r.master ≤ length r.devices.items
  pub issued : k.issued r.master ≡ None
  pub seen : All (λ (s : S). d.seen s ≤ r.tick) r.devices.items

-- An access of the master's is issued, and it may go to its device.
pub record IsIssued {M S : Type 0} (k : MasterModel M) (d : DeviceModel S) (r : Run M S) (bus : Bus) : Type 0 where
  pub ports : length r.devices.items ≤ 16
  pub reach : k.reach r.master ≤ length r.devices.items
  pub issued : k.issued r.master ≡ Some bus
  pub seen : All (λ (s : S). d.seen s ≤ r.tick) r.devices.items
  pub there : bus.port < length r.devices.items
  pub access : IsAccess bus.access

-- The want of a port was served.
pub record HasServed {M S : Type 0} (k : MasterModel M) (d : DeviceModel S) (port : ℕ) (old new : Run M S)
    : Type 0 where
  pub device : S
  pub want : Want
  pub there : slice_get old.devices.items port ≡ Some device
  pub wants : d.want device ≡ Some want
  pub master : new.master ≡ (served k old.master want).0
  pub devices : new.devices.items ≡ set old.devices.items port (d.feed device (served k old.master want).1)
  pub calls : new.calls.calls ≡ old.calls.calls
      ++ call.Served old.tick port (d.due device) want (served k old.master want).1 ∷ []
  pub tick : new.tick ≡ old.tick

-- There was none.
pub record IsIdle {M S : Type 0} (d : DeviceModel S) (port : ℕ) (old new : Run M S) : Type 0 where
  pub device : S
  pub there : slice_get old.devices.items port ≡ Some device
  pub wants : d.want device ≡ None
  pub same : new ≡ old

abbrev pub Serves : {M S : Type 0} → MasterModel M → DeviceModel S → ℕ → Run M S → Run M S → Bool → Type 0
Serves k d port old new true = HasServed k d port old new
Serves k d port old new false = IsIdle d port old new

-- The want that comes first was served, where there is one.
abbrev pub ServesFirst : {M S : Type 0} → MasterModel M → DeviceModel S → Run M S → Run M S → Bool → Type 0
ServesFirst k d old new true = (port : ℕ) × (first_port d old.devices.items ≡ Some port) × HasServed k d port old new
ServesFirst k d old new false = (first_port d old.devices.items ≡ None) × (new ≡ old)
