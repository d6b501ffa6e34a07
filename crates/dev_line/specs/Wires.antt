-- The line rule: when a device's interrupt level is pending, and when a device's wants are due.
use Rattle.std.specs.Prelude.{ℕ, ◌<◌, Bool, true, false, not, ◌||◌, if◌then◌else◌, nat_le, min, max, Option, Some, None}
use Rattle.cosim_model.specs.declared.values.Want.{Want}
use Rattle.cosim_model.specs.declared.values.Want.TheVariants as want

-- An interrupt line as its device drives it. `shown` is the level that was fed last. At most one level is pending, and
-- it is the one that isn't shown. `due` is the tick at which the device's present want became the present one, and
-- `seen` the tick that the device was brought to.
pub record WireState : Type 0 where
  pub line : ℕ
  pub shown : Bool
  pub pending : Bool
  pub due : ℕ
  pub seen : ℕ

abbrev pub fresh_wire : ℕ → WireState
fresh_wire line = record { line = line; shown = false; pending = false; due = 0; seen = 0 }

-- The due time is at most `seen`, also in a state that no device reaches: laws speak of those too.
abbrev pub due_of : WireState → ℕ
due_of w = min w.due w.seen

-- Time passes up to a tick, and the level doesn't change.
abbrev pub moved : WireState → ℕ → WireState
moved w tick = record w { due = due_of w; seen = tick }

abbrev pub differ : Bool → Bool → Bool
differ true b = not b
differ false b = b

abbrev pub ruled_by : WireState → (wanted differs works : Bool) → WireState
ruled_by w true differs works = w
ruled_by w false true works = record w { pending = true; due = w.seen }
ruled_by w false false true = record w { due = w.seen }
ruled_by w false false false = w

-- The line rule at `seen`: where nothing is wanted and the level isn't the one that is shown, the level becomes
-- pending. `wanted` says whether another want than a level was there, and stays; `works` whether one is there now.
abbrev pub ruled : WireState → (wanted level works : Bool) → WireState
ruled w wanted level works = ruled_by w (w.pending || wanted) (differ w.shown level) works

-- The pending level was fed, so it is shown, and the rule is applied again.
abbrev pub answered : WireState → (level works : Bool) → WireState
answered w level works = ruled (record w { shown = not w.shown; pending = false }) false level works

-- The next one of a row of wants is the present one.
abbrev pub renewed : WireState → WireState
renewed w = record w { due = w.seen }

-- A level that only rises while time passes, from the tick `rises` on.
abbrev pub is_high : Option ℕ → ℕ → Bool
is_high None tick = false
is_high (Some rises) tick = nat_le rises tick

abbrev pub risen : WireState → ℕ → Bool → WireState
risen w rises true = ruled (moved w (max rises w.seen)) false true false
risen w rises false = w

-- Time passes up to a tick. The level is asked at the one tick at which it may rise, and not at those in between.
abbrev pub passed : WireState → Option ℕ → ℕ → WireState
passed w None tick = moved w tick
passed w (Some rises) tick = moved (risen w rises (nat_le rises tick)) tick

-- A pending level is wanted before anything else.
abbrev pub wanted_before : WireState → Option Want → Option Want
wanted_before w rest = if w.pending then Some (want.Line (min w.line 4294967295) (not w.shown)) else rest

-- How many levels are left at most: none without a pending one, 1 where the pending level is the level now, 2 where the
-- level has changed back.
abbrev pub levels_by : (pending differs : Bool) → ℕ
levels_by false differs = 0
levels_by true true = 1
levels_by true false = 2

abbrev pub levels_left : WireState → Bool → ℕ
levels_left w level = levels_by w.pending (differ w.shown level)
