-- A device end as the peer of a link in memory: what it heard and said, and what an honest link is.
use Rattle.std.specs.Prelude.{◌≡◌, ℕ, ◌++◌, Bool, true, false, List, [], Option, Some, None}
use Rattle.cos_base.specs.Links.{Wire}
use Rattle.cos_memory.specs.Peers.{Spoken, told_while}
use Rattle.cosim_model.specs.Parts.{DeviceModel}
use Rattle.ends_model.specs.DeviceTurn.{DeviceEnd}
use Rattle.rp_packet.specs.declared.fault.Cause.{Cause}
use Rattle.device_turns.specs.Runs.{Taking, IsWholeRun, out_device}
use Rattle.device_turns.specs.Ends.{End, HasRun}

-- `start` is the end that had taken no turn, and `now` what it is after all turns over what it heard. It tells until
-- memory was wanted.
pub record Speaker (S : Type 0) : Type 0 where
  pub start : DeviceEnd S Cause
  pub now : End S
  pub heard : List ℕ
  pub telling : Bool

-- for any bytes it says all that its end sends for them
abbrev pub spoken_by : {S : Type 0} → DeviceModel S → Speaker S → Option Spoken
spoken_by d p = told_while p.telling (record { heard = p.heard; says = out_device d p.start })

-- Turns were taken: whatever the end received, the run that it stood in goes on.
abbrev pub Continues : {S : Type 0} → DeviceModel S → End S → End S → List ℕ → List ℕ → Type 0
Continues {S} d old new before after =
    (start : DeviceEnd S Cause) (received : List ℕ) → HasRun d start received before old
    → HasRun d start received after new

-- An end that heard this and said that in all: it stands within its run, and has said all.
pub record HasSaid {S : Type 0} (d : DeviceModel S) (start : DeviceEnd S Cause) (heard said : List ℕ) (e : End S)
    : Type 0 where
  pub run : HasRun d start heard said e
  pub all : said ≡ out_device d start heard

-- as long as it tells
abbrev pub SaysAll : {S : Type 0} → DeviceModel S → Bool → DeviceEnd S Cause → List ℕ → List ℕ → End S → Type 0
SaysAll d true start heard said e = HasSaid d start heard said e
SaysAll d false start heard said e = Unit {0}

-- What came was heard, and all was said that follows from it.
pub record TakesIn {S : Type 0} (d : DeviceModel S) (bytes : List ℕ) (old new : End S) (was heard before after : List ℕ)
    : Type 0 where
  pub hears : heard ≡ was ++ bytes
  pub says : (start : DeviceEnd S Cause) → HasRun d start was before old → HasSaid d start heard after new

-- Nothing was sent or received on a link yet, and for any bytes it gives what a whole run of the device end over them
-- sends.
pub record IsHonest {S : Type 0} (d : DeviceModel S) (start : DeviceEnd S Cause) (w : Wire) : Type 0 where
  pub sent : w.sent ≡ []
  pub received : w.received ≡ []
  pub runs : (y : List ℕ) → (leaf : Taking S) × IsWholeRun d start y leaf (w.said y)

abbrev pub IsHonestLink : {S : Type 0} → DeviceModel S → DeviceEnd S Cause → Option Wire → Type 0
IsHonestLink d start None = ⊥
IsHonestLink d start (Some w) = IsHonest d start w
