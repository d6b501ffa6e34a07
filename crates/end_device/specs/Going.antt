-- What holds between the calls that serve makes: how far a link and the end that is served over it have come together.
use Rattle.std.specs.Prelude.{◌≡◌, ℕ, ◌+◌, ◌<◌, ◌≤◌, Bool, true, false, List, [], length, Option, Some, None, Result, Ok, Err}
use Rattle.byte_streams.specs.Prefixes.{IsPrefix}
use Rattle.byte_streams.specs.Talks.{talk}
use Rattle.cos_base.specs.Links.{Wire}
use Rattle.cosim_model.specs.declared.session.EndFault.TheVariants as fault
use Rattle.cosim_model.specs.Parts.{DeviceModel}
use Rattle.ends_model.specs.declared.ends.DeviceTurn.{DeviceTurn}
use Rattle.ends_model.specs.declared.ends.DeviceTurn.TheVariants as turn
use Rattle.ends_model.specs.DeviceTurn.{DeviceEnd}
use Rattle.rp_packet.specs.declared.fault.Cause.{Cause}
use Rattle.device_turns.specs.Runs.{out_device}
use Rattle.device_turns.specs.Ends.{End, Fault, HasRun, IsWaiting, is_clean}
use Rattle.end_device.specs.Serving.{Leaves, Tells}

-- a link that says this for any bytes, of which so many were received, and the end that was served over it
pub record IsGoing {S : Type 0} (d : DeviceModel S) (start : DeviceEnd S Cause) (said : List ℕ → List ℕ) (count : ℕ)
    (e : End S) (n : Wire) : Type 0 where
  pub same : n.said ≡ said
  pub read : length n.received ≡ count
  pub run : HasRun d start n.received n.sent e
  pub in_time : (k : ℕ) × IsPrefix n.received (talk said (out_device d start) k)

-- where the link told at first, it still does, and the end was served over it
abbrev pub Going : {S : Type 0} → DeviceModel S → DeviceEnd S Cause → Option Wire → ℕ → End S → Option Wire → Type 0
Going d start None count e now = Unit {0}
Going d start (Some w) count e now = Tells now (IsGoing d start w.said count e)

-- what a fault leaves of a link that told at first
abbrev pub FaultLeaves :
    {S : Type 0} → DeviceModel S → DeviceEnd S Cause → Option Wire → DeviceEnd S Cause → Fault → Option Wire → Type 0
FaultLeaves d start None e f now = Unit {0}
FaultLeaves d start (Some w) e f now = Leaves d start w.said e (Err f) now

-- what an answer leaves: a link that goes on, or what the fault leaves
abbrev pub Settles :
    {S A : Type 0} → DeviceModel S → DeviceEnd S Cause → Option Wire → ℕ → End S → Option Wire → Result A Fault → Type 0
Settles d start w count e now (Ok a) = Going d start w count e now
Settles d start w count e now (Err f) = FaultLeaves d start w e.clear f now

-- all was received
pub record IsAtEnd {S : Type 0} (d : DeviceModel S) (start : DeviceEnd S Cause) (said : List ℕ → List ℕ) (count : ℕ)
    (e : End S) (n : Wire) : Type 0 where
  pub going : IsGoing d start said count e n
  pub all : n.received ≡ said n.sent

abbrev pub AtEnd : {S : Type 0} → DeviceModel S → DeviceEnd S Cause → Option Wire → ℕ → End S → Option Wire → Type 0
AtEnd d start None count e now = Unit {0}
AtEnd d start (Some w) count e now = Tells now (IsAtEnd d start w.said count e)

-- what reading leaves: so many bytes more, or all
abbrev pub ReadsOn :
    {S : Type 0} → DeviceModel S → DeviceEnd S Cause → Option Wire → ℕ → End S → Option Wire
    → Result (Option ℕ) Fault → Type 0
ReadsOn d start w count e now (Ok (Some more)) = Going d start w (count + more) e now
ReadsOn d start w count e now (Ok None) = AtEnd d start w count e now
ReadsOn d start w count e now (Err f) = FaultLeaves d start w e.clear f now

-- how an input ends for an end that has taken every turn, of which so many bytes were read
abbrev pub FinishesSo : {S : Type 0} → End S → ℕ → Result Unit Fault → Type 0
FinishesSo e count (Ok u) = (e.held ≡ []) × (is_clean e.clear ≡ true)
FinishesSo e count (Err (fault.Ended taken)) = (e.held ≡ []) × (is_clean e.clear ≡ false) × (taken ≡ count)
FinishesSo e count (Err (fault.Truncated start held)) = (start ≡ e.taken) × (held ≡ length e.held) × (1 ≤ held)
FinishesSo e count (Err (fault.Malformed f)) = ⊥
FinishesSo e count (Err (fault.Session f)) = ⊥
FinishesSo e count (Err (fault.TooMuch taken)) = ⊥
FinishesSo e count (Err (fault.Link number)) = ⊥
FinishesSo e count (Err (fault.LateWant at got)) = ⊥
FinishesSo e count (Err (fault.Astray cmd)) = ⊥
FinishesSo e count (Err fault.NoMemory) = ⊥

-- The fault that the end keeps while it is served: one that a turn answered.
abbrev pub kept_in_run : {A : Type 0} → Result A Fault → Option Fault
kept_in_run (Err (fault.Malformed f)) = Some (fault.Malformed f)
kept_in_run (Err (fault.Session f)) = Some (fault.Session f)
kept_in_run (Ok a) = None
kept_in_run (Err (fault.Ended taken)) = None
kept_in_run (Err (fault.Truncated start held)) = None
kept_in_run (Err (fault.TooMuch taken)) = None
kept_in_run (Err (fault.Link number)) = None
kept_in_run (Err (fault.LateWant at got)) = None
kept_in_run (Err (fault.Astray cmd)) = None
kept_in_run (Err fault.NoMemory) = None

-- how many turns an end can still take at most
abbrev pub to_greet : Bool → ℕ
to_greet true = 0
to_greet false = 1

abbrev pub turns_left : {S : Type 0} → End S → ℕ
turns_left e = length e.held + to_greet e.clear.session.hello_went

-- a turn either waits for more bytes, or leaves fewer turns
abbrev pub Progress : {S : Type 0} → DeviceModel S → DeviceTurn → End S → End S → Type 0
Progress d turn.NotYet old new = IsWaiting d new
Progress d turn.Greeted old new = turns_left new < turns_left old
Progress d turn.Took old new = turns_left new < turns_left old
