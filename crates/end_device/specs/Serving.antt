-- What serving a device end over a link leaves: what was sent for what was received, how the count of faults moved,
-- whom a fault blames, and which fault is kept.
use Rattle.std.specs.Prelude.{◌≡◌, ℕ, ◌<◌, ◌≤◌, List, length, IfSome, Option, Some, None, Result, Ok, Err}
use Rattle.byte_streams.specs.Prefixes.{IsPrefix}
use Rattle.byte_streams.specs.Talks.{talk}
use Rattle.cos_base.specs.Counts.{Rises}
use Rattle.cos_base.specs.Links.{Wire}
use Rattle.cosim_model.specs.declared.session.EndFault.TheVariants as fault
use Rattle.cosim_model.specs.Parts.{DeviceModel}
use Rattle.ends_model.specs.DeviceTurn.{DeviceEnd}
use Rattle.rp_packet.specs.declared.fault.Cause.{Cause}
use Rattle.device_turns.specs.Runs.{Taking, IsWholeRun, out_device}
use Rattle.device_turns.specs.Ends.{Fault}
use Rattle.end_device.specs.Talk.{EndsSo, HasParts}

-- All turns were taken over what was received, what they send was sent, and that is within Talk.
pub record IsServed {S : Type 0} (d : DeviceModel S) (start : DeviceEnd S Cause) (said : List ℕ → List ℕ)
    (e : DeviceEnd S Cause) (leaf : Taking S) (n : Wire) : Type 0 where
  pub same : n.said ≡ said
  pub whole : IsWholeRun d start n.received leaf n.sent
  pub parts : HasParts e leaf
  pub in_time : (k : ℕ) × IsPrefix n.received (talk said (out_device d start) k)

-- All was received that comes, before the limit, and the input ends so.
pub record EndsThere {S : Type 0} (d : DeviceModel S) (start : DeviceEnd S Cause) (said : List ℕ → List ℕ)
    (e : DeviceEnd S Cause) (r : Result Unit Fault) (n : Wire) : Type 0 where
  pub leaf : Taking S
  pub served : IsServed d start said e leaf n
  pub all : n.received ≡ said n.sent
  pub below : length n.received < 1099511627776
  pub ends : EndsSo leaf n.received r

-- A packet was refused.
pub record RefusesThere {S : Type 0} (d : DeviceModel S) (start : DeviceEnd S Cause) (said : List ℕ → List ℕ)
    (e : DeviceEnd S Cause) (r : Result Unit Fault) (n : Wire) : Type 0 where
  pub leaf : Taking S
  pub served : IsServed d start said e leaf n
  pub ends : EndsSo leaf n.received r

-- So many bytes were received, which is the limit or more, and no packet is whole.
pub record StopsThere {S : Type 0} (d : DeviceModel S) (start : DeviceEnd S Cause) (said : List ℕ → List ℕ)
    (e : DeviceEnd S Cause) (taken : ℕ) (n : Wire) : Type 0 where
  pub leaf : Taking S
  pub served : IsServed d start said e leaf n
  pub clear : leaf.core.fault ≡ None
  pub count : length n.received ≡ taken
  pub much : 1099511627776 ≤ taken

-- a link that still tells, of which this holds
abbrev pub Tells : Option Wire → (Wire → Type 0) → Type 0
Tells now P = (n : Wire) × (now ≡ Some n) × P n

-- What an answer leaves of a link that told at first.
abbrev pub Leaves :
    {S : Type 0} → DeviceModel S → DeviceEnd S Cause → (List ℕ → List ℕ) → DeviceEnd S Cause → Result Unit Fault
    → Option Wire → Type 0
Leaves d start said e (Err (fault.Link count)) now = IfSome now (λ n. IsPrefix n.sent (out_device d start n.received))
Leaves d start said e (Err fault.NoMemory) now = IfSome now (λ n. IsPrefix n.sent (out_device d start n.received))
Leaves d start said e (Err (fault.TooMuch taken)) now = Tells now (StopsThere d start said e taken)
Leaves d start said e (Err (fault.Malformed f)) now = Tells now (RefusesThere d start said e (Err (fault.Malformed f)))
Leaves d start said e (Err (fault.Session f)) now = Tells now (RefusesThere d start said e (Err (fault.Session f)))
Leaves d start said e (Ok u) now = Tells now (EndsThere d start said e (Ok u))
Leaves d start said e (Err (fault.Ended taken)) now = Tells now (EndsThere d start said e (Err (fault.Ended taken)))
Leaves d start said e (Err (fault.Truncated at held)) now =
    Tells now (EndsThere d start said e (Err (fault.Truncated at held)))
Leaves d start said e (Err (fault.LateWant at got)) now = ⊥
Leaves d start said e (Err (fault.Astray cmd)) now = ⊥

-- the same for a link that may tell nothing
abbrev pub Serves :
    {S : Type 0} → DeviceModel S → DeviceEnd S Cause → Option Wire → Option Wire → DeviceEnd S Cause
    → Result Unit Fault → Type 0
Serves d start None now e r = Unit {0}
Serves d start (Some w) now e r = Leaves d start w.said e r now

-- the link's count rose exactly where the link is blamed, and is told
abbrev pub ServeCounts : {A : Type 0} → ℕ → ℕ → Result A Fault → Type 0
ServeCounts before now (Err (fault.Link count)) = Rises before now × (count ≡ now)
ServeCounts before now (Ok a) = now ≡ before
ServeCounts before now (Err (fault.Malformed f)) = now ≡ before
ServeCounts before now (Err (fault.Session f)) = now ≡ before
ServeCounts before now (Err (fault.Ended taken)) = now ≡ before
ServeCounts before now (Err (fault.Truncated at held)) = now ≡ before
ServeCounts before now (Err (fault.TooMuch taken)) = now ≡ before
ServeCounts before now (Err (fault.LateWant at got)) = now ≡ before
ServeCounts before now (Err (fault.Astray cmd)) = now ≡ before
ServeCounts before now (Err fault.NoMemory) = now ≡ before

-- the link isn't blamed
abbrev pub NotLink : {A : Type 0} → Result A Fault → Type 0
NotLink (Err (fault.Link count)) = ⊥
NotLink (Ok a) = Unit {0}
NotLink (Err (fault.Malformed f)) = Unit {0}
NotLink (Err (fault.Session f)) = Unit {0}
NotLink (Err (fault.Ended taken)) = Unit {0}
NotLink (Err (fault.Truncated at held)) = Unit {0}
NotLink (Err (fault.TooMuch taken)) = Unit {0}
NotLink (Err (fault.LateWant at got)) = Unit {0}
NotLink (Err (fault.Astray cmd)) = Unit {0}
NotLink (Err fault.NoMemory) = Unit {0}

-- The fault that an end keeps by what was answered: none after Ok and after want of memory.
abbrev pub kept_by : {A : Type 0} → Result A Fault → Option Fault
kept_by (Err fault.NoMemory) = None
kept_by (Ok a) = None
kept_by (Err (fault.Malformed f)) = Some (fault.Malformed f)
kept_by (Err (fault.Session f)) = Some (fault.Session f)
kept_by (Err (fault.Ended taken)) = Some (fault.Ended taken)
kept_by (Err (fault.Truncated at held)) = Some (fault.Truncated at held)
kept_by (Err (fault.TooMuch taken)) = Some (fault.TooMuch taken)
kept_by (Err (fault.Link count)) = Some (fault.Link count)
kept_by (Err (fault.LateWant at got)) = Some (fault.LateWant at got)
kept_by (Err (fault.Astray cmd)) = Some (fault.Astray cmd)
