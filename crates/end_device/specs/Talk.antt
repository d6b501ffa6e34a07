-- How a device end ends over received bytes, and how its talk with a link ends.
use Rattle.std.specs.Prelude.{◌≡◌, ℕ, ◌≤◌, true, false, List, [], length, drop, Option, Some, None, Result, Ok, Err}
use Rattle.byte_streams.specs.Prefixes.{IsPrefix}
use Rattle.byte_streams.specs.Talks.{talk, IsTalk}
use Rattle.cos_base.specs.Links.{Wire}
use Rattle.cosim_model.specs.declared.session.EndFault.TheVariants as fault
use Rattle.cosim_model.specs.Parts.{DeviceModel}
use Rattle.ends_model.specs.DeviceTurn.{DeviceEnd}
use Rattle.rp_packet.specs.declared.fault.Cause.{Cause}
use Rattle.end_answers.specs.Faults.{IsPlaced}
use Rattle.device_turns.specs.Runs.{Taking, IsWholeRun, out_device}
use Rattle.device_turns.specs.Ends.{Fault, is_clean}

-- The end took every turn that it could over the received bytes, and no more come: it ends so. An input ends well
-- where the end is clean and has taken all; within a packet it ends in Truncated, and else in Ended. A malformed
-- packet is told with its place.
abbrev pub EndsSo : {S : Type 0} → Taking S → List ℕ → Result Unit Fault → Type 0
EndsSo l x (Ok u) = (l.core.fault ≡ None) × (drop l.taken x ≡ []) × (is_clean l.core ≡ true)
EndsSo l x (Err (fault.Ended taken)) = (l.core.fault ≡ None) × (drop l.taken x ≡ []) × (is_clean l.core ≡ false)
    × (taken ≡ length x)
EndsSo l x (Err (fault.Truncated start held)) = (l.core.fault ≡ None) × (start ≡ l.taken)
    × (held ≡ length (drop l.taken x)) × (1 ≤ held)
EndsSo l x (Err (fault.Malformed f)) = (l.core.fault ≡ Some (fault.Malformed f.cause))
    × IsPlaced x (Some (fault.Malformed f))
EndsSo l x (Err (fault.Session f)) = l.core.fault ≡ Some (fault.Session f)
EndsSo l x (Err (fault.TooMuch taken)) = ⊥
EndsSo l x (Err (fault.Link count)) = ⊥
EndsSo l x (Err (fault.LateWant at got)) = ⊥
EndsSo l x (Err (fault.Astray cmd)) = ⊥
EndsSo l x (Err fault.NoMemory) = ⊥

-- its device and the calls of it are those of that run
abbrev pub HasParts : {S : Type 0} → DeviceEnd S Cause → Taking S → Type 0
HasParts e l = (e.device ≡ l.core.device) × (e.calls ≡ l.core.calls)

-- Talk of a device end with a link that says this comes to an end so, and leaves the device and calls.
pub record TalkEnds {S : Type 0} (d : DeviceModel S) (start : DeviceEnd S Cause) (said : List ℕ → List ℕ)
    (e : DeviceEnd S Cause) (r : Result Unit Fault) : Type 0 where
  pub received : List ℕ
  pub sent : List ℕ
  pub leaf : Taking S
  pub talk : IsTalk said (out_device d start) received
  pub whole : IsWholeRun d start received leaf sent
  pub ends : EndsSo leaf received r
  pub parts : HasParts e leaf

-- So many bytes were received, the limit or more, and no packet is whole: they are a beginning of what Talk gives.
pub record TalkStops {S : Type 0} (d : DeviceModel S) (start : DeviceEnd S Cause) (said : List ℕ → List ℕ)
    (e : DeviceEnd S Cause) (taken : ℕ) : Type 0 where
  pub received : List ℕ
  pub sent : List ℕ
  pub leaf : Taking S
  pub rounds : ℕ
  pub within : IsPrefix received (talk said (out_device d start) rounds)
  pub whole : IsWholeRun d start received leaf sent
  pub clear : leaf.core.fault ≡ None
  pub count : length received ≡ taken
  pub much : 1099511627776 ≤ taken
  pub parts : HasParts e leaf

-- The answer is Talk's. One that read too much may come earlier. Nothing is said of want of memory, and of a link that
-- failed.
abbrev pub ByTalk :
    {S : Type 0} → DeviceModel S → DeviceEnd S Cause → (List ℕ → List ℕ) → DeviceEnd S Cause → Result Unit Fault
    → Type 0
ByTalk d start said e (Err (fault.TooMuch taken)) = TalkStops d start said e taken
ByTalk d start said e (Err (fault.Link count)) = Unit {0}
ByTalk d start said e (Err fault.NoMemory) = Unit {0}
ByTalk d start said e (Ok u) = TalkEnds d start said e (Ok u)
ByTalk d start said e (Err (fault.Ended taken)) = TalkEnds d start said e (Err (fault.Ended taken))
ByTalk d start said e (Err (fault.Truncated at held)) = TalkEnds d start said e (Err (fault.Truncated at held))
ByTalk d start said e (Err (fault.Malformed f)) = TalkEnds d start said e (Err (fault.Malformed f))
ByTalk d start said e (Err (fault.Session f)) = TalkEnds d start said e (Err (fault.Session f))
ByTalk d start said e (Err (fault.LateWant at got)) = ⊥
ByTalk d start said e (Err (fault.Astray cmd)) = ⊥

-- the same for a link that may tell nothing
abbrev pub IsByTalk :
    {S : Type 0} → DeviceModel S → DeviceEnd S Cause → Option Wire → DeviceEnd S Cause → Result Unit Fault → Type 0
IsByTalk d start None e r = Unit {0}
IsByTalk d start (Some w) e r = ByTalk d start w.said e r
