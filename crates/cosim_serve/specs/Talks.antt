-- How serving a device ends by Talk, the conversation of its fresh end with the first link that is to come.
use Rattle.std.specs.Prelude.{◌≡◌, ℕ, ◌<◌, List, [], ◌∷◌, length, IfSome, Option, Some, None, Result, Ok, Err}
use Rattle.cos_base.specs.Links.{Wire}
use Rattle.cos_base.specs.Networks.{Coming}
use Rattle.cosim_model.specs.declared.session.EndFault.TheVariants as fault
use Rattle.cosim_model.specs.Parts.{DeviceModel}
use Rattle.ends_model.specs.DeviceTurn.{DeviceEnd}
use Rattle.rp_packet.specs.declared.fault.Cause.{Cause}
use Rattle.device_turns.specs.Ends.{Fault}
use Rattle.end_device.specs.Talk.{ByTalk, TalkEnds}
use Rattle.outcomes.specs.declared.object.Object.TheVariants as object
use Rattle.outcomes.specs.declared.stop.Stop.{Stop}
use Rattle.outcomes.specs.declared.stop.Stop.TheVariants.{Refused, Outside, NoMemory}
use Rattle.cosim_serve.specs.declared.refusal.DeviceRefusal.{DeviceRefusal}
use Rattle.cosim_serve.specs.declared.refusal.DeviceRefusal.TheVariants.{Peer}

-- how the call of the command ends
abbrev pub Ended : Type 0
Ended = Result Unit (Stop DeviceRefusal)

-- a fault that is the peer's
abbrev pub OfPeer : Fault → Type 0
OfPeer (fault.Link count) = ⊥
OfPeer fault.NoMemory = ⊥
OfPeer (fault.Malformed f) = Unit {0}
OfPeer (fault.Session f) = Unit {0}
OfPeer (fault.Ended taken) = Unit {0}
OfPeer (fault.Truncated start held) = Unit {0}
OfPeer (fault.TooMuch taken) = Unit {0}
OfPeer (fault.LateWant at got) = Unit {0}
OfPeer (fault.Astray cmd) = Unit {0}

-- How a served link ends the command: a fault of the link is of the outside, want of memory is the program's, and every
-- other fault is the peer's.
abbrev pub served_result : ℕ → Result Unit Fault → Ended
served_result port (Ok u) = Ok u
served_result port (Err (fault.Link count)) = Err (Outside (object.Link port) count)
served_result port (Err fault.NoMemory) = Err NoMemory
served_result port (Err (fault.Malformed f)) = Err (Refused (Peer port (fault.Malformed f)))
served_result port (Err (fault.Session f)) = Err (Refused (Peer port (fault.Session f)))
served_result port (Err (fault.Ended taken)) = Err (Refused (Peer port (fault.Ended taken)))
served_result port (Err (fault.Truncated start held)) = Err (Refused (Peer port (fault.Truncated start held)))
served_result port (Err (fault.TooMuch taken)) = Err (Refused (Peer port (fault.TooMuch taken)))
served_result port (Err (fault.LateWant at got)) = Err (Refused (Peer port (fault.LateWant at got)))
served_result port (Err (fault.Astray cmd)) = Err (Refused (Peer port (fault.Astray cmd)))

-- this holds of the first link to come, where there is one
abbrev pub ForFirst : {L : Type 0} → List L → (L → Type 0) → Type 0
ForFirst [] P = Unit {0}
ForFirst (l ∷ ls) P = P l

abbrev pub DoneOrMemory : Ended → Type 0
DoneOrMemory (Ok u) = Unit {0}
DoneOrMemory (Err NoMemory) = Unit {0}
DoneOrMemory (Err (Outside o n)) = ⊥
DoneOrMemory (Err (Refused r)) = ⊥

module _ {S : Type 0} (d : DeviceModel S) (start left : DeviceEnd S Cause) (port : ℕ) where
  -- It ends as Talk does with a link that gives this for any bytes sent, and leaves that end: well where Talk ends
  -- well, refused where it ends in that fault.
  abbrev pub ResultTalks : (List ℕ → List ℕ) → Ended → Type 0
  ResultTalks said (Ok u) = ByTalk d start said left (Ok tt)
  ResultTalks said (Err (Refused (Peer p f))) = (p ≡ port) × OfPeer f × ByTalk d start said left (Err f)
  ResultTalks said (Err (Outside o count)) = Unit {0}
  ResultTalks said (Err NoMemory) = Unit {0}

  -- It ends as Talk does with the first link to come.
  abbrev pub TalksFirst : {L : Type 0} → (L → Option Wire) → Option (Coming L) → Ended → Type 0
  TalksFirst told None r = Unit {0}
  TalksFirst told (Some net) r = ForFirst net.coming (λ l. IfSome (told l) (λ w. ResultTalks w.said r))

-- Talk ends well, over fewer bytes than a device end receives at most.
pub record TalksCleanly {S : Type 0} (d : DeviceModel S) (start : DeviceEnd S Cause) (said : List ℕ → List ℕ)
    : Type 0 where
  pub end : DeviceEnd S Cause
  pub talk : TalkEnds d start said end (Ok tt)
  pub few : length talk.received < 1099511627776

-- Where Talk with the first link to come ends well, the work is done, or memory was short.
abbrev pub Completes :
    {S L : Type 0} → DeviceModel S → DeviceEnd S Cause → (L → Option Wire) → Option (Coming L) → Ended → Type 0
Completes {S} {L} d start told None r = Unit {0}
Completes {S} {L} d start told (Some net) r =
    (l : L) (rest : List L) (w : Wire) → net.coming ≡ l ∷ rest → told l ≡ Some w → TalksCleanly d start w.said
    → DoneOrMemory r
