-- What one side of a link keeps of the packets that went and came, and which packets of the peer are faults.
use Rattle.std.specs.Prelude.{ℕ, suc, ◌+◌, ◌%◌, Bool, true, false, not, ◌&&◌, ◌||◌, if◌then◌else◌, nat_eq, nat_lt, nat_le, List, [], ◌∷◌, Option, Some, None, Result, Ok, Err}
use Rattle.cosim_model.specs.declared.session.Role.{Role}
use Rattle.cosim_model.specs.declared.session.Role.TheVariants.{Machine, Device}
use Rattle.cosim_model.specs.declared.session.Ticket.{Ticket}
use Rattle.cosim_model.specs.declared.session.OwnRequest.{OwnRequest}
use Rattle.cosim_model.specs.declared.session.Event.{Event}
use Rattle.cosim_model.specs.declared.session.Event.TheVariants.{Nothing, Met, Asked, Told, Answered, SyncDone}
use Rattle.cosim_model.specs.declared.session.SessionFault.{SessionFault}
use Rattle.cosim_model.specs.declared.session.SessionFault.TheVariants as session_fault
use Rattle.cosim_model.specs.declared.session.Command.TheVariants as command
use Rattle.cosim_model.specs.declared.values.Caps.{Caps}
use Rattle.cosim_model.specs.Values.{no_caps, bit}
use Rattle.cosim_model.specs.Packets.{BusFields, Body, Packet, number_of, command_of, cmd_of, is_response, caps_of, offered, is_extended, code_of}
use Rattle.cosim_model.specs.Packets.Body.{Nop, Hello, Cfg, Read, Write, Interrupt, Sync}

-- Requests have two classes, syncs and others: at most one answered request of each class is out each way. `next` is
-- the number of the next own request, `peer_time` the greatest time of the peer's requests, and `count` the packets of
-- this wait (at a machine).
pub record Session : Type 0 where
  pub role : Role
  pub offers : Caps
  pub needs : Caps
  pub next : ℕ
  pub common : Caps
  pub hello_went : Bool
  pub hello_came : Bool
  pub own_sync : Option OwnRequest
  pub own_other : Option OwnRequest
  pub peer_sync : Option Ticket
  pub peer_other : Option Ticket
  pub peer_time : ℕ
  pub count : ℕ
  pub fault : Option SessionFault

abbrev pub fresh_session : Role → Caps → Caps → Session
fresh_session role offers needs =
    record {
      role = role;
      offers = offers;
      needs = needs;
      next = 0;
      common = no_caps;
      hello_went = false;
      hello_came = false;
      own_sync = None;
      own_other = None;
      peer_sync = None;
      peer_other = None;
      peer_time = 0;
      count = 0;
      fault = None;
    }

abbrev pub next_number : ℕ → ℕ
next_number n = (n + 1) % 4294967296

abbrev pub both : Caps → Caps → Caps
both theirs ours =
    record {
      base = theirs.base && ours.base;
      enables = theirs.enables && ours.enables;
      posted = theirs.posted && ours.posted;
    }

abbrev pub at_machine : Role → Bool
at_machine Machine = true
at_machine Device = false

-- A posted request has no answer: a write with flag bit 2, or an interrupt with that bit or without capability 3 in
-- common.

abbrev pub is_posted_body : Caps → Bool → Body → Bool
is_posted_body common flag (Write f) = flag
is_posted_body common flag (Interrupt time vector line val) = flag || not common.posted
is_posted_body common flag _ = false

abbrev pub is_posted : Caps → Packet → Bool
is_posted common p = is_posted_body common (bit p.flags 2) p.body

-- The faults, in the order in which they are judged: each for a packet that none before it refuses.

abbrev pub fault_if : Bool → SessionFault → Option SessionFault
fault_if true f = Some f
fault_if false f = None

abbrev pub or_else : Option SessionFault → Option SessionFault → Option SessionFault
or_else (Some f) r = Some f
or_else None r = r

-- At a machine: the 8,192nd packet of a wait.
abbrev pub flood : Session → Option SessionFault
flood s = fault_if (at_machine s.role && nat_le 8191 s.count) (session_fault.Flood (suc s.count))

-- Before the hello, a packet that is neither hello nor nop.
abbrev pub hello_missing : Bool → Body → Option SessionFault
hello_missing true b = None
hello_missing false Nop = None
hello_missing false (Hello major minor caps) = None
hello_missing false b = Some (session_fault.HelloMissing (cmd_of b))

abbrev pub hello_again : Bool → Body → Option SessionFault
hello_again came (Hello major minor caps) = fault_if came session_fault.HelloAgain
hello_again came _ = None

abbrev pub wrong_version : Body → Option SessionFault
wrong_version (Hello major minor caps) = fault_if (not (nat_eq major 4)) (session_fault.Version major)
wrong_version _ = None

-- The least capability that is needed and that the hello lacks.

abbrev pub lacking : Caps → Caps → Option SessionFault
lacking needs has =
    or_else (fault_if (needs.base && not has.base) (session_fault.CapMissing 1))
    (or_else (fault_if (needs.enables && not has.enables) (session_fault.CapMissing 2))
    (fault_if (needs.posted && not has.posted) (session_fault.CapMissing 3)))

abbrev pub hello_lacks : Caps → Body → Option SessionFault
hello_lacks needs (Hello major minor caps) = lacking needs (caps_of caps)
hello_lacks needs _ = None

-- A cfg; a sync request at a machine; an interrupt request at a device.
abbrev pub unsupported : Role → Bool → Body → Option SessionFault
unsupported role response (Cfg opt set) = Some (session_fault.Unsupported 2)
unsupported Machine false (Sync time) = Some (session_fault.Unsupported 6)
unsupported Device false (Interrupt time vector line val) = Some (session_fault.Unsupported 5)
unsupported _ _ _ = None

-- The own request whose answer a body would be, where one is out.

abbrev pub outstanding_request : Session → Body → Option OwnRequest
outstanding_request s (Sync time) = s.own_sync
outstanding_request s _ = s.own_other

abbrev pub is_answer_of : Option OwnRequest → ℕ → Body → Bool
is_answer_of None id b = false
is_answer_of (Some q) id b = nat_eq id q.id && nat_eq (cmd_of b) (number_of q.cmd)

-- An answer, where no own request with its number and command is out. A nop is none.

abbrev pub stray_answer : Bool → Session → ℕ → Body → Option SessionFault
stray_answer false s id b = None
stray_answer true s id Nop = None
stray_answer true s id b =
    fault_if (not (is_answer_of (outstanding_request s b) id b)) (session_fault.StrayAnswer id (cmd_of b))

-- A read's answer with code 0 and another length than its request.

abbrev pub wrong_len : Option OwnRequest → ℕ → BusFields → Option SessionFault
wrong_len None id f = None
wrong_len (Some q) id f =
    fault_if (nat_eq (code_of f) 0 && not (nat_eq f.len q.len)) (session_fault.WrongAnswer id q.len f.len)

abbrev pub wrong_answer : Bool → Session → ℕ → Body → Option SessionFault
wrong_answer true s id (Read f) = wrong_len s.own_other id f
wrong_answer _ s id _ = None

-- A bus request in the extended layout without capability 1 in common, or with enables without capability 2.

abbrev pub is_none_byte : List ℕ → Bool
is_none_byte [] = true
is_none_byte (b ∷ bs) = false

abbrev pub bus_beyond : Caps → BusFields → Option SessionFault
bus_beyond common f =
    or_else (fault_if (is_extended f && not common.base) (session_fault.CapMissing 1))
    (fault_if (not (is_none_byte f.enables) && not common.enables) (session_fault.CapMissing 2))

abbrev pub not_in_common : Bool → Caps → Body → Option SessionFault
not_in_common false common (Read f) = bus_beyond common f
not_in_common false common (Write f) = bus_beyond common f
not_in_common _ common _ = None

-- A request with a time below that of an earlier one.
abbrev pub time_backwards : Bool → ℕ → Body → Option SessionFault
time_backwards false had (Read f) = fault_if (nat_lt f.time had) (session_fault.TimeBackwards had f.time)
time_backwards false had (Write f) = fault_if (nat_lt f.time had) (session_fault.TimeBackwards had f.time)
time_backwards false had (Interrupt time vector line val) =
    fault_if (nat_lt time had) (session_fault.TimeBackwards had time)
time_backwards false had (Sync time) = fault_if (nat_lt time had) (session_fault.TimeBackwards had time)
time_backwards _ had _ = None

-- At a machine: a posted request while no own sync is out.
abbrev pub early_posted : Role → Bool → Bool → Option OwnRequest → ℕ → Option SessionFault
early_posted Machine false true None id = Some (session_fault.EarlyPosted id)
early_posted _ _ _ _ id = None

-- An answered request while one of its class is unanswered.

abbrev pub is_taken : Option Ticket → ℕ → Option SessionFault
is_taken None id = None
is_taken (Some t) id = Some (session_fault.SecondRequest id)

abbrev pub second_request : Bool → Bool → Session → ℕ → Body → Option SessionFault
second_request false false s id (Read f) = is_taken s.peer_other id
second_request false false s id (Write f) = is_taken s.peer_other id
second_request false false s id (Interrupt time vector line val) = is_taken s.peer_other id
second_request false false s id (Sync time) = is_taken s.peer_sync id
second_request _ _ s id _ = None

-- The first fault that applies.
abbrev pub fault_of : Session → Packet → Option SessionFault
fault_of s p =
    or_else (flood s) (
    or_else (hello_missing s.hello_came p.body) (
    or_else (hello_again s.hello_came p.body) (
    or_else (wrong_version p.body) (
    or_else (hello_lacks s.needs p.body) (
    or_else (unsupported s.role (is_response p) p.body) (
    or_else (stray_answer (is_response p) s p.id p.body) (
    or_else (wrong_answer (is_response p) s p.id p.body) (
    or_else (not_in_common (is_response p) s.common p.body) (
    or_else (time_backwards (is_response p) s.peer_time p.body) (
    or_else (early_posted s.role (is_response p) (is_posted s.common p) s.own_sync p.id)
    (second_request (is_response p) (is_posted s.common p) s p.id p.body)))))))))))

-- A packet that is no fault is an event.

abbrev pub ticket_of : Packet → Ticket
ticket_of p = record { cmd = command_of p.body; id = p.id; flags = p.flags; dev = p.dev }

abbrev pub counted : Role → ℕ → ℕ
counted Machine n = suc n
counted Device n = n

-- The Boolean says that the request is posted.
abbrev pub asked_at : Session → Packet → Bool → ℕ → Session × Event
asked_at s p true time = (record s { peer_time = time }, Told)
asked_at s p false time = (record s { peer_time = time; peer_other = Some (ticket_of p) }, Asked (ticket_of p))

abbrev pub event_of : Session → Packet → Bool → Body → Session × Event
event_of s p response Nop = (s, Nothing)
event_of s p response (Cfg opt set) = (s, Nothing)
event_of s p response (Hello major minor caps) =
    (record s { hello_came = true; common = both (caps_of caps) s.offers }, Met)
event_of s p true (Sync time) = (record s { own_sync = None }, SyncDone)
event_of s p true _ = (record s { own_other = None }, Answered)
event_of s p false (Sync time) = (record s { peer_time = time; peer_sync = Some (ticket_of p) }, Asked (ticket_of p))
event_of s p false (Read f) = asked_at s p (is_posted s.common p) f.time
event_of s p false (Write f) = asked_at s p (is_posted s.common p) f.time
event_of s p false (Interrupt time vector line val) = asked_at s p (is_posted s.common p) time

-- The step: a packet of the peer is taken. A fault is kept, and answered again.

abbrev pub judged : Session → Packet → Option SessionFault → Session × Result Event SessionFault
judged s p (Some f) = (record s { fault = Some f }, Err f)
judged s p None = (
  (event_of (record s { count = counted s.role s.count }) p (is_response p) p.body).0,
  Ok (event_of s p (is_response p) p.body).1,
)

abbrev pub take_kept : Session → Packet → Option SessionFault → Session × Result Event SessionFault
take_kept s p (Some f) = (s, Err f)
take_kept s p None = judged s p (fault_of s p)

abbrev pub take_packet : Session → Packet → Session × Result Event SessionFault
take_packet s p = take_kept s p s.fault

-- Sending: the hello, requests and answers.

abbrev pub hello_of : Session → Packet
hello_of s = record { id = s.next; flags = 0; dev = 0; body = Hello 4 3 (offered s.offers) }

abbrev pub hello_sent : Session → Session
hello_sent s = record s { next = next_number s.next; hello_went = true }

abbrev pub begin_wait : Session → Session
begin_wait s = record s { count = 0 }

abbrev pub awaiting : Session → Body → ℕ → Session
awaiting s (Sync time) len =
    record s { next = next_number s.next; own_sync = Some (record { cmd = command.Sync; id = s.next; len = len }) }
awaiting s b len =
    record s { next = next_number s.next; own_other = Some (record { cmd = command_of b; id = s.next; len = len }) }

abbrev pub unless_posted : Bool → Session → Body → ℕ → Session
unless_posted true s b len = record s { next = next_number s.next }
unless_posted false s b len = awaiting s b len

-- The flag says that it is sent as posted. It awaits an answer exactly where it isn't posted.
abbrev pub request_sent : Session → Bool → Body → ℕ → Session
request_sent s flag b len = unless_posted (is_posted_body s.common flag b) s b len

abbrev pub request_flags : Bool → ℕ
request_flags true = 4
request_flags false = 0

abbrev pub request_of : Session → Bool → Body → Packet
request_of s flag b = record { id = s.next; flags = request_flags flag; dev = 0; body = b }

-- An answer has the flags of its request with bit 1 set.

abbrev pub answered_flags : ℕ → ℕ
answered_flags flags = if bit flags 1 then flags else flags + 2

abbrev pub answer_of : Ticket → Body → Packet
answer_of t b = record { id = t.id; flags = answered_flags t.flags; dev = t.dev; body = b }

abbrev pub sync_answered : Session → Session
sync_answered s = record s { peer_sync = None }

abbrev pub other_answered : Session → Session
other_answered s = record s { peer_other = None }
