-- A device that keeps what crosses its port. The direct machine of such devices is the direct machine with its traffic.
use Rattle.std.specs.Prelude.{ℕ, suc, Bool, true, false, List, [], ◌∷◌, ◌++◌, Option, Some, None}
use Rattle.cosim_model.specs.declared.values.Access.{Access}
use Rattle.cosim_model.specs.declared.values.Answer.{Answer}
use Rattle.cosim_model.specs.declared.values.Want.{Want}
use Rattle.cosim_model.specs.declared.values.Reply.{Reply}
use Rattle.cosim_model.specs.declared.values.Call.{Call}
use Rattle.cosim_model.specs.declared.values.Caps.{Caps}
use Rattle.cosim_model.specs.Values.{all_caps, no_caps, bytes_of, plain}
use Rattle.cosim_model.specs.declared.values.Call.TheVariants as call
use Rattle.cosim_model.specs.declared.session.Command.TheVariants as command
use Rattle.cosim_model.specs.Parts.{DeviceModel}
use Rattle.cosim_model.specs.Packets.{BusFields, Body, Packet}
use Rattle.cosim_model.specs.Packets.Body.{Read, Write, Sync}
use Rattle.cosim_model.specs.declared.session.Ticket.{Ticket}
use Rattle.cosim_model.specs.Sessions.{Session, fresh_session, next_number, hello_of, request_flags, answer_of}
use Rattle.cosim_model.specs.Sessions.{ticket_of, is_posted}
use Rattle.cosim_model.specs.declared.session.Role.TheVariants.{Machine, Device}
use Rattle.ends_model.specs.declared.ends.OpenSync.{OpenSync}
use Rattle.ends_model.specs.World.{Side}
use Rattle.ends_model.specs.Traffic.{reply_body}
use Rattle.ends_model.specs.DeviceTurn.{DeviceEnd, settled, answer_fields}
use Rattle.ends_model.specs.MachineTurn.{access_body, access_fields, time_of}

-- `next` is the machine's next number, `asks` the number of the device's present request, or of its next one. `held`:
-- the machine has taken that request. `synced`: the machine has not taken the answer of its sync, whose number is
-- `sync_id`. `last` is the time of the machine's latest request, `heard` that of the device's latest one that was
-- taken, and `count` is the packets of this wait. `out` is the packets to the device, `back` those of the device that
-- the machine has taken.
pub record Wire (S : Type 0) : Type 0 where
  pub side : Side
  pub device : S
  pub next : ℕ
  pub asks : ℕ
  pub held : Bool
  pub synced : Bool
  pub sync_id : ℕ
  pub last : ℕ
  pub heard : ℕ
  pub count : ℕ
  pub out : List Packet
  pub back : List Packet
  pub calls : List Call

-- The device end at that port: what settling makes of the end whose device has its present want and whose request is
-- not out.

abbrev pub sync_ticket : ℕ → Ticket
sync_ticket id = record { cmd = command.Sync; id = id; flags = 0; dev = 0 }

abbrev pub ticket_if : Bool → ℕ → Option Ticket
ticket_if true id = Some (sync_ticket id)
ticket_if false id = None

abbrev pub open_if : Bool → ℕ → ℕ → Option OpenSync
open_if true id time = Some (record { ticket = sync_ticket id; time = time })
open_if false id time = None

abbrev pub device_session : {S : Type 0} → Wire S → Session
device_session w = record {
  role = Device;
  offers = w.side.offer;
  needs = w.side.needs;
  next = w.asks;
  common = w.side.offer;
  hello_went = true;
  hello_came = true;
  own_sync = None;
  own_other = None;
  peer_sync = ticket_if w.synced w.sync_id;
  peer_other = None;
  peer_time = w.last;
  count = 0;
  fault = None;
}

abbrev pub unsettled : {S F : Type 0} → Wire S → DeviceEnd S F
unsettled w = record {
  device = w.device;
  answered_lines = w.side.answered_lines;
  session = device_session w;
  open_sync = open_if w.synced w.sync_id w.last;
  own = None;
  calls = w.calls;
  fault = None;
}

-- What the machine has not answered yet, with its present request in front, and what it has not taken.

abbrev pub sends_of : {S : Type 0} → (F : Type 0) → DeviceModel S → Wire S → List Packet
sends_of {S} F d w = (settled {F = F} d (unsettled w)).1

abbrev pub behind : Bool → List Packet → List Packet
behind true [] = []
behind true (m ∷ ms) = ms
behind false ms = ms

abbrev pub unread : {S : Type 0} → (F : Type 0) → DeviceModel S → Wire S → List Packet
unread F d w = behind w.held (sends_of F d w)

-- The machine takes a request, or its sync's answer.

abbrev pub take_request : {S : Type 0} → Wire S → Packet → Wire S
take_request w m = record w { held = true; heard = time_of m.body; count = suc w.count; back = w.back ++ m ∷ [] }

abbrev pub take_synced : {S : Type 0} → Wire S → Packet → Wire S
take_synced w m = record w { synced = false; count = suc w.count; back = w.back ++ m ∷ [] }

-- Where it holds no request, it takes the first packet.

abbrev pub gathered_by : {S : Type 0} → Wire S → Bool → Option Want → List Packet → Wire S
gathered_by w false (Some v) (m ∷ ms) = take_request w m
gathered_by w false None (m ∷ ms) = take_synced w m
gathered_by w _ _ _ = w

abbrev pub early : {S : Type 0} → Wire S → List Packet → Wire S
early w [] = w
early w (m ∷ ms) = take_request w m

abbrev pub answer_body : BusFields → Bool → Answer → Body
answer_body f true x = Write (answer_fields f x.code f.len [])
answer_body f false x = Read (answer_fields f x.code f.len (bytes_of x.value f.len))

-- A port after the greeting.
abbrev pub met_wire : {S : Type 0} → Side → S → Wire S
met_wire side s = record {
  side = side;
  device = s;
  next = 1;
  asks = 1;
  held = false;
  synced = false;
  sync_id = 0;
  last = 0;
  heard = 0;
  count = 1;
  out = hello_of (fresh_session Machine all_caps no_caps) ∷ [];
  back = hello_of (fresh_session Device side.offer side.needs) ∷ [];
  calls = [];
}

module _ {S : Type 0} (F : Type 0) (d : DeviceModel S) where
  abbrev pub gathered : Wire S → Wire S
  gathered w = gathered_by w w.held (d.want w.device) (unread F d w)

  -- An access. A request that is out is taken before the answer.

  abbrev pub access_packet : Wire S → ℕ → Access → Packet
  access_packet w t a = record {
    id = w.next;
    flags = request_flags a.posted;
    dev = 0;
    body = access_body w.side.offer t a;
  }

  abbrev pub access_sent : Wire S → ℕ → Access → Wire S
  access_sent w t a = record w { next = next_number w.next; last = t; out = w.out ++ access_packet w t a ∷ [] }

  abbrev pub access_answer : Wire S → ℕ → Access → Answer → Packet
  access_answer w t a x =
      answer_of (ticket_of (access_packet w t a)) (answer_body (access_fields w.side.offer t a) a.write x)

  abbrev pub did_access : Wire S → ℕ → Access → Wire S
  did_access w t a = record w {
    device = (d.access w.device t a).0;
    calls = w.calls ++ call.Access t 0 a (plain a (d.access w.device t a).1) ∷ [];
  }

  abbrev pub take_answer : Wire S → Packet → Wire S
  take_answer w m = record w { count = suc w.count; back = w.back ++ m ∷ [] }

  abbrev pub access_wire : Wire S → ℕ → Access → Bool → Wire S
  access_wire w t a true = did_access (access_sent w t a) t a
  access_wire w t a false =
      take_answer (did_access (early (record (access_sent w t a) { count = 0 }) (unread F d w)) t a)
      (access_answer w t a (plain a (d.access w.device t a).1))

  -- A boundary's sync, after which the device settles.

  abbrev pub sync_packet : Wire S → ℕ → Packet
  sync_packet w t = record { id = w.next; flags = 0; dev = 0; body = Sync t }

  abbrev pub sync_sent : Wire S → ℕ → Wire S
  sync_sent w t = record w {
    device = d.advance w.device t;
    next = next_number w.next;
    synced = true;
    sync_id = w.next;
    last = t;
    count = 0;
    out = w.out ++ sync_packet w t ∷ [];
  }

  -- A want that is served. The answer of an answered one goes out.

  abbrev pub reply_packets : Reply → Packet → Bool → List Packet
  reply_packets r m true = []
  reply_packets r m false = answer_of (ticket_of m) (reply_body r m.body) ∷ []

  abbrev pub replies_to : Reply → Caps → List Packet → List Packet
  replies_to r common [] = []
  replies_to r common (m ∷ ms) = reply_packets r m (is_posted common m)

  abbrev pub fed_wire : Wire S → Reply → Option Want → List Packet → Wire S
  fed_wire w r None ms = w
  fed_wire w r (Some v) ms = record w {
    device = d.feed w.device r;
    asks = next_number w.asks;
    held = false;
    out = w.out ++ replies_to r w.side.offer ms;
    calls = w.calls ++ call.Served (d.seen w.device) 0 (d.due w.device) v r ∷ [];
  }

  abbrev pub wired : DeviceModel (Wire S)
  wired = record {
    access = λ w t a. (access_wire w t a a.posted, (d.access w.device t a).1);
    advance = λ w t. gathered (sync_sent w t);
    want = λ w. d.want w.device;
    feed = λ w r. gathered (fed_wire w r (d.want w.device) (sends_of F d w));
    seen = λ w. d.seen w.device;
    due = λ w. d.due w.device;
    left = λ w. d.left w.device;
    needs = λ w. d.needs w.device;
  }
