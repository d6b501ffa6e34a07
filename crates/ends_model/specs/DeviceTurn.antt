-- One turn of a device end: it sends its hello first, and then takes a packet, acts and settles.
use Rattle.std.specs.Prelude.{ℕ, zero, suc, Bool, true, false, ◌&&◌, ◌||◌, if◌then◌else◌}
use Rattle.std.specs.Prelude.{nat_eq, nat_le, List, [], ◌∷◌, ◌++◌, take, replicate, map, Option, Some, None, is_none}
use Rattle.std.specs.Prelude.{option_map, Result, Ok, Err}
use Rattle.process_network.specs.PacketStar.{LeafOutlook}
use Rattle.process_network.specs.PacketStar.LeafOutlook.{LeafActs, LeafWaits, LeafHalts}
use Rattle.cosim_model.specs.declared.values.Access.{Access}
use Rattle.cosim_model.specs.declared.values.Answer.{Answer}
use Rattle.cosim_model.specs.declared.values.Want.{Want}
use Rattle.cosim_model.specs.declared.values.Reply.{Reply}
use Rattle.cosim_model.specs.declared.values.Call.{Call}
use Rattle.cosim_model.specs.declared.values.Caps.{Caps}
use Rattle.cosim_model.specs.Values.{bytes_of, le, bits_of, from_bits, all_on, padded, no_bytes, plain}
use Rattle.cosim_model.specs.declared.values.Want.TheVariants.{Fetch, Store, Line}
use Rattle.cosim_model.specs.declared.values.Call.TheVariants as call
use Rattle.cosim_model.specs.Parts.{DeviceModel}
use Rattle.cosim_model.specs.Packets.{BusFields, Body, Packet, Decoded, code_of, enabled, enables_of, attributes_of}
pub use Rattle.cosim_model.specs.Packets.{with_code}
use Rattle.cosim_model.specs.Packets.Body.{Read, Write, Interrupt, Sync}
use Rattle.cosim_model.specs.Packets.Decoded.{Valid, Malformed}
use Rattle.cosim_model.specs.declared.session.SessionFault.{SessionFault}
use Rattle.cosim_model.specs.declared.session.Ticket.{Ticket}
use Rattle.cosim_model.specs.declared.session.Event.{Event}
use Rattle.cosim_model.specs.Sessions.{Session, take_packet, hello_of, hello_sent, request_sent, request_of, answer_of}
use Rattle.cosim_model.specs.Sessions.{sync_answered, other_answered}
use Rattle.cosim_model.specs.declared.session.Event.TheVariants.{Asked, Told, Answered}
use Rattle.cosim_model.specs.declared.session.EndFault.{EndFault}
use Rattle.cosim_model.specs.declared.session.EndFault.TheVariants as end_fault
use Rattle.ends_model.specs.declared.ends.OpenSync.{OpenSync}

-- `answered_lines` is the port's option on lines, and `own` the want whose request awaits its answer. A fault is
-- kept, and then the end takes no more turns. What it has received and not taken is not part of it.
pub record DeviceEnd (S F : Type 0) : Type 0 where
  pub device : S
  pub answered_lines : Bool
  pub session : Session
  pub open_sync : Option OpenSync
  pub own : Option Want
  pub calls : List Call
  pub fault : Option (EndFault F)

abbrev pub fresh_device : {S F : Type 0} → S → Bool → Session → DeviceEnd S F
fresh_device s answered_lines session = record {
  device = s;
  answered_lines = answered_lines;
  session = session;
  open_sync = None;
  own = None;
  calls = [];
  fault = None;
}

-- The request that a want becomes. Its time is when the want arose.

abbrev pub request_fields : Caps → ℕ → ℕ → ℕ → List ℕ → List Bool → BusFields
request_fields common time addr len payload ons = record {
  time = time;
  attributes = attributes_of common;
  addr = addr;
  len = len;
  width = 0;
  stream_width = len;
  master = 0;
  payload = payload;
  enables = enables_of common ons (all_on ons);
}

abbrev pub level_of : Bool → ℕ
level_of true = 1
level_of false = 0

abbrev pub want_body : Caps → ℕ → Want → Body
want_body common due (Fetch addr size) = Read (request_fields common due addr size [] [])
want_body common due (Store addr size bytes mask) =
    Write (request_fields common due addr size (take size bytes) (bits_of mask size))
want_body common due (Line number level) = Interrupt due 0 number (level_of level)

abbrev pub body_len : Body → ℕ
body_len (Read f) = f.len
body_len (Write f) = f.len
body_len b = 0

-- Fetches and stores are answered, and lines where both ends and the port's option say so.
abbrev pub is_answered : Bool → Want → Bool
is_answered lines (Fetch addr size) = true
is_answered lines (Store addr size bytes mask) = true
is_answered lines (Line number level) = lines

abbrev pub fetched : ℕ → ℕ → List ℕ → Reply
fetched size zero payload = record { code = 0; size = size; bytes = padded payload }
fetched size (suc code) payload = record { code = suc code; size = size; bytes = no_bytes }

abbrev pub bare_reply : ℕ → Reply
bare_reply code = record { code = code; size = 0; bytes = no_bytes }

-- The reply that an answer gives to a want.
abbrev pub reply_from : Want → Body → Reply
reply_from (Fetch addr size) (Read f) = fetched size (code_of f) f.payload
reply_from (Store addr size bytes mask) (Write f) = bare_reply (code_of f)
reply_from _ _ = bare_reply 0

-- Answers to bus requests repeat the request's fields, with the code in bits 8 to 11 of the attributes and no
-- enables. A refused read has as many zeros as it asked for, or none above 4,096.

abbrev pub answer_fields : BusFields → ℕ → ℕ → List ℕ → BusFields
answer_fields f code len payload = record {
  time = f.time;
  attributes = with_code f.attributes code;
  addr = f.addr;
  len = len;
  width = f.width;
  stream_width = f.stream_width;
  master = f.master;
  payload = payload;
  enables = [];
}

abbrev pub read_answer : BusFields → Answer → Body
read_answer f x = Read (answer_fields f x.code f.len (bytes_of x.value f.len))

abbrev pub write_answer : BusFields → Answer → Body
write_answer f x = Write (answer_fields f x.code f.len [])

abbrev pub refused_read : BusFields → Body
refused_read f =
    if nat_le f.len 4096 then Read (answer_fields f 1 f.len (replicate f.len 0)) else Read (answer_fields f 1 0 [])

abbrev pub refused_write : BusFields → Body
refused_write f = Write (answer_fields f 1 f.len [])

abbrev pub is_whole_width : BusFields → Bool
is_whole_width f = nat_eq f.stream_width 0 || nat_eq f.stream_width f.len

-- An access of 1, 2, 4 or 8 bytes.
abbrev pub is_device_size : BusFields → Bool
is_device_size f = (nat_eq f.len 1 || (nat_eq f.len 2 || (nat_eq f.len 4 || nat_eq f.len 8))) && is_whole_width f

abbrev pub access_from : Bool → Bool → BusFields → Access
access_from write posted f = record {
  write = write;
  posted = posted;
  addr = f.addr;
  size = f.len;
  value = le f.payload;
  lanes = from_bits (enabled f);
}

pub data Settling (S F : Type 0) : Type 0 where
  Ends : (e : DeviceEnd S F) (sends : List Packet) → Settling S F
  Goes_on : (e : DeviceEnd S F) (sends : Packet) → Settling S F

abbrev pub sync_answer : OpenSync → Packet
sync_answer o = answer_of o.ticket (Sync o.time)

abbrev pub closed : {S F : Type 0} → DeviceEnd S F → DeviceEnd S F
closed e = record e { session = sync_answered e.session; open_sync = None }

abbrev pub next_of : {S F : Type 0} → Settling S F → DeviceEnd S F
next_of (Ends e sends) = e
next_of (Goes_on e sends) = e

abbrev pub joined : {S F : Type 0} → Settling S F → DeviceEnd S F × List Packet → DeviceEnd S F × List Packet
joined (Ends e sends) r = (e, sends)
joined (Goes_on e sends) r = (r.0, sends ∷ r.1)

abbrev pub sent_body : Session → Bool → Body → Session
sent_body s posted b = request_sent s posted b (body_len b)

module _ {S F : Type 0} (d : DeviceModel S) where
  -- Settling: an answered want is sent; a posted line is sent and fed while a sync is open; and a sync is answered
  -- where nothing is wanted and no own request is out.

  abbrev pub own_request : DeviceEnd S F → Bool → Want → Packet
  own_request e posted w = request_of e.session posted (want_body e.session.common (d.due e.device) w)

  abbrev pub own_sent : DeviceEnd S F → Bool → Want → Session
  own_sent e posted w = sent_body e.session posted (want_body e.session.common (d.due e.device) w)

  abbrev pub asked : DeviceEnd S F → Want → DeviceEnd S F
  asked e w = record e { session = own_sent e false w; own = Some w }

  abbrev pub fed : DeviceEnd S F → Want → Reply → DeviceEnd S F
  fed e w r = record e {
    device = d.feed e.device r;
    own = None;
    calls = e.calls ++ call.Served (d.seen e.device) 0 (d.due e.device) w r ∷ [];
  }

  abbrev pub told : DeviceEnd S F → Want → DeviceEnd S F
  told e w = fed (record e { session = own_sent e true w }) w (bare_reply 0)

  -- The six cases of settling. `free` says that the peer's hello came and that no own request is out. A want comes
  -- with whether it is answered.
  abbrev pub settle_as :
      DeviceEnd S F → (free : Bool) (want : Option (Want × Bool)) (open_sync : Option OpenSync) → Settling S F
  settle_as e false want open_sync = Ends e []
  settle_as e true (Some (w, true)) open_sync = Ends (asked e w) (own_request e false w ∷ [])
  settle_as e true (Some (w, false)) (Some o) = Goes_on (told e w) (own_request e true w)
  settle_as e true (Some (w, false)) None = Ends e []
  settle_as e true None (Some o) = Ends (closed e) (sync_answer o ∷ [])
  settle_as e true None None = Ends e []

  abbrev pub with_kind : DeviceEnd S F → Want → Want × Bool
  with_kind e w = (w, is_answered (e.session.common.posted && e.answered_lines) w)

  abbrev pub settle_one : DeviceEnd S F → Settling S F
  settle_one e =
      settle_as e (e.session.hello_came && is_none e.own) (option_map (with_kind e) (d.want e.device)) e.open_sync

  -- at most so many times
  abbrev pub settle : ℕ → DeviceEnd S F → DeviceEnd S F × List Packet
  settle zero e = (e, [])
  settle (suc n) e = joined (settle_one e) (settle n (next_of (settle_one e)))

  -- Each posted line that is fed lowers `left`.
  abbrev pub settled : DeviceEnd S F → DeviceEnd S F × List Packet
  settled e = settle (suc (d.left e.device)) e

  -- What a packet does, before settling.

  abbrev pub accessed : DeviceEnd S F → ℕ → Access → DeviceEnd S F
  accessed e t a = record e {
    device = (d.access e.device t a).0;
    calls = e.calls ++ call.Access t 0 a (plain a (d.access e.device t a).1) ∷ [];
  }

  abbrev pub answer_at : DeviceEnd S F → ℕ → Access → Answer
  answer_at e t a = plain a (d.access e.device t a).1

  abbrev pub answer_read : DeviceEnd S F → Ticket → BusFields → Bool → DeviceEnd S F × List Packet
  answer_read e t f false = (record e { session = other_answered e.session }, answer_of t (refused_read f) ∷ [])
  answer_read e t f true = (
    record (accessed e f.time (access_from false false f)) { session = other_answered e.session },
    answer_of t (read_answer f (answer_at e f.time (access_from false false f))) ∷ [],
  )

  abbrev pub answer_write : DeviceEnd S F → Ticket → BusFields → Bool → DeviceEnd S F × List Packet
  answer_write e t f false = (record e { session = other_answered e.session }, answer_of t (refused_write f) ∷ [])
  answer_write e t f true = (
    record (accessed e f.time (access_from true false f)) { session = other_answered e.session },
    answer_of t (write_answer f (answer_at e f.time (access_from true false f))) ∷ [],
  )

  abbrev pub do_posted : DeviceEnd S F → BusFields → Bool → DeviceEnd S F × List Packet
  do_posted e f false = (e, [])
  do_posted e f true = (accessed e f.time (access_from true true f), [])

  abbrev pub answered_own : DeviceEnd S F → Body → Option Want → DeviceEnd S F × List Packet
  answered_own e b None = (e, [])
  answered_own e b (Some w) = (fed e w (reply_from w b), [])

  abbrev pub acts : DeviceEnd S F → Body → Event → DeviceEnd S F × List Packet
  acts e (Read f) (Asked t) = answer_read e t f (is_device_size f)
  acts e (Write f) (Asked t) = answer_write e t f (is_device_size f)
  acts e (Write f) Told = do_posted e f (is_device_size f)
  acts e (Sync time) (Asked t) =
      (record e { device = d.advance e.device time; open_sync = Some (record { ticket = t; time = time }) }, [])
  acts e b Answered = answered_own e b e.own
  acts e b _ = (e, [])

  abbrev pub then_settled : DeviceEnd S F × List Packet → DeviceEnd S F × List Packet
  then_settled r = ((settled r.0).0, r.1 ++ (settled r.0).1)

  abbrev pub device_judges : DeviceEnd S F → Packet → Session → Result Event SessionFault → DeviceEnd S F × List Packet
  device_judges e p s (Err f) = (record e { session = s; fault = Some (end_fault.Session f) }, [])
  device_judges e p s (Ok v) = then_settled (acts (record e { session = s }) p.body v)

  abbrev pub device_took : DeviceEnd S F → Packet → Session × Result Event SessionFault → DeviceEnd S F × List Packet
  device_took e p r = device_judges e p r.0 r.1

  abbrev pub device_takes : DeviceEnd S F → Decoded F → DeviceEnd S F × List Packet
  device_takes e (Malformed cause) = (record e { fault = Some (end_fault.Malformed cause) }, [])
  device_takes e (Valid p) = device_took e p (take_packet e.session p)

-- The first turn sends hello; every later one takes a packet, acts and settles.
abbrev pub device_looks :
    {S F : Type 0} → DeviceEnd S F → Option (EndFault F) → Bool → LeafOutlook (DeviceEnd S F) (Decoded F)
device_looks e (Some f) went = LeafHalts
device_looks e None false = LeafActs (record e { session = hello_sent e.session }) (Valid (hello_of e.session) ∷ [])
device_looks e None true = LeafWaits

abbrev pub device_outlook : {S F : Type 0} → DeviceEnd S F → LeafOutlook (DeviceEnd S F) (Decoded F)
device_outlook e = device_looks e e.fault e.session.hello_went

abbrev pub device_hears : {S F : Type 0} → DeviceModel S → DeviceEnd S F → Decoded F → DeviceEnd S F × List (Decoded F)
device_hears d e m = ((device_takes d e m).0, map Valid (device_takes d e m).1)
