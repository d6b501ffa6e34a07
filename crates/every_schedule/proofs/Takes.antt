-- The step of a session at the packets of a run.
use Rattle.std.proofs.Common.{◌≡◌, ℕ, suc, ◌<◌, ◌≤◌, Bool, true, false, not, ◌&&◌, List, [], take, Option, Some, None, Ok, refl, ap}
use Rattle.std.specs.Prelude.{nat_eq}
use Rattle.std.proofs.lemmas.Bool.{and_right}
use Rattle.cosim_model.specs.declared.values.Want.{Want}
use Rattle.cosim_model.specs.declared.values.Caps.{Caps}
use Rattle.cosim_model.specs.Values.{all_caps, no_caps, all_on, bits_of}
use Rattle.cosim_model.specs.declared.values.Want.TheVariants.{Fetch, Store, Line}
use Rattle.cosim_model.specs.declared.session.Command.TheVariants as command
use Rattle.cosim_model.specs.declared.session.Command.{Command}
use Rattle.cosim_model.specs.Packets.{BusFields, Packet, Body, code_of, enables_of}
use Rattle.cosim_model.specs.Packets.Body.{Read, Write, Interrupt, Sync}
use Rattle.cosim_model.specs.declared.session.OwnRequest.{OwnRequest}
use Rattle.cosim_model.specs.declared.session.Ticket.{Ticket}
use Rattle.cosim_model.specs.Sessions.{Session, take_packet, ticket_of, bus_beyond, fault_if, is_none_byte}
use Rattle.cosim_model.specs.declared.session.Role.TheVariants.{Machine, Device}
use Rattle.cosim_model.specs.declared.session.Event.TheVariants.{Asked, Told, Answered, SyncDone}
use Rattle.cosim_model.specs.declared.session.SessionFault.TheVariants as session_fault
use Rattle.ends_model.specs.DeviceTurn.{request_fields, want_body, is_answered}
use Rattle.every_schedule.proofs.Base.{same_number, not_below, below_limit}

abbrev pub machine_s : ℕ → Caps → Option OwnRequest → Option OwnRequest → Option Ticket → ℕ → ℕ → Session
machine_s next common own_sync own_other peer_other peer_time count = record {
  role = Machine;
  offers = all_caps;
  needs = no_caps;
  next = next;
  common = common;
  hello_went = true;
  hello_came = true;
  own_sync = own_sync;
  own_other = own_other;
  peer_sync = None;
  peer_other = peer_other;
  peer_time = peer_time;
  count = count;
  fault = None;
}

abbrev pub device_s : Caps → Caps → ℕ → Option OwnRequest → Option Ticket → Option Ticket → ℕ → Session
device_s offer needs next own_other peer_sync peer_other peer_time = record {
  role = Device;
  offers = offer;
  needs = needs;
  next = next;
  common = offer;
  hello_went = true;
  hello_came = true;
  own_sync = None;
  own_other = own_other;
  peer_sync = peer_sync;
  peer_other = peer_other;
  peer_time = peer_time;
  count = 0;
  fault = None;
}

abbrev pub own : Command → ℕ → ℕ → Option OwnRequest
own cmd id len = Some (record { cmd = cmd; id = id; len = len })

abbrev pub packet : ℕ → ℕ → Body → Packet
packet id flags body = record { id = id; flags = flags; dev = 0; body = body }

-- What an end writes needs no more than what both have.
pub nothing_beyond : (common : Caps) (time addr len : ℕ) (payload : List ℕ) (ons : List Bool) → bus_beyond common (request_fields common time addr len payload ons) ≡ None
nothing_beyond common time addr len payload ons = go common.base common.enables common.posted (all_on ons)
  where
    go : (a b c on : Bool) → bus_beyond (record { base = a; enables = b; posted = c }) (record (request_fields (record { base = a; enables = b; posted = c }) time addr len payload ons) { enables = enables_of (record { base = a; enables = b; posted = c }) ons on }) ≡ None
    go true true c true = refl
    go true true c false = ap (λ t. fault_if t (session_fault.CapMissing 2)) (and_right (not (is_none_byte (enables_of (record { base = true; enables = true; posted = c }) ons false))) false refl)
    go true false c true = refl
    go true false c false = refl
    go false true c true = refl
    go false true c false = refl
    go false false c true = refl
    go false false c false = refl

module _ (next : ℕ) (common : Caps) (os : Option OwnRequest) (po : Option Ticket) (pt count : ℕ) (few : count < 8191) where
  pub hears_read_answer : (id : ℕ) (f : BusFields) → take_packet (machine_s next common os (own command.Read id f.len) po pt count) (packet id 2 (Read f)) ≡ (machine_s next common os None po pt (suc count), Ok Answered)
  hears_read_answer id f =
      let a = below_limit count few in
      let b = same_number id in
      let c : (nat_eq (code_of f) 0 && not (nat_eq f.len f.len)) ≡ false = and_right (nat_eq (code_of f) 0) (not (nat_eq f.len f.len)) (ap not (same_number f.len)) in
      rw (a, b, c)

  pub hears_write_answer : (id len : ℕ) (f : BusFields) → take_packet (machine_s next common os (own command.Write id len) po pt count) (packet id 2 (Write f)) ≡ (machine_s next common os None po pt (suc count), Ok Answered)
  hears_write_answer id len f = rw (below_limit count few, same_number id)

  pub hears_sync_answer : (id len t : ℕ) → take_packet (machine_s next common (own command.Sync id len) None po pt count) (packet id 2 (Sync t)) ≡ (machine_s next common None None po pt (suc count), Ok SyncDone)
  hears_sync_answer id len t = rw (below_limit count few, same_number id)

  -- A want's request that is answered.
  pub hears_want : (oo : Option OwnRequest) (id due : ℕ) (v : Want) (lines : Bool) → pt ≤ due → is_answered (common.posted && lines) v ≡ true → take_packet (machine_s next common os oo None pt count) (packet id 0 (want_body common due v)) ≡ (machine_s next common os oo (Some (ticket_of (packet id 0 (want_body common due v)))) due (suc count), Ok (Asked (ticket_of (packet id 0 (want_body common due v)))))
  hears_want oo id due (Fetch addr size) lines l a = rw (below_limit count few, nothing_beyond common due addr size [] [], not_below due pt l)
  hears_want oo id due (Store addr size bytes mask) lines l a = rw (below_limit count few, nothing_beyond common due addr size (take size bytes) (bits_of mask size), not_below due pt l)
  hears_want oo id due (Line number level) lines l a =
      let w : common.posted ≡ true = both_true common.posted lines a in
      rw (below_limit count few, not_below due pt l, w)
    where
      both_true : (x y : Bool) → (x && y) ≡ true → x ≡ true
      both_true true y e = refl
      both_true false y e = e

  -- A posted line.
  pub hears_line : (s : OwnRequest) (oo : Option OwnRequest) (id due number level : ℕ) → os ≡ Some s → pt ≤ due → take_packet (machine_s next common os oo po pt count) (packet id 4 (Interrupt due 0 number level)) ≡ (machine_s next common os oo po due (suc count), Ok Told)
  hears_line s oo id due number level e l = rw (below_limit count few, not_below due pt l, e)

module _ (offer needs : Caps) (next : ℕ) (oo : Option OwnRequest) (ps : Option Ticket) (pt : ℕ) where
  pub gets_read : (id : ℕ) (f : BusFields) → bus_beyond offer f ≡ None → pt ≤ f.time → take_packet (device_s offer needs next oo ps None pt) (packet id 0 (Read f)) ≡ (device_s offer needs next oo ps (Some (ticket_of (packet id 0 (Read f)))) f.time, Ok (Asked (ticket_of (packet id 0 (Read f)))))
  gets_read id f b l = rw (b, not_below f.time pt l)

  pub gets_write : (id : ℕ) (f : BusFields) → bus_beyond offer f ≡ None → pt ≤ f.time → take_packet (device_s offer needs next oo ps None pt) (packet id 0 (Write f)) ≡ (device_s offer needs next oo ps (Some (ticket_of (packet id 0 (Write f)))) f.time, Ok (Asked (ticket_of (packet id 0 (Write f)))))
  gets_write id f b l = rw (b, not_below f.time pt l)

  pub gets_posted : (id : ℕ) (f : BusFields) (po : Option Ticket) → bus_beyond offer f ≡ None → pt ≤ f.time → take_packet (device_s offer needs next oo ps po pt) (packet id 4 (Write f)) ≡ (device_s offer needs next oo ps po f.time, Ok Told)
  gets_posted id f po b l = rw (b, not_below f.time pt l)

  pub gets_sync : (id t : ℕ) (po : Option Ticket) → pt ≤ t → take_packet (device_s offer needs next oo None po pt) (packet id 0 (Sync t)) ≡ (device_s offer needs next oo (Some (ticket_of (packet id 0 (Sync t)))) po t, Ok (Asked (ticket_of (packet id 0 (Sync t)))))
  gets_sync id t po l = rw (not_below t pt l)

  pub gets_read_answer : (id : ℕ) (f : BusFields) (po : Option Ticket) → take_packet (device_s offer needs next (own command.Read id f.len) ps po pt) (packet id 2 (Read f)) ≡ (device_s offer needs next None ps po pt, Ok Answered)
  gets_read_answer id f po =
      let c : (nat_eq (code_of f) 0 && not (nat_eq f.len f.len)) ≡ false = and_right (nat_eq (code_of f) 0) (not (nat_eq f.len f.len)) (ap not (same_number f.len)) in
      rw (same_number id, c)

  pub gets_write_answer : (id len : ℕ) (f : BusFields) (po : Option Ticket) → take_packet (device_s offer needs next (own command.Write id len) ps po pt) (packet id 2 (Write f)) ≡ (device_s offer needs next None ps po pt, Ok Answered)
  gets_write_answer id len f po = rw (same_number id)

  pub gets_line_answer : (id len time vector line val : ℕ) (po : Option Ticket) → take_packet (device_s offer needs next (own command.Interrupt id len) ps po pt) (packet id 2 (Interrupt time vector line val)) ≡ (device_s offer needs next None ps po pt, Ok Answered)
  gets_line_answer id len time vector line val po = rw (same_number id)
