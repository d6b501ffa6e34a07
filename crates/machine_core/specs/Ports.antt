-- What always holds of a port of the machine end, and what a session keeps as it takes a packet.
use Rattle.std.specs.Prelude.{◌≡◌, ◌≤◌, true, false, Option, Some, None, Result, Ok, Err}
use Rattle.cosim_model.specs.declared.session.Event.{Event}
use Rattle.cosim_model.specs.declared.session.Event.TheVariants.{Nothing, Met, Asked, Told, Answered, SyncDone}
use Rattle.cosim_model.specs.declared.session.OwnRequest.{OwnRequest}
use Rattle.cosim_model.specs.declared.session.Role.TheVariants.{Machine}
use Rattle.cosim_model.specs.declared.session.SessionFault.{SessionFault}
use Rattle.cosim_model.specs.Packets.{Body, Packet, code_of, is_response}
use Rattle.cosim_model.specs.Packets.Body.{Nop, Hello, Cfg, Read, Write, Interrupt, Sync}
use Rattle.cosim_model.specs.Sessions.{Session, is_posted, ticket_of}
use Rattle.ends_model.specs.MachineTurn.{PortEnd}
use Rattle.end_answers.specs.Packets.{IsRead}

-- the requests that a machine serves
abbrev pub IsServed : Body → Type 0
IsServed (Read f) = Unit {0}
IsServed (Write f) = Unit {0}
IsServed (Interrupt time vector line val) = Unit {0}
IsServed Nop = ⊥
IsServed (Hello major minor caps) = ⊥
IsServed (Cfg opt set) = ⊥
IsServed (Sync time) = ⊥

-- A request that a session took and that is not served. Where it is not posted, it awaits its answer.
pub record IsHeld (s : Session) (m : Packet) : Type 0 where
  pub came : s.hello_came ≡ true
  pub asks : is_response m ≡ false
  pub kind : IsServed m.body
  pub read : IsRead m
  pub awaits : is_posted s.common m ≡ false → s.peer_other ≡ Some (ticket_of m)

pub record IsPort (q : PortEnd) : Type 0 where
  pub role : q.session.role ≡ Machine
  pub held : (m : Packet) → q.held ≡ Some m → IsHeld q.session m

-- What a session keeps as it takes a packet: the own requests that are out then were out before.
pub record Keeps (s r : Session) : Type 0 where
  pub greeted : r.hello_went ≡ s.hello_went
  pub other : (o : OwnRequest) → r.own_other ≡ Some o → s.own_other ≡ Some o

-- The answer of a read has the length that was asked for, where its code is 0.
abbrev pub Fits : Option OwnRequest → Body → Type 0
Fits own (Read f) = code_of f ≡ 0 → (o : OwnRequest) × (own ≡ Some o) × (f.len ≡ o.len)
Fits own _ = Unit {0}

-- A read's answer has at most 8 bytes, where its code is 0.
abbrev pub IsShort : Body → Type 0
IsShort (Read f) = code_of f ≡ 0 → f.len ≤ 8
IsShort _ = Unit {0}

-- What a packet that was taken is, by what it is to the session: s before, and r after.
abbrev pub IsTaken : Session → Session → Packet → Event → Type 0
IsTaken s r p Nothing = r.own_sync ≡ s.own_sync
IsTaken s r p Met = r.own_sync ≡ s.own_sync
IsTaken s r p (Asked t) = (r.own_sync ≡ s.own_sync) × IsHeld r p
IsTaken s r p Told = (r.own_sync ≡ s.own_sync) × IsHeld r p
IsTaken s r p Answered = (r.own_sync ≡ s.own_sync) × (is_response p ≡ true) × (r.own_other ≡ None)
    × Fits s.own_other p.body
IsTaken s r p SyncDone = r.own_sync ≡ None

abbrev pub IsTakenOr : Session → Session → Packet → Result Event SessionFault → Type 0
IsTakenOr s r p (Ok v) = IsTaken s r p v
IsTakenOr s r p (Err f) = r.own_sync ≡ s.own_sync
